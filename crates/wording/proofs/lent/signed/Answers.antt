-- At least one of the twenty digits is used.
use Rattle.std.proofs.Common.{arith}
use Rattle.digits.specs.Shows.{signed-room}
use Rattle.wording.proofs.lent.signed.Goals as goal

pub slice_bounds-bytes-count : goal.slice_bounds-bytes-count
slice_bounds-bytes-count c =
    let room = signed-room _ c.i64_to_digits-digits.ensures in
    omega (arith, room.whole, room.used)

pub slice_bounds-bytes-start : goal.slice_bounds-bytes-start
slice_bounds-bytes-start c =
    let room = signed-room _ c.i64_to_digits-digits.ensures in
    omega (arith, room.whole, room.used)

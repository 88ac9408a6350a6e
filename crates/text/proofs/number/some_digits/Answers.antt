-- `text::number::some_digits` meets its contract: as many digits as can be there.
use Rattle.std.proofs.Common.{arith}
use Rattle.text.proofs.Short.{short-all}
use Rattle.text.proofs.number.some_digits.Goals as goal

pub returns : goal.returns
returns c =
    let e = c.args in
    short-all e.src.now e.at (omega arith) _ c.digits_line.result (omega arith) c.digits_line.ensures (grind arith)

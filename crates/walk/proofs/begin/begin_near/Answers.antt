-- A holder's count that the next bytes tell is its head.
use Rattle.std.proofs.Common.{refl}
use Rattle.walk.proofs.begin.begin_near.Goals as goal

pub returns-in-Some : goal.returns-in-Some
returns-in-Some g c =
    let read = c.in-Some.ensures.read in
    (record { means = read.means; over = read.over }, refl, c.in-Some.ensures.kind)

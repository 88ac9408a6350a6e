-- After so many turns as many bytes are added, at most four for each.
use Rattle.std.proofs.Common.{◌+◌, ◌*◌, ◌≤◌, take}
use Rattle.wording.specs.Adds.{Adds}
use Rattle.wording.specs.Escapes.{escaped_all}
use Rattle.wording.proofs.lent.escapes.Given as goal

abbrev pub invariant-loop-b : goal.invariant-loop-b
invariant-loop-b l = record { next : l.place ≤ l.at + 4 * l.b-index; added : Adds (escaped_all (take l.b-index l.s)) l.fn.out l.at l.out l.place }

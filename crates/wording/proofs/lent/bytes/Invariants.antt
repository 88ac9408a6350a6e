-- After so many turns as many bytes are added.
use Rattle.std.proofs.Common.{◌≡◌, ◌+◌, take}
use Rattle.wording.specs.Adds.{Adds}
use Rattle.wording.proofs.lent.bytes.Given as goal

abbrev pub invariant-loop-b : goal.invariant-loop-b
invariant-loop-b l = record { next : l.place ≡ l.at + l.b-index; added : Adds (take l.b-index l.text) l.fn.out l.at l.out l.place }

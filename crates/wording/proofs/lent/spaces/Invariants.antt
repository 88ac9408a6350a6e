-- After so many turns as many spaces are added.
use Rattle.std.proofs.Common.{◌≡◌, ◌+◌, replicate}
use Rattle.wording.specs.Adds.{Adds}
use Rattle.wording.specs.Escapes.{space}
use Rattle.wording.proofs.lent.spaces.Given as goal

abbrev pub invariant-loop : goal.invariant-loop
invariant-loop l = record { next : l.place ≡ l.at + l.counter; added : Adds (replicate l.counter space) l.fn.out l.at l.out l.place }

-- The last i groups stand behind zeros.
use Rattle.std.proofs.Common.{◌≡◌}
use Rattle.digits.proofs.Fours.{so_far}
use Rattle.digits.proofs.all_digits.Given as goal

abbrev pub invariant-loop-i : goal.invariant-loop-i
invariant-loop-i l = l.bytes ≡ so_far l.n l.i

-- What the check is given beside its own rules, at the end of a line: so no answer there names a byte or a number of the code.
use Rattle.std.proofs.Common.{◌≡◌, ℕ, ◌+◌, ◌-◌, ◌<◌, ◌≤◌, List, length, get_or, drop, refl, ap, ◌∙◌, arith}
use Rattle.std.specs.Prelude.{None, Some}
use Rattle.meaning.specs.Demand.{cr, lf, line_len}
use Rattle.text.specs.Lines.{found_of, Clear}
use Rattle.text.proofs.Lines.{no_line, line-here, lone-cr, passed}

-- behind bytes that are no CR: the place r that the first part names is where `grind` looks
module _ (s : List ℕ) (r : ℕ) where
  pub line-ended : r + 1 < length s → get_or s r 0 ≡ cr → get_or s (r + 1) 0 ≡ lf
      → (get_or s (r + 1) 0 ≡ get_or s (r + 1) 0) × ((i : ℕ) → Clear cr s i r → found_of i (line_len (drop i s)) ≡ Some (r + 2))
  line-ended h p q = (refl, λ i w. passed s i r (omega arith) w ∙ ap (found_of r) (line-here s r h p q))

  pub line-goes-on : r + 1 < length s → (get_or s (r + 1) 0 ≡ lf → ⊥)
      → (get_or s (r + 1) 0 ≡ get_or s (r + 1) 0) × ((i : ℕ) → Clear cr s i r → found_of i (line_len (drop i s)) ≡ found_of (r + 1) (line_len (drop (r + 1) s)))
  line-goes-on h q = (refl, λ i w. passed s i r (omega arith) w ∙ lone-cr s r h q)

  pub line-cut : r ≤ length s → length s - r < 2
      → (length s - r ≡ length s - r) × ((i : ℕ) → Clear cr s i r → found_of i (line_len (drop i s)) ≡ None)
  line-cut l h = (refl, λ i w. passed s i r l w ∙ ap (found_of r) (no_line s r h))

pub line-none : (s : List ℕ) (i : ℕ) → Clear cr s i (length s) → found_of i (line_len (drop i s)) ≡ None
line-none s i w = passed s i (length s) (omega arith) w ∙ ap (found_of (length s)) (no_line s (length s) (omega arith))

pub ruleset line_ends = (line-ended, line-goes-on, line-cut, passed, line-none)

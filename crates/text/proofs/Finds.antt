-- What a search of the bytes from i on says of the whole buffer.
use Rattle.std.proofs.Common.{◌≡◌, ℕ, ◌+◌, ◌-◌, ◌<◌, ◌≤◌, List, length, get_or, take, drop, sym, ap, ◌∙◌, arith, length-drop, length-take-le, eq-eqb}
use Rattle.std.specs.Prelude.{Option, None, Some}
use Rattle.std.proofs.lemmas.Bool.{eqb-true}
use Rattle.std.proofs.lemmas.List.{get_or-drop, get_or-take}
use Rattle.memchr.specs.Find.{NoneBefore, Nowhere, Passes, IsFirstByte, is_byte}
use Rattle.text.specs.Lines.{Clear, Finds}
use Rattle.text.proofs.Lines.{clear-join}

module _ (b : ℕ) (s : List ℕ) (i j : ℕ) (h : i ≤ j) (l : j ≤ length s) where
  -- the bytes from i up to j, as `&s[i..j]` is them
  abbrev pub part : List ℕ
  part = take (j - i) (drop i s)

  length-part : length part ≡ j - i
  length-part = length-take-le (j - i) (drop i s) (omega (arith, length-drop i s))

  at-part : (k : ℕ) → k < j - i → get_or part k 0 ≡ get_or s (i + k) 0
  at-part k q = get_or-take (j - i) (drop i s) k 0 q ∙ get_or-drop i s k 0

  absent : (n k : ℕ) → n ≤ j - i → i ≤ k → k < i + n → Nowhere (Passes (is_byte b) part) 0 n → get_or s k 0 ≡ b → ⊥
  absent n k m p q w e =
      let z : i + (k - i) ≡ k = omega arith in
      w (k - i) (omega arith) (omega arith) (eq-eqb (get_or part (k - i) 0) b (at-part (k - i) (omega arith) ∙ ap (λ (n : ℕ). get_or s n 0) z ∙ e))

  -- where nothing was found
  pub part-clear : Nowhere (Passes (is_byte b) part) 0 (length part) → Finds b s i j None
  part-clear w = record { up = h; not = λ k p q. absent (length part) k (omega (arith, length-part)) p (omega (arith, length-part)) w }

  -- where k bytes on it was found
  pub part-found : (k : ℕ) → NoneBefore (Passes (is_byte b) part) 0 (length part) k × Passes (is_byte b) part k → Finds b s i j (Some (i + k))
  part-found k w = (
    omega (arith, length-part, w.0.high),
    record {
      clear = record { up = omega arith; not = λ m p q. absent k m (omega (arith, length-part, w.0.high)) p q w.0.before };
      within = omega (arith, length-part, w.0.high);
      there = λ n. sym (at-part k (omega (arith, length-part, w.0.high))) ∙ eqb-true (get_or part k 0) b w.1;
    },
  )

-- behind bytes that are not b
pub finds-on : {b : ℕ} {s : List ℕ} {i j : ℕ} (to : ℕ) (r : Option ℕ) → Clear b s i j → Finds b s j to r → Finds b s i to r
finds-on {s = s} {i} {j} to None v w = clear-join s i j to v w
finds-on {s = s} {i} {j} to (Some r) v w = (w.0, record { clear = clear-join s i j r v w.1.clear; within = w.1.within; there = w.1.there })

-- where the whole text was searched
pub found : (b : ℕ) (s : List ℕ) (r : Option ℕ) → IsFirstByte (is_byte b) s r → Finds b s 0 (length s) r
found b s None w = record { up = omega arith; not = λ k p q e. w k p q (eq-eqb (get_or s k 0) b e) }
found b s (Some k) w = (
  w.0.high,
  record {
    clear = record { up = omega arith; not = λ m p q e. w.0.before m p q (eq-eqb (get_or s m 0) b e) };
    within = omega (arith, w.0.high);
    there = λ l. eqb-true (get_or s k 0) b w.1;
  },
)

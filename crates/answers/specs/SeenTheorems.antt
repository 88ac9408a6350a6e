-- What the definition gives of what is seen of an answer, for every decoder, depth and place: answers that stay, and bounds.
use Rattle.std.specs.Prelude.{◌≡◌, List, ◌++◌, ℕ, ◌+◌, ◌*◌, ◌≤◌, ◌<◌, length, take, drop, None, Some, Err}
use Rattle.std.proofs.Common.{sym, ap, subst, ◌∙◌, arith}
use Rattle.std.proofs.lemmas.List.Edits.{sets, sets-eq}
use Rattle.std.proofs.Math.Seq.{take-append_seam, drop-append_seam}
use Rattle.meaning.specs.Kinds.{Profile}
use Rattle.meaning.specs.Rows.{row_width, rows_in}
use Rattle.meaning.specs.Decode.{Outcome, frame, marker, refusal, waiting, decode}
use Rattle.meaning.specs.DecodeLaws as Laws
use Rattle.meaning.specs.DecodeLaws.{Gave, OfFrame, InBounds}
use Rattle.answers.specs.Answers.{Took, rows_of, SameRows, Seen, seen, table_after, meant, Means}

-- ---- what an answer says

gave : (at n : ℕ) (a : Outcome) → Took n (seen at a) → Gave n a
gave at n (frame m u ws) h = h
gave at n (marker m u ws) h = h
gave at n (refusal k m) h = h
gave at n waiting h = h

refused : (at k p : ℕ) (a : Outcome) → Err (Some (k, p)) ≡ seen at a → (n : ℕ) × (a ≡ refusal k n)
refused at k p (frame m u ws) e = absurd (cc)
refused at k p (marker m u ws) e = absurd (cc)
refused at k p (refusal j n) e =
    let same : ◌≡◌ {A = ℕ × ℕ} (k, p) (j, at + n) = cc in
    (n, ap (λ (x : ℕ × ℕ). refusal x.0 n) (sym same))
refused at k p waiting e = absurd (cc)

-- ---- rows at the front of a table

module _ (ws t : List ℕ) (fits : length ws ≤ length t) where
  ahead : sets t 0 ws ≡ ws ++ drop (length ws) t
  ahead = let e : 0 + length ws ≡ length ws = omega arith in sets-eq ws t 0 (omega arith) ∙ ap (λ (k : ℕ). ws ++ drop k t) e

  front : take (length ws) (sets t 0 ws) ≡ ws
  front = ap (take (length ws)) ahead ∙ take-append_seam ws (drop (length ws) t)

  behind : drop (length ws) (sets t 0 ws) ≡ drop (length ws) t
  behind = ap (drop (length ws)) ahead ∙ drop-append_seam ws (drop (length ws) t)

-- two tables with room for an outcome's rows hold them alike after it
alike : (s : List ℕ) (at : ℕ) (t u : List ℕ) (a : Outcome) → rows_in (length t) ≤ rows_in (length u) → OfFrame (InBounds s at (rows_in (length t))) a
    → SameRows (seen at a) (table_after t a) (table_after u a)
alike s at t u (frame n j ws) l b =
    subst (λ (k : ℕ). take k (sets t 0 ws) ≡ take k (sets u 0 ws)) b.2 (front ws t (omega (arith, b.2, b.1)) ∙ sym (front ws u (omega (arith, b.2, b.1))))
alike s at t u (marker n j ws) l b =
    subst (λ (k : ℕ). take k (sets t 0 ws) ≡ take k (sets u 0 ws)) b.2 (front ws t (omega (arith, b.2, b.1)) ∙ sym (front ws u (omega (arith, b.2, b.1))))
alike s at t u (refusal k n) l b = cc
alike s at t u waiting l b = cc

kept : (s : List ℕ) (at : ℕ) (t : List ℕ) (a : Outcome) → OfFrame (InBounds s at (rows_in (length t))) a
    → drop (row_width * rows_of (seen at a)) (table_after t a) ≡ drop (row_width * rows_of (seen at a)) t
kept s at t (frame n j ws) b = subst (λ (k : ℕ). drop k (sets t 0 ws) ≡ drop k t) b.2 (behind ws t (omega (arith, b.2, b.1)))
kept s at t (marker n j ws) b = subst (λ (k : ℕ). drop k (sets t 0 ws) ≡ drop k t) b.2 (behind ws t (omega (arith, b.2, b.1)))
kept s at t (refusal k n) b = cc
kept s at t waiting b = cc

in_bounds : (s : List ℕ) (at lim n : ℕ) (a : Outcome) → OfFrame (InBounds s at lim) a → Took n (seen at a) → (at + n ≤ length s) × (rows_of (seen at a) ≤ lim)
in_bounds s at lim n (frame m u ws) b h = (omega (arith, b.0), b.1)
in_bounds s at lim n (marker m u ws) b h = (omega (arith, b.0), b.1)
in_bounds s at lim n (refusal k m) b h = absurd h
in_bounds s at lim n waiting b h = absurd h

-- ---- of a decode of s, from a place of it, into a table that held t₀, with the answer r

module _ (π : Profile) (d : ℕ) (s : List ℕ) (at : ℕ) (inside : at ≤ length s) (t₀ t₁ : List ℕ) (r : Seen) (w : Means π d s at t₀ t₁ r) where
  took : (n : ℕ) → Took n r → Gave n (meant π d s at t₀)
  took n h = gave at n (meant π d s at t₀) (subst (Took n) w.says h)

  bounds : OfFrame (InBounds s at (rows_in (length t₀))) (meant π d s at t₀)
  bounds = Laws.frame-within π d (rows_in (length t₀)) s at inside

  -- A frame or marker lies in the buffer, and its rows in the table.
  pub frame-within : (n : ℕ) → Took n r → (at + n ≤ length s) × (rows_of r ≤ rows_in (length t₀))
  frame-within n h =
      subst (λ (x : Seen). (at + n ≤ length s) × (rows_of x ≤ rows_in (length t₀))) (sym w.says)
      (in_bounds s at (rows_in (length t₀)) n (meant π d s at t₀) bounds (subst (Took n) w.says h))

  -- Words past its rows stay; where there are no rows, all do.
  pub rest-stays : drop (row_width * rows_of r) t₁ ≡ drop (row_width * rows_of r) t₀
  rest-stays =
      ap (drop (row_width * rows_of r)) w.leaves
      ∙ subst (λ (x : Seen). drop (row_width * rows_of x) (table_after t₀ (meant π d s at t₀)) ≡ drop (row_width * rows_of x) t₀) (sym w.says) (kept s at t₀ (meant π d s at t₀) bounds)

  module _ (u₀ u₁ : List ℕ) (q : Seen) where
    -- A frame's n bytes, followed by any, in a table of as many rows or more, give the same answer and the same rows.
    pub frame-larger : (x : List ℕ) (n : ℕ) → rows_in (length t₀) ≤ rows_in (length u₀) → Took n r → Means π d (take (at + n) s ++ x) at u₀ u₁ q
        → (q ≡ r) × SameRows r t₁ u₁
    frame-larger x n larger h e =
        let m : meant π d (take (at + n) s ++ x) at u₀ ≡ meant π d s at t₀ =
        Laws.frame-larger π d (rows_in (length t₀)) s at inside n (rows_in (length u₀)) x (took n h) larger in (
          e.says ∙ ap (seen at) m ∙ sym w.says,
          ap (take (row_width * rows_of r)) w.leaves
              ∙ subst (λ (y : Seen). SameRows y (table_after t₀ (meant π d s at t₀)) (table_after u₀ (meant π d s at t₀))) (sym w.says)
              (alike s at t₀ u₀ (meant π d s at t₀) larger bounds)
              ∙ ap (take (row_width * rows_of r)) (sym (e.leaves ∙ ap (table_after u₀) m)),
        )

    -- Fewer than its n bytes, in a table of as many rows, are unfinished and leave the table.
    pub frame-least : (n m : ℕ) → rows_in (length u₀) ≡ rows_in (length t₀) → Took n r → m < n → Means π d (take (at + m) s) at u₀ u₁ q
        → (q ≡ Err None) × (u₁ ≡ u₀)
    frame-least n m even h l e =
        let v : meant π d (take (at + m) s) at u₀ ≡ waiting =
        subst (λ (k : ℕ). decode π d k (take (at + m) s) at ≡ waiting) (sym even) (Laws.frame-least π d (rows_in (length t₀)) s at inside n m (took n h) l) in
        (e.says ∙ ap (seen at) v, e.leaves ∙ ap (table_after u₀) v)

    module _ (x : List ℕ) (k p : ℕ) (is : r ≡ Err (Some (k, p))) (e : Means π d (s ++ x) at u₀ u₁ q) where
      again : (n : ℕ) → meant π d s at t₀ ≡ refusal k n → meant π d (s ++ x) at u₀ ≡ refusal k n → (q ≡ r) × (u₁ ≡ u₀)
      again n here v = (e.says ∙ ap (seen at) (v ∙ sym here) ∙ sym w.says, e.leaves ∙ ap (table_after u₀) v)

      -- A refusal stays the same under any later bytes, in a table of as many rows ..
      pub refusal-later : rows_in (length u₀) ≡ rows_in (length t₀) → (q ≡ r) × (u₁ ≡ u₀)
      refusal-later even =
          let a = refused at k p (meant π d s at t₀) (sym is ∙ w.says) in
          again a.0 a.1
          (subst (λ (j : ℕ). decode π d j (s ++ x) at ≡ refusal k a.0) (sym even) (Laws.refusal-later π d (rows_in (length t₀)) s at inside k a.0 x a.1))

      -- .. and of more, unless it was for want of one.
      pub refusal-larger : rows_in (length t₀) ≤ rows_in (length u₀) → (k ≡ 11 → ⊥) → (q ≡ r) × (u₁ ≡ u₀)
      refusal-larger larger other =
          let a = refused at k p (meant π d s at t₀) (sym is ∙ w.says) in
          again a.0 a.1 (Laws.refusal-larger π d (rows_in (length t₀)) s at inside k a.0 (rows_in (length u₀)) x a.1 other larger)

-- What the promise of a decode call gives, in the numbers that it tells: answers that stay, and bounds, proved of every decoder's promise in `answers`.
use Rattle.std.specs.Prelude.{◌≡◌, List, ◌++◌, ℕ, ◌+◌, ◌*◌, ◌≤◌, ◌<◌, length, take, drop, None, Some, Err}
use Rattle.std.proofs.Math.Path.{refl, sym, ap, subst}
use Rattle.std.proofs.Common.{◌∙◌, arith}
use Rattle.meaning.specs.Kinds.{Profile}
use Rattle.meaning.specs.Rows.{row_width, rows_in}
use Rattle.meaning.specs.Frames.{depth_limit}
use Rattle.answers.specs.Answers.{Seen, seen, meant, Means, told_of, Took, rows_of}
use Rattle.answers.specs.SeenTheorems as Every
use Rattle.answers.specs.declared.Told.{Told}
use Rattle.imrazgul.specs.Calls.{DecodeCall}
use Rattle.imrazgul.specs.Theorems.{IsFrame, IsRefusal, took, rows, refused}

-- ---- of a call on s, from a place of it, with a table that held t₀: it told r

module _ (π : Profile) (s : List ℕ) (at : ℕ) (inside : at ≤ length s) (t₀ t₁ : List ℕ) (r : Told) (w : DecodeCall π s at t₀ t₁ r) where
  said : Seen
  said = seen at (meant π depth_limit s at t₀)

  decodes : Means π depth_limit s at t₀ t₁ said
  unfolding said
  decodes = record { says = refl; leaves = w.leaves }

  takes : IsFrame r → Took r.consumed said
  unfolding said
  takes h = subst (λ (x : Told). IsFrame x → Took x.consumed said) (sym w.says) (took said) h

  spans : r.rows ≡ rows_of said
  unfolding said
  spans = ap (λ (x : Told). x.rows) w.says ∙ rows said

  -- A frame or marker lies in the buffer, and its rows in the table.
  pub frame-within : IsFrame r → (at + r.consumed ≤ length s) × (r.rows ≤ rows_in (length t₀))
  frame-within h =
      let b = Every.frame-within π depth_limit s at inside t₀ t₁ said decodes r.consumed (takes h) in
      (b.0, omega (arith, b.1, spans))

  -- Words past its rows stay; where there are no rows, all do.
  pub rest-stays : drop (row_width * r.rows) t₁ ≡ drop (row_width * r.rows) t₀
  rest-stays = rw spans (Every.rest-stays π depth_limit s at inside t₀ t₁ said decodes)

  module _ (u₀ u₁ : List ℕ) (q : Told) where
    other : (x : List ℕ) → DecodeCall π x at u₀ u₁ q → Means π depth_limit x at u₀ u₁ (seen at (meant π depth_limit x at u₀))
    other x e = record { says = refl; leaves = e.leaves }

    -- The frame's bytes, followed by any, in a table of as many rows or more, give the same numbers and the same rows.
    pub frame-larger : (x : List ℕ) → rows_in (length t₀) ≤ rows_in (length u₀) → IsFrame r → DecodeCall π (take (at + r.consumed) s ++ x) at u₀ u₁ q
        → (q ≡ r) × (take (row_width * r.rows) t₁ ≡ take (row_width * r.rows) u₁)
    unfolding said
    frame-larger x larger h e =
        let b = Every.frame-larger π depth_limit s at inside t₀ t₁ said decodes u₀ u₁ (seen at (meant π depth_limit (take (at + r.consumed) s ++ x) at u₀)) x r.consumed larger (takes h) (other _ e) in
        (e.says ∙ ap told_of b.0 ∙ sym w.says, rw spans b.1)

    -- Fewer bytes, in a table of as many rows, are unfinished and leave the table.
    pub frame-least : (m : ℕ) → rows_in (length u₀) ≡ rows_in (length t₀) → IsFrame r → m < r.consumed → DecodeCall π (take (at + m) s) at u₀ u₁ q
        → (q ≡ told_of (Err None)) × (u₁ ≡ u₀)
    frame-least m even h l e =
        let b = Every.frame-least π depth_limit s at inside t₀ t₁ said decodes u₀ u₁ (seen at (meant π depth_limit (take (at + m) s) at u₀)) r.consumed m even (takes h) l (other _ e) in
        (e.says ∙ ap told_of b.0, b.1)

    module _ (x : List ℕ) (k : ℕ) (is : IsRefusal k r) (e : DecodeCall π (s ++ x) at u₀ u₁ q) where
      refuses : (p : ℕ) × (said ≡ Err (Some (k, p)))
      unfolding said
      refuses = refused k said (subst (IsRefusal k) w.says is)

      -- A refusal stays the same under any later bytes, in a table of as many rows ..
      pub refusal-later : rows_in (length u₀) ≡ rows_in (length t₀) → (q ≡ r) × (u₁ ≡ u₀)
      unfolding said
      refusal-later even =
          let b = Every.refusal-later π depth_limit s at inside t₀ t₁ said decodes u₀ u₁ (seen at (meant π depth_limit (s ++ x) at u₀)) x k refuses.0 refuses.1 (other _ e) even in
          (e.says ∙ ap told_of b.0 ∙ sym w.says, b.1)

      -- .. and of more, unless it was for want of one.
      pub refusal-larger : rows_in (length t₀) ≤ rows_in (length u₀) → (k ≡ 11 → ⊥) → (q ≡ r) × (u₁ ≡ u₀)
      unfolding said
      refusal-larger larger roomy =
          let b = Every.refusal-larger π depth_limit s at inside t₀ t₁ said decodes u₀ u₁ (seen at (meant π depth_limit (s ++ x) at u₀)) x k refuses.0 refuses.1 (other _ e) larger roomy in
          (e.says ∙ ap told_of b.0 ∙ sym w.says, b.1)

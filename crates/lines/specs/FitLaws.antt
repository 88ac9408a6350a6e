-- Which rows fit, kind by kind.
use Rattle.std.specs.Prelude.{◌≡◌, List, Bool, true, false, ◌&&◌, ℕ, eqb, leb, length}
use borrow.Author.Tests.{eq-eqb, ne_eqb}
use Rattle.meaning.specs.Kinds.{Profile, number_kind, null_kind, array_kind}
use Rattle.meaning.specs.Rows.{Node}
use Rattle.meaning.specs.Encode.{has_text, row_is_fit}

-- whether words 1 and 2 are the ends of a text in s
abbrev pub lies_in : List ℕ → ℕ → ℕ → Bool
lies_in s from to = leb from to && leb to (length s)

-- whether two words are 0
abbrev pub blank_words : ℕ → ℕ → Bool
blank_words a b = eqb a 0 && eqb b 0

pub marked-fits : (π : Profile) (s : List ℕ) (h : Node) → (h.attribute ≡ 0 → ⊥) → row_is_fit π s h ≡ false
unfolding row_is_fit
marked-fits π s h a = rw (ne_eqb h.attribute 0 a)

module _ (π : Profile) (s : List ℕ) (h : Node) (a : h.attribute ≡ 0) where
  pub text-fits : has_text h.kind ≡ true → row_is_fit π s h ≡ (lies_in s h.w1 h.w2 && eqb h.w3 0)
  unfolding row_is_fit
  text-fits t = rw (eq-eqb h.attribute 0 a, t)

  module _ (t : has_text h.kind ≡ false) where
    pub number_fits : h.kind ≡ number_kind → row_is_fit π s h ≡ blank_words h.w2 h.w3
    unfolding row_is_fit
    number_fits k = rw (eq-eqb h.attribute 0 a, t, k)

    pub null-fits : h.kind ≡ null_kind → row_is_fit π s h ≡ (eqb h.w1 0 && eqb h.w2 0 && eqb h.w3 0)
    unfolding row_is_fit
    null-fits k = rw (eq-eqb h.attribute 0 a, t, k)

    pub array-fits : h.kind ≡ array_kind → row_is_fit π s h ≡ blank_words h.w1 h.w2
    unfolding row_is_fit
    array-fits k = rw (eq-eqb h.attribute 0 a, t, k)

    pub other_fits : (h.kind ≡ number_kind → ⊥) → (h.kind ≡ null_kind → ⊥) → (h.kind ≡ array_kind → ⊥) → row_is_fit π s h ≡ false
    unfolding row_is_fit
    other_fits n u k =
        rw (eq-eqb h.attribute 0 a, t, ne_eqb h.kind number_kind n, ne_eqb h.kind null_kind u, ne_eqb h.kind array_kind k)

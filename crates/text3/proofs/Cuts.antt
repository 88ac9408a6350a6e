-- The parts of a text as the library finds them, and how long they are together.
use mathlib.Core.Path.{◌≡◌, refl, sym, ap, ◌∙◌}
use mathlib.Core.List.{List, [], ◌∷◌}
use mathlib.Core.Bool.{Bool, true, false, cond}
use Prim.Native.Nat.{ℕ, suc, ◌+◌, ◌-◌, ◌≤◌}
use Prim.Native.Char.{code}
use native.Mathlib.Omega.{arith}
use lib.ListN.{length, take, drop}
use lib.Dec.{eqb, ltb}
use borrow.Author.Tests.{ltb-true, ltb-false}
use Rattle.std.specs.Prelude.{Option, Some, None}
use Rattle.std.specs.List.{slice_split, onto_first, position_or_len}
use Rattle.std.proofs.lemmas.List.{take_rest}
use Rattle.std.proofs.lemmas.Option.{same_Some}
use Rattle.std.proofs.lemmas.List.Splits.{slice_split_first, slice_split_none}
use Rattle.std.proofs.lemmas.List.Sums.{fails_before_first}
use Rattle.meaning.specs.Choice.{pick}
use Rattle.meaning.specs.Text.{parts, cons_part}
use Rattle.text3.specs.Parts.{spread}

abbrev pub is_space : ℕ → Bool
is_space b = eqb b (code " ")

pub parts_is : (l : List ℕ) → parts l ≡ slice_split is_space l
unfolding parts
parts_is [] = refl
parts_is (c ∷ r) = go (is_space c) (parts r) (slice_split is_space r) (parts_is r)
  where
    go : (b : Bool) (ps qs : List (List ℕ)) → ps ≡ qs → pick b ([] ∷ ps) (cons_part c ps) ≡ cond b ([] ∷ qs) (onto_first c qs)
    go true ps qs e = rw e
    go false [] qs e = rw (← e)
    go false (p ∷ ps) qs e = rw (← e)

-- where a search for a space leads
abbrev pub first_space : List ℕ → Option ℕ
first_space l = cond (ltb (position_or_len is_space l) (length l)) (Some (position_or_len is_space l)) None

-- what the search found, by whether there is a space
found : (l : List ℕ) (b : Bool) → ltb (position_or_len is_space l) (length l) ≡ b → first_space l ≡ cond b (Some (position_or_len is_space l)) None
found l b h = rw h

pub cut_some : (l : List ℕ) (r : Option ℕ) (n : ℕ) → r ≡ first_space l → r ≡ Some n → parts l ≡ take n l ∷ parts (take (length l - (n + 1)) (drop (n + 1) l))
cut_some l r n e f = go (ltb (position_or_len is_space l) (length l)) refl
  where
    go : (b : Bool) → ltb (position_or_len is_space l) (length l) ≡ b → parts l ≡ take n l ∷ parts (take (length l - (n + 1)) (drop (n + 1) l))
    go true h =
        let at : n ≡ position_or_len is_space l = same_Some n (position_or_len is_space l) (sym f ∙ (e ∙ found l true h)) in
        rw (take_rest, at, parts_is l, parts_is (drop (position_or_len is_space l + 1) l)) (slice_split_first is_space l 0 (ltb-true _ _ h))
    go false h = let z = found l false h in cc

pub cut_none : (l : List ℕ) (r : Option ℕ) → r ≡ first_space l → r ≡ None → parts l ≡ l ∷ []
cut_none l r e f = go (ltb (position_or_len is_space l) (length l)) refl
  where
    go : (b : Bool) → ltb (position_or_len is_space l) (length l) ≡ b → parts l ≡ l ∷ []
    go true h = let z = found l true h in cc
    go false h =
        let w : length l ≤ position_or_len is_space l = ltb-false _ _ h in
        parts_is l ∙ slice_split_none is_space l (λ k d i. fails_before_first is_space l k d (omega arith))

spread-cons : (c : ℕ) (ps : List (List ℕ)) (n : ℕ) → spread ps ≡ n + 1 → spread (cons_part c ps) ≡ n + 2
unfolding spread
spread-cons c [] n e = omega arith
spread-cons c (p ∷ ps) n e = omega arith

pub spread-parts : (l : List ℕ) → spread (parts l) ≡ length l + 1
unfolding spread parts
spread-parts [] = refl
spread-parts (c ∷ r) = go (is_space c) (spread-parts r)
  where
    go : (b : Bool) → spread (parts r) ≡ length r + 1 → spread (pick b ([] ∷ parts r) (cons_part c (parts r))) ≡ suc (length r) + 1
    go true e = omega arith
    go false e = omega (arith, spread-cons c (parts r) (length r) e)

-- there is a first part
pub some-parts : (l : List ℕ) → parts l ≡ [] → ⊥
unfolding spread
some-parts l e = omega (arith, spread-parts l, ap spread e)

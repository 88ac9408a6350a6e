-- A Number, and a sized kind, as one read after another.
use Rattle.std.specs.Prelude.{◌≡◌, ℕ, ◌-◌, ◌≤◌, Bool, true, false, ltb, List, length, take}
use Rattle.std.proofs.Common.{refl, ap, ◌∙◌, arith, ltb-false}
use borrow.Author.Tests.{ne_eqb}
use Rattle.std.proofs.Math.Option as math
use Rattle.meaning.specs.Choice.{pick}
use Rattle.meaning.specs.Demand.{line}
use Rattle.meaning.specs.Prog.{Prog, ret, ask, bind}
use Rattle.meaning.specs.Text.{Num, plus, minus, signed, Length, count, minus_one}
use Rattle.meaning.specs.Kinds.{Profile, resp3, number_kind, blob_error_kind, verbatim_kind, chunked_string_kind, push_kind, attribute_kind}
use Rattle.meaning.specs.Frames.{Step, leaf, number_p, numbered, length_p, takes_plain, length_for, sized}
use Rattle.text.specs.Numbers.{count_p, counted, value_p, valued}
use Rattle.text.specs.Reads.{reads, ◌>>=◌}
use Rattle.text.proofs.Chain.{reads_bind}
use Rattle.leaf.specs.Leaves.{follow}

-- a line's text
abbrev text : List ℕ → List ℕ
text c = take (length c - 2) c

module _ (s : List ℕ) (at : ℕ) where
  -- a Number, in either protocol: its value, as a leaf
  pub reads_number : reads (number_p resp3) s at ≡ (reads value_p s at >>= λ v n. reads (ret (leaf number_kind v 0 0)) s n)
  unfolding bind
  reads_number = ap (λ (p : Prog Step). reads p s at) (λ i. ask line (λ c. alike (signed (text c)) i)) ∙ reads_bind value_p (λ v. ret (leaf number_kind v 0 0)) s at
    where
      alike : (x : math.Option Num) → numbered x ≡ bind (valued x) (λ v. ret (leaf number_kind v 0 0))
      alike math.none = refl
      alike (math.some (plus n)) = refl
      alike (math.some (minus n)) = refl

  -- a sized kind: its length, and what follows that
  pub reads_length : (π : Profile) (k : ℕ) (f : ℕ → Prog Step) → reads (length_p π k f) s at ≡ (reads (count_p (takes_plain k) π.three) s at >>= λ n m. reads (follow π k f n) s m)
  unfolding bind
  reads_length π k f = ap (λ (p : Prog Step). reads p s at) (λ i. ask line (λ c. alike (length_for π k (text c)) i)) ∙ reads_bind (count_p (takes_plain k) π.three) (follow π k f) s at
    where
      alike : (x : math.Option Length) → sized π k f x ≡ bind (counted x) (follow π k f)
      alike math.none = refl
      alike (math.some (count n)) = refl
      alike (math.some minus_one) = refl

-- a number that is no kind's code takes no plain length, as 0 does not
pub known_plain : (k : ℕ) → takes_plain (pick (ltb k 23) k 0) ≡ takes_plain k
known_plain k = go (ltb k 23) refl
  where
    past : 23 ≤ k → takes_plain k ≡ false
    past h =
        rw (ne_eqb k blob_error_kind (λ e. omega arith), ne_eqb k verbatim_kind (λ e. omega arith), ne_eqb k chunked_string_kind (λ e. omega arith), ne_eqb k push_kind (λ e. omega arith), ne_eqb k attribute_kind (λ e. omega arith)) refl

    go : (b : Bool) → ltb k 23 ≡ b → takes_plain (pick b k 0) ≡ takes_plain k
    go true e = refl
    go false e = rw (past (ltb-false k 23 e)) refl

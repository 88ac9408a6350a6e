-- What a check answers on a text, handed on, is what the text's meaning is handed on as.
use Rattle.std.specs.Prelude.{◌≡◌, refl, Bool, true, false, List, ◌∷◌, [], ℕ, ◌^◌, eqb, ltb, Option, Some, None}
use Rattle.std.proofs.Math.Option.{none, some}
use Rattle.std.proofs.Math.Option as math
use Prim.Native.Char.{code}
use Rattle.meaning.specs.Choice.{pick}
use Rattle.meaning.specs.Text.{Num, plus, minus, count, minus_one, digits, below64, plain_length}
use Rattle.meaning.specs.Text as Text
use Rattle.text.specs.Numbers.{plain_as, length_as, word_as}
use Rattle.text3.specs.Words.{word_number, bit_of}
use Rattle.text_calls.specs.Answers.{word_in, length_in, bit_in, length_answer, number_answer, boolean_answer}

-- a plain length is never -1
below-right : (o : math.Option ℕ) → word_in (plain_as (below64 o)) ≡ length_answer (below64 o)
below-right none = refl
below-right (some n) = go (ltb n (2 ^ 64))
  where
    go : (b : Bool) → word_in (plain_as (pick b (some (count n)) none)) ≡ length_answer (pick b (some (count n)) none)
    go true = refl
    go false = refl

pub plain_right : (l : List ℕ) → word_in (plain_as (plain_length l)) ≡ length_answer (plain_length l)
unfolding plain_length
plain_right [] = refl
plain_right (c ∷ r) = go (eqb c (code "+"))
  where
    go : (b : Bool) → word_in (plain_as (pick b (below64 (digits r)) (below64 (digits (c ∷ r))))) ≡ length_answer (pick b (below64 (digits r)) (below64 (digits (c ∷ r))))
    go true = below-right (digits r)
    go false = below-right (digits (c ∷ r))

pub length_right : (o : math.Option Text.Length) → length_in (length_as o) ≡ length_answer o
length_right none = refl
length_right (some (count n)) = refl
length_right (some minus_one) = refl

pub number_right : (o : math.Option Num) → word_in (word_as o) ≡ number_answer o
number_right none = refl
number_right (some (plus n)) = refl
number_right (some (minus n)) = refl

pub boolean_right : (o : Option Bool) → bit_in o ≡ boolean_answer (word_number bit_of o)
boolean_right None = refl
boolean_right (Some b) = refl

-- What the answers on one of two words say, by the meaning's numbers.
use Rattle.std.specs.Prelude.{List, Bool, true, false, ℕ, Option, Some, None}
use Rattle.std.proofs.Math.Option as Math
use Rattle.meaning.specs.Choice.{pick}
use Rattle.meaning.specs.Text.{same}
use Rattle.text3.specs.declared.verbatim.Format.{Format}
use Rattle.text3.specs.declared.verbatim.Format.TheVariants.{Text, Markdown}

-- one of two words, given by their bytes: the meaning's `one_of` has them as literals
abbrev pub one_word : {A : Type 0} → List ℕ → A → List ℕ → A → List ℕ → Option A
one_word first a second b s = pick (same s first) (Some a) (pick (same s second) (Some b) None)

-- the number of an answer, if there is one
abbrev pub word_number : {A : Type 0} → (A → ℕ) → Option A → Math.Option ℕ
word_number code None = Math.none
word_number code (Some a) = Math.some (code a)

-- true is 1
abbrev pub bit_of : Bool → ℕ
bit_of true = 1
bit_of false = 0

abbrev pub format_code : Format → ℕ
format_code Text = 1
format_code Markdown = 2

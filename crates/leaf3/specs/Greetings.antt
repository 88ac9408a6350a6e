-- HELLO's answer as a step of the meaning, where its fields stand, and that its promise allows one answer.
use Rattle.std.specs.Prelude.{◌≡◌, ℕ, ◌+◌, ◌-◌, ◌≤◌, Some, Result}
use Rattle.std.proofs.Common.{ap}
use Rattle.std.proofs.Math.Option as math
use Rattle.meaning.specs.Hello.{HelloLine, hello_line}
use Rattle.meaning.specs.Kinds.{resp3}
use Rattle.meaning.specs.Frames.{Step, leaf, greeting, holder, hello_p}
use Rattle.refusal.specs.declared.Stop.{Stop}
use Rattle.text.specs.declared.cursor.Cursor.{Cursor}
use Rattle.text.specs.Reads.{Gives}
use Rattle.text3.specs.declared.hello.Greeting.{Greeting}
use Rattle.text3.specs.Hello.{fields_of, Places, one_answer}
use Rattle.leaf.specs.Answers.{Same, one-answer}

abbrev pub greeted_as : Greeting → Step
greeted_as g = greeting g.version (fields_of g)

-- a line from `at` on ends before `next`, and its fields stand in it
abbrev pub PlacesIn : ℕ → ℕ → Greeting → Type 0
PlacesIn at next g = (at + 2 ≤ next) × Places at (next - 2) (Some g)

-- the line of a greeting, back from its step
line_of : Step → math.Option HelloLine
line_of (greeting v f) = math.some (hello_line f v)
line_of (leaf k a b c) = math.none
line_of (holder k n) = math.none

pub same_greeting : (g h : Greeting) → greeted_as g ≡ greeted_as h → g ≡ h
unfolding line_of
same_greeting g h e = let z : Some g ≡ Some h = one_answer (Some g) (Some h) (ap line_of e) in cc

-- Any two answers that the promise allows are the same.
pub one-greeted : (c : Cursor) (r q : Result (Greeting × Cursor) Stop) → Gives (hello_p resp3) greeted_as c r → Gives (hello_p resp3) greeted_as c q → Same r q
one-greeted c r q a b = one-answer (hello_p resp3) greeted_as same_greeting c r q a b

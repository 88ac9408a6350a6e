-- A leaf whose kind is any number, as a step of the meaning, and that its promise allows one answer.
use Rattle.std.specs.Prelude.{◌≡◌, Result}
use Rattle.std.proofs.Common.{ap}
use Rattle.meaning.specs.Prog.{Prog}
use Rattle.meaning.specs.Frames.{Step, leaf, greeting, holder}
use Rattle.refusal.specs.declared.Stop.{Stop}
use Rattle.text.specs.declared.cursor.Cursor.{Cursor}
use Rattle.text.specs.Reads.{Gives}
use Rattle.leaf.specs.Answers.{Same, one-answer}
use Rattle.leaf.specs.declared.numbered.Words.{Words}

abbrev pub words_of : Words → Step
words_of w = leaf w.kind w.w1 w.w2 w.w3

-- the words back from their step
words_back : Step → Words
words_back (leaf k a b c) = record { kind = k; w1 = a; w2 = b; w3 = c }
words_back (greeting v f) = record { kind = 0; w1 = 0; w2 = 0; w3 = 0 }
words_back (holder k n) = record { kind = 0; w1 = 0; w2 = 0; w3 = 0 }

pub same_words : (x y : Words) → words_of x ≡ words_of y → x ≡ y
unfolding words_back
same_words x y e = ap words_back e

-- Any two answers that the promise allows are the same.
pub one-numbered : (p : Prog Step) (c : Cursor) (r q : Result (Words × Cursor) Stop) → Gives p words_of c r → Gives p words_of c q → Same r q
one-numbered p c r q a b = one-answer p words_of same_words c r q a b

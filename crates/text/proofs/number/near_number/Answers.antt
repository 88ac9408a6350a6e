-- `text::number::near_number` meets its contract: a short line says the same as the line of any length.
use Rattle.std.proofs.Common.{refl}
use Rattle.text.proofs.Short.{short-within, short-value, short-sign, sign-within}
use Rattle.text.proofs.number.near_number.Goals as goal

pub invariant_of-result : goal.invariant_of-result
invariant_of-result c = record { within = short-within _ _ c.args.c.within _ _ c.in-Some.ensures }

pub returns-in-Some : goal.returns-in-Some
returns-in-Some c = record { means = short-value _ _ _ _ c.in-Some.ensures; over = refl }

pub invariant_of-result-2 : goal.invariant_of-result-2
invariant_of-result-2 c = record { within = sign-within _ _ _ _ c.in_ok-value.ensures c.in_ok-minus.ensures }

pub returns : goal.returns
returns c = record { means = rw c.signed_word.ensures (short-sign _ _ _ _ c.in_ok-value.ensures c.in_ok-minus.minus c.in_ok-minus.ensures); over = refl }

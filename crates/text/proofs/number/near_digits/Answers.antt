-- `text::number::near_digits` meets its contract: a short line says the same as the line of any length.
use Rattle.std.proofs.Common.{refl}
use Rattle.text.proofs.Short.{short-within, short-value, short-count, sign-within, short-plus, plus-count}
use Rattle.text.proofs.number.near_digits.Goals as goal

pub invariant_of-result : goal.invariant_of-result
invariant_of-result c = record { within = short-within _ _ c.args.c.within _ _ c.in-Some.ensures }

pub returns-in-Some-clause-value : goal.returns-in-Some-clause-value
returns-in-Some-clause-value c = record { means = short-value _ _ _ _ c.in-Some.ensures; over = refl }

pub returns-in-Some-clause-count : goal.returns-in-Some-clause-count
returns-in-Some-clause-count c = λ plain three. record { means = short-count _ _ _ _ c.in-Some.ensures plain three; over = refl }

pub invariant_of-result-2 : goal.invariant_of-result-2
invariant_of-result-2 c = record { within = sign-within _ _ _ _ c.in_ok-value.ensures c.in_ok-sign_at.ensures }

pub returns-clause-value : goal.returns-clause-value
returns-clause-value c = record { means = short-plus _ _ _ _ (rw c.if-branch.false at c.in_ok-sign_at.ensures) c.in_ok-value.ensures; over = refl }

pub returns-clause-count : goal.returns-clause-count
returns-clause-count c = λ plain three. record { means = plus-count _ _ _ _ (rw c.if-branch.false at c.in_ok-sign_at.ensures) c.in_ok-value.ensures plain three; over = refl }

-- `text::number::near_absent` meets its contract: a short line of -1 says the same as the line of any length.
use Rattle.std.proofs.Common.{refl}
use Rattle.text.proofs.Short.{absent-count, minus-within}
use Rattle.text.proofs.number.near_absent.Goals as goal

pub invariant_of-result : goal.invariant_of-result
invariant_of-result c = record { within = minus-within _ _ _ _ c.in_ok-at.ensures }

pub returns : goal.returns
returns c = λ three. record { means = absent-count _ _ _ _ c.in_ok-at.ensures three refl; over = refl }

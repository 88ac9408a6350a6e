-- The table's digit rule is computed here, once.
use Rattle.digits.specs.Steps.{ones_digit}
use Rattle.std.proofs.Common.{rules}
use Rattle.digits.proofs.Table.{entry}
use Rattle.digits.proofs.ones.Goals as goal

pub returns : goal.returns
returns c = search (rules, entry ones_digit)

-- The table's digit rule is computed here, once.
use Rattle.digits.specs.Steps.{tens_digit}
use Rattle.std.proofs.Common.{rules}
use Rattle.digits.proofs.Table.{entry}
use Rattle.digits.proofs.tens.Goals as goal

pub returns : goal.returns
returns c = search (rules, entry tens_digit)

-- `text3::parts::Parts::new` meets its contract.
use Rattle.std.proofs.Common.{arith}
use Rattle.text3.proofs.Cuts.{spread-parts}
use Rattle.text3.proofs.parts.Parts.new.Goals as goal

pub returns-clause-place : goal.returns-clause-place
returns-clause-place c = omega (arith, spread-parts c.args.text.now)

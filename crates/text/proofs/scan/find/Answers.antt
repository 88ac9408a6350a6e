use Rattle.text.proofs.Finds.{found}
use Rattle.text.proofs.scan.find.Goals as goal

pub returns : goal.returns
returns c = found c.args.b _ _ c.memchr.ensures

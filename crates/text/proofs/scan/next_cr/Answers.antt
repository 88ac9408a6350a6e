-- `text::scan::next_cr` meets its contract: behind the first bytes, what the search of the others says.
use Rattle.text.proofs.Finds.{finds-on}
use Rattle.text.proofs.scan.next_cr.Goals as goal

pub returns : goal.returns
returns c = finds-on _ _ c.in_default.ensures c.far_cr.ensures

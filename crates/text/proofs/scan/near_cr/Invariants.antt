-- `text::scan::near_cr` meets its contract. The invariant: no CR from `from` up to i.
use Rattle.meaning.specs.Demand.{cr}
use Rattle.text.specs.Lines.{Clear}
use Rattle.text.proofs.scan.near_cr.Given as goal

abbrev pub invariant-loop-i : goal.invariant-loop-i
invariant-loop-i l = Clear cr l.s l.from l.i

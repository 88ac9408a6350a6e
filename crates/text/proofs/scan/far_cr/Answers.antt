-- `text::scan::far_cr` meets its contract: what the search of the bytes from `from` on says of the whole buffer.
use Rattle.std.proofs.Common.{length, arith}
use Rattle.text.proofs.Finds.{part-clear, part-found}
use Rattle.text.proofs.scan.far_cr.Goals as goal

pub returns-in_err-ahead : goal.returns-in_err-ahead
returns-in_err-ahead c = rw c.from_residual.ensures (part-clear _ c.args.s.now _ (length c.args.s.now) (omega arith) (omega arith) c.in_err-ahead.ensures)

pub returns : goal.returns
returns c = part-found _ c.args.s.now _ (length c.args.s.now) (omega arith) (omega arith) _ c.in_ok-ahead.ensures

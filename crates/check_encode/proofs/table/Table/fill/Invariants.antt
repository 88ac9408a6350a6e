-- What is said makes what is left shorter.
use Rattle.std.proofs.Common.{length}
use Rattle.check_encode.proofs.table.Table.fill.Given as goal

abbrev pub decreases-loop-rest : goal.decreases-loop-rest
decreases-loop-rest l = length l.rest

-- After k turns the last k digits stand at the end.
use Rattle.std.proofs.Common.{◌≤◌}
use Rattle.lines.proofs.Steps.{Written}
use Rattle.lines.proofs.writer.Writer.digits.Given as goal

abbrev pub invariant-loop-place : goal.invariant-loop-place
invariant-loop-place l = record { low : l.at ≤ l.place; written : Written l.fn.self.out.now l.n l.end l.out l.place l.left }

-- The place stays in the window.
use Rattle.std.proofs.Common.{◌≤◌, length}
use Rattle.show.proofs.frame.FrameDisplay.fmt.Given as goal

abbrev pub invariant-loop-i : goal.invariant-loop-i
invariant-loop-i g l = l.at ≤ length l.self.window.now

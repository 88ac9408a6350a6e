-- The place stays in the window.
use Rattle.std.proofs.Common.{◌≤◌, length}
use Rattle.show.proofs.capture.Capture.show.Given as goal

abbrev pub invariant-loop : goal.invariant-loop
invariant-loop l = l.at ≤ length l.window

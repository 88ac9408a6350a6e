-- Each turn leaves one.
use Rattle.show.proofs.frame.Holders.leave.Given as goal

abbrev pub decreases-loop-self : goal.decreases-loop-self
decreases-loop-self l = l.self.depth

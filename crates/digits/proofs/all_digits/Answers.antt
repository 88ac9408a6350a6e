-- One group of four digits more at each turn.
use Rattle.std.proofs.Common.{refl, sym, ◌∙◌, arith}
use Rattle.meaning.specs.Digits.{padded}
use Rattle.meaning.specs.DigitLaws.{padded-low}
use Rattle.digits.proofs.Fours.{group-more}
use Rattle.digits.proofs.all_digits.Goals as goal

pub returns-then-n-lt10000 : goal.returns-then-n-lt10000
unfolding padded
returns-then-n-lt10000 c = c.quad.ensures ∙ sym (padded-low 16 4 c.args.n (omega arith))

pub loop-i-init : goal.loop-i-init
unfolding padded
loop-i-init c = refl

pub loop-i-preserved : goal.loop-i-preserved
loop-i-preserved c = rw (c.quad-in-loop-i.ensures, c.groups-groups.ensures) (group-more c.args.n c.loop-i.i c.loop-i.bytes (omega arith) c.loop-i.invariant)

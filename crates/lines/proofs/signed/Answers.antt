-- The sign and the magnitude, as the machine reads the number back.
use Rattle.lines.proofs.Signs.{sign-read}
use Rattle.lines.proofs.signed.Goals as goal

pub returns : goal.returns
returns c = rw (c.unsigned_abs.ensures.value, c.cast_signed-n.ensures) (sign-read c.args.word c.ranges.word.fits)

-- A power of ten says how many zeros stand before the first digit.
use Rattle.std.proofs.Common.{◌-◌, arith}
use Rattle.meaning.specs.DigitLaws.{zeros-digit, zeros-digits, shown-length}
use Rattle.digits.proofs.width.Goals as goal

pub returns-then-n-lt10 : goal.returns-then-n-lt10
returns-then-n-lt10 c = grind (arith, shown-length c.args.n, zeros-digit 19 c.args.n)

pub returns-else-n-lt10 : goal.returns-else-n-lt10
returns-else-n-lt10 c =
    let k = c.ilog10.result in
    grind (arith, shown-length c.args.n, zeros-digits (19 - k) k c.args.n)

-- A backslash, an x, and the two digits.
use Rattle.std.proofs.Common.{◌≡◌, ◌-◌, ◌^◌, [], Some, false, arith}
use Rattle.std.proofs.lemmas.Grind.{common_steps}
use Rattle.std.proofs.Output.{has_written_of_eq}
use Rattle.std.specs.Fmt.{styled_digits_output, padded_integral, format_spec, digits}
use Rattle.wording.specs.Escapes.{escaped}
use Rattle.wording.specs.EscapeLaws.{two-digits}
use Rattle.wording.proofs.escape.Goals as goal

pub returns-in_default : goal.returns-in_default
unfolding escaped
returns-in_default g c =
    let two : styled_digits_output c.in_radix.result c.laid_out.result ≡ Some (padded_integral (format_spec 32 0 4 2 (2 ^ 64 - 1)) false [] (digits 16 false c.args.byte)) = rw (c.laid_out.ensures, c.in_radix.ensures) in
    let w = rw two at c.write.ensures.writes in
    λ p q. has_written_of_eq _ _ _ _ _ (rw (two-digits c.args.byte (omega arith)) (grind (arith, common_steps))) (w p q)

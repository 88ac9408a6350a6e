-- The digits are those of the number that the machine reads back from n's bits.
use Rattle.std.proofs.Common.{subst, rules}
use Rattle.std.specs.Prelude.{ℤ}
use mir.Facts.{to_z-of_z}
use mir.Syntax.{w64}
use Rattle.meaning.specs.Digits.{signed_digits_of}
use Rattle.imrazgul.specs.Calls.{DigitsCall}
use Rattle.imrazgul.proofs.imrazgul_i64_digits.Goals as goal

pub returns : goal.returns
returns c =
    let d = c.i64_to_digits-d in
    subst (λ (z : ℤ). DigitsCall (signed_digits_of z) d.result.bytes d.result.unused) (to_z-of_z {w = w64} {z = c.args.n} (search rules))
    (record { says = d.ensures.unused; leaves = d.ensures.bytes })

-- The number that a word is in two's complement, by its sign and its magnitude.
use Rattle.std.proofs.Common.{◌≡◌, refl, ap, ◌∙◌, Bool, true, false, ℕ, suc, ◌-◌, ◌^◌, ◌<◌, ◌≤◌, ℤ, pos, negsuc, nat_abs, arith, ltb-true, ltb-false, le-ltb, w64, to_z, of_z, ltb}
use Rattle.std.proofs.Math.Facts.{to_z-of_z, to_z_pos, to_z-neg, sfits_to_z}
use Rattle.std.specs.Int.Signed.{lt_z}
use Rattle.meaning.specs.DigitLaws.{shown-word, shown-minus-word}
use Rattle.meaning.specs.Encode.{integer_text}
use Rattle.lines.specs.LineLaws.{signed_text}

-- as the machine reads it back
abbrev pub read : ℤ → ℤ
read z = to_z w64 (of_z w64 z)

module _ (w : ℕ) (l : w < 2 ^ 64) where
  by-half : (b : Bool) → ltb w (2 ^ 63) ≡ b → integer_text w ≡ signed_text (lt_z (to_z w64 w) (pos 0)) (nat_abs (to_z w64 w))
  by-half true e = let h = ltb-true w (2 ^ 63) e in rw (to_z_pos w64 h, le-ltb w 0 (omega arith)) (shown-word w h)
  by-half false e =
      let h : 2 ^ 63 ≤ w = ltb-false w (2 ^ 63) e in
      let k : ℕ = 2 ^ 64 - w - 1 in
      let is : w ≡ 2 ^ 64 - suc k = omega arith in
      let m : suc k ≡ 2 ^ 64 - w = omega arith in
      let z : to_z w64 w ≡ negsuc k = ap (to_z w64) is ∙ to_z-neg w64 k (omega arith) in
      rw (z, m) (shown-minus-word w h l)

  pub sign-read : integer_text w ≡ signed_text (lt_z (read (to_z w64 w)) (pos 0)) (nat_abs (read (to_z w64 w)))
  sign-read = rw (to_z-of_z {w = w64} {z = to_z w64 w} (sfits_to_z {w = w64} (record { fits = l }))) (by-half (ltb w (2 ^ 63)) refl)

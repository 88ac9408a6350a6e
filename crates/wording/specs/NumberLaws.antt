-- Numbers as `{}` writes them are the digits of RULES 4.3.
use Rattle.std.specs.Prelude.{◌≡◌, List, [], ◌∷◌, ◌++◌, ℕ, suc, ◌+◌, ◌-◌, ◌/◌, ◌%◌, ◌^◌, ◌<◌, ◌≤◌, ℤ, pos, negsuc}
use Rattle.std.proofs.Common.{sym, ap, ◌∙◌, arith, mod-eq_of_lt}
use Rattle.std.specs.Fmt.{decimal, signed_decimal}
use Rattle.std.specs.Int.Signed.{mag}
use Rattle.std.proofs.lemmas.Fmt.{decimal_by_steps}
use Rattle.meaning.specs.Digits.{padded, zeros, digits_of, signed_digits_of, shown}
use Rattle.meaning.specs.DigitLaws.{zeros-digit, zeros-front, zeros-skip, zeros-padded, shown-padded, shown-minus}

one-digit : (n : ℕ) → n < 10 → (48 + n) ∷ [] ≡ shown (digits_of n)
unfolding padded
one-digit n h =
    let z : zeros (padded 20 n) ≡ 19 = zeros-digit 19 n h in
    let m : n % 10 ≡ n = mod-eq_of_lt h in
    sym (shown-padded n ∙ rw (z, m))

-- one digit more
digit-more : (n : ℕ) → 10 ≤ n → n < 10 ^ 20 → shown (digits_of (n / 10)) ++ ((48 + n % 10) ∷ []) ≡ shown (digits_of n)
unfolding padded
digit-more n h l =
    let m : ℕ = n / 10 in
    let d : List ℕ = (48 + n % 10) ∷ [] in
    let some : 0 < m = omega arith in
    let few : m < 10 ^ 19 = omega arith in
    let u : ℕ = zeros (padded 19 m) in
    let low : u ≤ 18 = zeros-padded 18 m in
    let all : zeros (padded 20 n) ≡ u = zeros-front 19 m d some few in
    let front : zeros (padded 20 m) ≡ 1 + u = zeros-skip 1 18 m few in
    let fewer : 20 - zeros (padded 20 m) ≡ 19 - u = omega arith in
    let one_more : 20 - zeros (padded 20 n) ≡ suc (19 - u) = omega arith in
    let of_m : shown (digits_of m) ≡ padded (19 - u) m = shown-padded m ∙ ap (λ (j : ℕ). padded j m) fewer in
    let of_n : shown (digits_of n) ≡ padded (suc (19 - u)) n = shown-padded n ∙ ap (λ (j : ℕ). padded j n) one_more in
    ap (λ (t : List ℕ). t ++ d) of_m ∙ sym of_n

pub decimal-shown : (n : ℕ) → n < 2 ^ 64 → decimal n ≡ shown (digits_of n)
decimal-shown n h =
    decimal_by_steps (λ m ds. m < 10 ^ 20 → ds ≡ shown (digits_of m))
    (λ m l b. one-digit m l)
    (λ m ds l before b. ap (λ (t : List ℕ). t ++ ((48 + m % 10) ∷ [])) (before (omega arith)) ∙ digit-more m l b)
    n h (omega arith)

pub signed-shown : (z : ℤ) → mag z < 2 ^ 63 → signed_decimal z ≡ shown (signed_digits_of z)
unfolding signed_digits_of
signed-shown (pos n) h = decimal-shown n (omega arith)
signed-shown (negsuc n) h = ap (λ (t : List ℕ). 45 ∷ t) (decimal-shown (suc n) (omega arith)) ∙ sym (shown-minus n (omega arith))

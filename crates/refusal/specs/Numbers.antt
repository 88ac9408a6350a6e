-- The number of each refusal (RULES 3.4).
use Rattle.std.specs.Prelude.{◌≡◌, ◌⊎◌, ℕ, ◌<◌, Result, MatchResult}
use Rattle.refusal.specs.declared.Refusal.{Refusal}
use Rattle.refusal.specs.declared.UnknownNumber.{UnknownNumber}

abbrev pub number_of : Refusal → ℕ
number_of Refusal.Type = 1
number_of Refusal.Length = 2
number_of Refusal.Text = 3
number_of Refusal.Format = 4
number_of Refusal.Hello = 5
number_of Refusal.Marker = 6
number_of Refusal.Attribute = 7
number_of Refusal.Key = 8
number_of Refusal.Carrier = 9
number_of Refusal.Depth = 10
number_of Refusal.Rows = 11

-- the refusal with this number, or an error with a number that none has
abbrev pub Names : ℕ → Result Refusal UnknownNumber → Type 0
Names n r = MatchResult r (λ refusal. number_of refusal ≡ n) (λ e. (e.0 ≡ n) × ((n ≡ 0) ⊎ (11 < n)))

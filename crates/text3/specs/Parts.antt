-- The parts that are left of a line, and what a call for the next one gives.
use Rattle.std.specs.Prelude.{◌≡◌, List, [], ◌∷◌, ℕ, ◌+◌, ◌-◌, length, Option, MatchOption}
use Rattle.std.specs.Option.{option_map_or}
use Rattle.meaning.specs.Text.{parts}
use Rattle.text3.specs.declared.hello.Span.{Span}
use Rattle.text3.specs.declared.parts.Part.{Part}
use Rattle.text3.specs.declared.parts.Parts.{Parts}

abbrev pub parts_left : Parts → List (List ℕ)
parts_left s = option_map_or (λ text. parts text.now) s.left []

-- how long a line of these parts is, and one byte more
unfoldable pub spread : List (List ℕ) → ℕ
spread [] = 0
spread (p ∷ ps) = length p + 1 + spread ps

-- where the first part that is left starts; past the line's end by one byte where none is
abbrev pub place : Parts → ℕ
place s = s.end + 1 - spread (parts_left s)

-- a call gave the first part that was left, where it stands, or none where none was left
abbrev pub GivesPart : Parts → Option Part → Parts → Type 0
GivesPart s r t = MatchOption r ((parts_left s ≡ []) × (parts_left t ≡ []))
    (λ p. (parts_left s ≡ p.text.now ∷ parts_left t) × (p.span.from ≡ place s) × (p.span.to ≡ p.span.from + length p.text.now) × (place t ≡ p.span.to + 1))

-- where the one part stands that was left, or none where it was not one
abbrev pub IsOnly : Parts → Option Span → Type 0
IsOnly s r = MatchOption r ((p : List ℕ) → parts_left s ≡ p ∷ [] → ⊥)
    (λ span. (p : List ℕ) × (parts_left s ≡ p ∷ []) × (span.from ≡ place s) × (span.to ≡ span.from + length p))

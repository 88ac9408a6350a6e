-- A list as its records.
use Rattle.std.specs.Prelude.{◌≡◌, List, [], ◌∷◌, ℕ, length}
use Rattle.std.specs.List.{FoldsTo}

-- The list is these records, one after the other. `parses s r t` says that r is at the front of s, and t behind it.
unfoldable pub IsMadeOf : {R : Type 0} → (List ℕ → R → List ℕ → Type 0) → List ℕ → List R → Type 0
IsMadeOf parses s [] = s ≡ []
IsMadeOf parses s (r ∷ rs) = (t : List ℕ) × parses s r t × IsMadeOf parses t rs

-- The list is so many records, and a state takes them one after the other: `takes p r q` says that p takes r and is q then.
pub record Holds {R F : Type 0} (parses : List ℕ → R → List ℕ → Type 0) (takes : F → R → F → Type 0) (s : List ℕ) (state : F) (count : ℕ) : Type 0 where
  pub records : List R
  pub last : F
  pub counted : count ≡ length records
  pub whole : IsMadeOf parses s records
  pub held : FoldsTo takes state records last

-- Records that are held, one more at the front.
use Rattle.std.specs.Prelude.{◌≡◌, refl, List, [], ◌∷◌, ℕ, suc}
use Rattle.std.proofs.Common.{ap}
use Rattle.lists.specs.Records.{IsMadeOf, Holds}

module _ {R F : Type 0} (parses : List ℕ → R → List ℕ → Type 0) (takes : F → R → F → Type 0) where
  pub none_held : (s : List ℕ) (p : F) → s ≡ [] → Holds parses takes s p 0
  unfolding IsMadeOf
  none_held s p e = record { records = []; last = p; counted = refl; whole = e; held = refl }

  pub one_more : (s t : List ℕ) (p q : F) (r : R) (n : ℕ) → parses s r t → takes p r q → Holds parses takes t q n → Holds parses takes s p (suc n)
  unfolding IsMadeOf
  one_more s t p q r n a b h = record { records = r ∷ h.records; last = h.last; counted = ap suc h.counted; whole = (t, a, h.whole); held = (q, b, h.held) }

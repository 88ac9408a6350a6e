-- No two refusals have one number.
use Rattle.std.specs.Prelude.{◌≡◌, refl, List, [], ◌∷◌, ℕ, get_or}
use Rattle.std.proofs.Common.{sym, ap, ◌∙◌}
use Rattle.refusal.specs.declared.Refusal.{Refusal}
use Rattle.refusal.specs.declared.Refusal.TheVariants as Refusal
use Rattle.refusal.specs.Numbers.{number_of}

-- by their numbers, from 1 on
abbrev in_order : List Refusal
in_order =
    Refusal.Type ∷ Refusal.Length ∷ Refusal.Text ∷ Refusal.Format ∷ Refusal.Hello ∷ Refusal.Marker ∷ Refusal.Attribute ∷ Refusal.Key ∷ Refusal.Carrier ∷ Refusal.Depth ∷ Refusal.Rows ∷ []

named : ℕ → Refusal
named n = get_or (Refusal.Type ∷ in_order) n Refusal.Type

found : (r : Refusal) → named (number_of r) ≡ r
unfolding named
found Refusal.Type = refl
found Refusal.Length = refl
found Refusal.Text = refl
found Refusal.Format = refl
found Refusal.Hello = refl
found Refusal.Marker = refl
found Refusal.Attribute = refl
found Refusal.Key = refl
found Refusal.Carrier = refl
found Refusal.Depth = refl
found Refusal.Rows = refl

pub one-number : (r q : Refusal) → number_of r ≡ number_of q → r ≡ q
one-number r q e = sym (found r) ∙ ap named e ∙ found q

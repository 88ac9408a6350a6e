-- The places that a greeting names stand in its line, user, password and name in order.
use Rattle.std.specs.Prelude.{◌≡◌, Bool, true, false, List, [], ◌∷◌, ℕ, ◌+◌, ◌&&◌, length, Option}
use Rattle.std.proofs.Common.{refl, sym, ap, subst, ◌∙◌, arith}
use Rattle.std.proofs.Math.Option as Math
use Rattle.meaning.specs.Choice.{pick}
use Rattle.meaning.specs.Text.{parts, is, codes, version}
use Rattle.meaning.specs.Kinds.{name_kind}
use Rattle.meaning.specs.Rows.{Forest, end}
use Rattle.meaning.specs.Hello.{HelloLine, hello_line, part, greets, versioned, field_of, auth_fields, hello_of}
use Rattle.text3.specs.declared.hello.Greeting.{Greeting}
use Rattle.text3.specs.Hello.{greeting_of, Places, told, told_by, told-greeting_of}
use Rattle.text3.specs.Parts.{spread}
use Rattle.text3.proofs.Words.{same-even}
use Rattle.text3.proofs.Cuts.{spread-parts}
use Rattle.text3.proofs.Greetings.{by_count, version_length}

-- ---- by the number of parts

module _ (at to : ℕ) where
  abbrev Stand : Math.Option HelloLine → Type 0
  Stand o = Places at to (told o)

  -- a line of these parts, if its words are right
  greeted : (ps : List (List ℕ)) (ok : Bool) (f : Forest)
      → ((v : ℕ) → is "ELLO" (part ps 0) ≡ true → ok ≡ true → Math.some v ≡ version (part ps 1) → Stand (Math.some (hello_line f v)))
      → Stand (greets ps ok f)
  unfolding told
  greeted ps ok f g = go (is "ELLO" (part ps 0)) ok (version (part ps 1)) g
    where
      go : (a b : Bool) (o : Math.Option ℕ) → ((v : ℕ) → a ≡ true → b ≡ true → Math.some v ≡ o → Stand (Math.some (hello_line f v)))
          → Stand (pick (a && b) (versioned f o) Math.none)
      go true true (Math.some v) g = g v refl refl refl
      go true true Math.none g = tt
      go true false o g = tt
      go false b o g = tt

  two : (ps : List (List ℕ)) → Stand (greets ps true end)
  unfolding told told_by
  two ps = greeted ps true end (λ v a b n. tt)

  four : (ps : List (List ℕ)) → at + spread ps ≡ to + 1 → length ps ≡ 4
      → Stand (greets ps (is "SETNAME" (part ps 2)) (field_of name_kind (at + 15) (part ps 3) end))
  unfolding told told_by spread codes
  four (h ∷ n ∷ x ∷ m ∷ []) room e =
      greeted (h ∷ n ∷ x ∷ m ∷ []) (is "SETNAME" x) (field_of name_kind (at + 15) m end)
      (λ v a b f.
      let s = same-even h (codes "ELLO") a in let t = same-even x (codes "SETNAME") b in let o = version_length n v f in
      (omega arith, omega arith, omega arith))
  four [] room e = absurd (omega arith)
  four (h ∷ []) room e = absurd (omega arith)
  four (h ∷ n ∷ []) room e = absurd (omega arith)
  four (h ∷ n ∷ x ∷ []) room e = absurd (omega arith)
  four (h ∷ n ∷ x ∷ m ∷ y ∷ ps) room e = absurd (omega arith)

  five : (ps : List (List ℕ)) → at + spread ps ≡ to + 1 → length ps ≡ 5 → Stand (greets ps (is "AUTH" (part ps 2)) (auth_fields at ps end))
  unfolding told told_by spread codes
  five (h ∷ n ∷ x ∷ u ∷ p ∷ []) room e =
      greeted (h ∷ n ∷ x ∷ u ∷ p ∷ []) (is "AUTH" x) (auth_fields at (h ∷ n ∷ x ∷ u ∷ p ∷ []) end)
      (λ v a b f.
      let s = same-even h (codes "ELLO") a in let t = same-even x (codes "AUTH") b in let o = version_length n v f in
      ((omega arith, omega arith, omega arith), (omega arith, omega arith, omega arith), tt))
  five [] room e = absurd (omega arith)
  five (h ∷ []) room e = absurd (omega arith)
  five (h ∷ n ∷ []) room e = absurd (omega arith)
  five (h ∷ n ∷ x ∷ []) room e = absurd (omega arith)
  five (h ∷ n ∷ x ∷ u ∷ []) room e = absurd (omega arith)
  five (h ∷ n ∷ x ∷ u ∷ p ∷ y ∷ ps) room e = absurd (omega arith)

  both_true : (a b : Bool) → (a && b) ≡ true → (a ≡ true) × (b ≡ true)
  both_true true b e = (refl, e)
  both_true false b e = cc

  seven : (ps : List (List ℕ)) → at + spread ps ≡ to + 1 → length ps ≡ 7
      → Stand (greets ps (is "AUTH" (part ps 2) && is "SETNAME" (part ps 5))
      (auth_fields at ps (field_of name_kind (at + 12 + length (part ps 3) + 1 + length (part ps 4) + 9) (part ps 6) end)))
  unfolding told told_by spread codes
  seven (h ∷ n ∷ x ∷ u ∷ p ∷ y ∷ m ∷ []) room e =
      greeted (h ∷ n ∷ x ∷ u ∷ p ∷ y ∷ m ∷ []) (is "AUTH" x && is "SETNAME" y)
      (auth_fields at (h ∷ n ∷ x ∷ u ∷ p ∷ y ∷ m ∷ []) (field_of name_kind (at + 12 + length u + 1 + length p + 9) m end))
      (λ v a b f.
      let words = both_true (is "AUTH" x) (is "SETNAME" y) b in
      let s = same-even h (codes "ELLO") a in let o = version_length n v f in
      let t = same-even x (codes "AUTH") words.0 in let w = same-even y (codes "SETNAME") words.1 in
      ((omega arith, omega arith, omega arith), (omega arith, omega arith, omega arith), (omega arith, omega arith, omega arith)))
  seven [] room e = absurd (omega arith)
  seven (h ∷ []) room e = absurd (omega arith)
  seven (h ∷ n ∷ []) room e = absurd (omega arith)
  seven (h ∷ n ∷ x ∷ []) room e = absurd (omega arith)
  seven (h ∷ n ∷ x ∷ u ∷ []) room e = absurd (omega arith)
  seven (h ∷ n ∷ x ∷ u ∷ p ∷ []) room e = absurd (omega arith)
  seven (h ∷ n ∷ x ∷ u ∷ p ∷ y ∷ []) room e = absurd (omega arith)
  seven (h ∷ n ∷ x ∷ u ∷ p ∷ y ∷ m ∷ z ∷ ps) room e = absurd (omega arith)

  line : (ps : List (List ℕ)) → at + spread ps ≡ to + 1 → Stand (hello_of at ps)
  unfolding told
  line ps room = by_count at ps Stand (λ _. two ps) (four ps room) (five ps room) (seven ps room) tt

-- what `hello` ensures has each place in the line
pub places : (at : ℕ) (text : List ℕ) (r : Option Greeting) → greeting_of r ≡ hello_of at (parts text) → Places at (at + length text) r
places at text r e =
    subst (Places at (at + length text)) (ap told (sym e) ∙ told-greeting_of r)
    (line at (at + length text) (parts text) (omega (arith, spread-parts text)))

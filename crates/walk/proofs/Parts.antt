-- A frame, or an attribute and then the frame that it belongs to: the loop over such parts.
use Rattle.std.specs.Prelude.{◌≡◌, Bool, true, false, ◌&&◌, not, ℕ, ◌+◌, ◌≤◌, ◌<◌, List, Result, Ok, Err, eqb}
use Rattle.std.proofs.Common.{refl, sym, ap, subst, ◌∙◌, arith, ne_eqb}
use borrow.Author.Tests.{eqb-true}
use Rattle.meaning.specs.Choice.{pick}
use Rattle.meaning.specs.Kinds.{Profile, kind_of, lookup, may_carry, simple_string_kind, simple_error_kind, number_kind, blob_string_kind, array_kind, attribute_kind}
use Rattle.meaning.specs.Frames.{body_p, frame_p}
use Rattle.kinds.specs.Codes.{code_of}
use Rattle.refusal.specs.declared.Refusal.{Refusal}
use Rattle.refusal.specs.declared.Stop.{Stop}
use Rattle.text.specs.declared.cursor.Cursor.{Cursor}
use Rattle.text.specs.Reads.{Gives, byte_p}
use Rattle.walk.specs.declared.walked.Walked.{Walked}
use Rattle.walk.specs.Walks.{Walks}
use Rattle.walk.specs.Keys.{is_judged}
use Rattle.walk.specs.Tops.{Known, typed_p}
use Rattle.walk.proofs.Steps.{typed-attribute, typed-body, annotated-full, annotated-short, annotated-twice, annotated-stops, annotated-dropped, annotated-carried, attribute-stops, attributed}

-- The frame of kind k that an attribute belongs to, behind its type byte. The attribute began at a cursor with its row; t₁: the table behind it; `used`: the rows.
pub record Carried (π : Profile) (d : ℕ) (w : Bool) (c : Cursor) (lim row : ℕ) (t₀ t₁ : List ℕ) (k attribute used : ℕ) (place : Cursor) : Type 0 where
  pub carrier : Walked
  pub between : Cursor
  pub first : Walks (body_p π (frame_p π d) 0 attribute_kind) w c lim (row + 1) row t₀ t₁ (Ok (carrier, between))
  pub rows : used ≡ carrier.used
  pub word : attribute ≡ row + 1
  pub byte : ℕ
  pub read : Gives byte_p (λ b. b) between (Ok (byte, place))
  pub kind : k ≡ kind_of π byte
  pub other : eqb k attribute_kind ≡ false

-- the part that is read next: of a frame of kind k₀ itself, or of the frame that it belongs to
pub data Part (π : Profile) (d k₀ : ℕ) (w : Bool) (c : Cursor) (lim row : ℕ) (t₀ t₁ : List ℕ) (k attribute used : ℕ) (place : Cursor) : Type 0 where
  own : t₁ ≡ t₀ → k ≡ k₀ → attribute ≡ 0 → used ≡ row → place ≡ c → Part π d k₀ w c lim row t₀ t₁ k attribute used place
  belongs : eqb k₀ attribute_kind ≡ true → Carried π d w c lim row t₀ t₁ k attribute used place → Part π d k₀ w c lim row t₀ t₁ k attribute used place

drops : (b y : Bool) → (b && not y) ≡ true → y ≡ false
drops true true e = cc
drops true false e = refl
drops false y e = cc

carries : (row : ℕ) (y : Bool) → (not (eqb (row + 1) 0) && not y) ≡ false → y ≡ true
carries row true e = refl
carries row false e = let f : eqb (row + 1) 0 ≡ false = ne_eqb (row + 1) 0 (λ x. omega (arith, x)) in let z : true ≡ false = rw f at e in cc

-- a kind that a type byte has
pub known : (π : Profile) (b k : ℕ) → k ≡ kind_of π b → Known π k
unfolding kind_of lookup
known π b k e three = rw (e, three) (second (eqb 43 b) (eqb 45 b) (eqb 58 b) (eqb 36 b) (eqb 42 b))
  where
    plain : ℕ → Type 0
    plain n = (eqb n attribute_kind ≡ false) × (is_judged n ≡ false)

    second : (o p q r s : Bool) → plain (pick o simple_string_kind (pick p simple_error_kind (pick q number_kind (pick r blob_string_kind (pick s array_kind 0)))))
    second true p q r s = (refl, refl)
    second false true q r s = (refl, refl)
    second false false true r s = (refl, refl)
    second false false false true s = (refl, refl)
    second false false false false true = (refl, refl)
    second false false false false false = (refl, refl)

module _ (π : Profile) (d k₀ : ℕ) {w : Bool} {c : Cursor} {lim row : ℕ} {t₀ t : List ℕ} {k a used : ℕ} {place : Cursor} {t₂ : List ℕ} where
  own-part : {r : Result (Walked × Cursor) Stop} → t ≡ t₀ → k ≡ k₀ → a ≡ 0 → used ≡ row → place ≡ c → Walks (body_p π (frame_p π d) a k) w place lim (used + 1) used t t₂ r
      → Walks (body_p π (frame_p π d) 0 k₀) w c lim (row + 1) row t₀ t₂ r
  own-part {r} e f g h i v = rw (e, f, g, h, i) at v

  -- an attribute is the first part
  first-part : {r : Result (Walked × Cursor) Stop} → Part π d k₀ w c lim row t₀ t k a used place → eqb k attribute_kind ≡ true → Walks (body_p π (frame_p π d) a k) w place lim (used + 1) used t t₂ r
      → (eqb k₀ attribute_kind ≡ true) × Walks (body_p π (frame_p π d) 0 attribute_kind) w c lim (row + 1) row t₀ t₂ r
  first-part {r} (own e f g h i) q v =
      let j : eqb k₀ attribute_kind ≡ true = ap (λ (n : ℕ). eqb n attribute_kind) (sym f) ∙ q in
      (j, subst (λ (n : ℕ). Walks (body_p π (frame_p π d) 0 n) w c lim (row + 1) row t₀ t₂ r) (eqb-true k₀ attribute_kind j) (own-part e f g h i v))
  first-part (belongs j x) q v = let z : true ≡ false = sym q ∙ x.other in cc

  pub part-stops : {e : Stop} → used < lim → Part π d k₀ w c lim row t₀ t k a used place → Walks (body_p π (frame_p π d) a k) w place lim (used + 1) used t t₂ (Err e)
      → Walks (typed_p π d k₀) w c lim (row + 1) row t₀ t₂ (Err e)
  part-stops {e} fits (own l f g h i) v = go (eqb k attribute_kind) refl
    where
      go : (b : Bool) → eqb k attribute_kind ≡ b → Walks (typed_p π d k₀) w c lim (row + 1) row t₀ t₂ (Err e)
      go true q = let z = first-part (own l f g h i) q v in typed-attribute π d k₀ z.0 (attribute-stops π d z.1)
      go false q = typed-body π d k₀ (ap (λ (n : ℕ). eqb n attribute_kind) (sym f) ∙ q) (own-part l f g h i v)
  part-stops {e} fits (belongs j x) v =
      typed-attribute π d k₀ j (attributed π d x.first (annotated-stops π (frame_p π d) (row + 1) (rw (x.rows) at fits) k x.read x.kind refl x.other (rw (x.rows, x.word) at v)))

  -- behind a frame, the last part
  pub part-dropped : {o : Walked} {m : Cursor} → Part π d k₀ w c lim row t₀ t k a used place → Walks (body_p π (frame_p π d) a k) w place lim (used + 1) used t t₂ (Ok (o, m))
      → used < lim → (not (eqb a 0) && not (may_carry (code_of o.kind))) ≡ true
      → Walks (typed_p π d k₀) w c lim (row + 1) row t₀ t₂ (Err (Stop.Refused Refusal.Carrier m.at))
  part-dropped (own l f g h i) v fits z = let e : false ≡ true = rw g at z in cc
  part-dropped (belongs b x) v fits z =
      typed-attribute π d k₀ b (attributed π d x.first (annotated-dropped π (frame_p π d) (row + 1) (rw (x.rows) at fits) k x.read x.kind refl x.other (rw (x.rows, x.word) at v) refl (drops (not (eqb a 0)) _ z)))

  pub part-ends : {o : Walked} {m : Cursor} → Part π d k₀ w c lim row t₀ t k a used place → Walks (body_p π (frame_p π d) a k) w place lim (used + 1) used t t₂ (Ok (o, m))
      → used < lim → eqb k attribute_kind ≡ false → (not (eqb a 0) && not (may_carry (code_of o.kind))) ≡ false
      → Walks (typed_p π d k₀) w c lim (row + 1) row t₀ t₂ (Ok (o, m))
  part-ends (own l f g h i) v fits q z = typed-body π d k₀ (ap (λ (n : ℕ). eqb n attribute_kind) (sym f) ∙ q) (own-part l f g h i v)
  part-ends (belongs b x) v fits q z =
      typed-attribute π d k₀ b (attributed π d x.first (annotated-carried π (frame_p π d) (row + 1) (rw (x.rows) at fits) k x.read x.kind refl x.other (rw (x.rows, x.word) at v) refl (carries row _ (rw (x.word) at z))))

  module _ {o : Walked} {m : Cursor} (part : Part π d k₀ w c lim row t₀ t k a used place) (v : Walks (body_p π (frame_p π d) a k) w place lim (used + 1) used t t₂ (Ok (o, m))) where
    -- ---- behind an attribute

    module _ (q : eqb k attribute_kind ≡ true) where
      pub part-full : lim ≤ o.used → Walks (typed_p π d k₀) w c lim (row + 1) row t₀ t₂ (Err (Stop.Refused Refusal.Rows m.at))
      part-full h = let z = first-part part q v in typed-attribute π d k₀ z.0 (attributed π d z.1 (annotated-full π (frame_p π d) (row + 1) h))

      pub part-short : {e : Stop} → o.used < lim → Gives byte_p (λ b. b) m (Err e) → Walks (typed_p π d k₀) w c lim (row + 1) row t₀ t₂ (Err e)
      part-short fits g = let z = first-part part q v in typed-attribute π d k₀ z.0 (attributed π d z.1 (annotated-short π (frame_p π d) (row + 1) fits g))

      module _ {b : ℕ} {n : Cursor} (k₁ : ℕ) (g : Gives byte_p (λ b. b) m (Ok (b, n))) (e : k₁ ≡ kind_of π b) where
        pub part-twice : o.used < lim → eqb k₁ attribute_kind ≡ true → Walks (typed_p π d k₀) w c lim (row + 1) row t₀ t₂ (Err (Stop.Refused Refusal.Attribute n.at))
        part-twice fits x = let z = first-part part q v in typed-attribute π d k₀ z.0 (attributed π d z.1 (annotated-twice π (frame_p π d) (row + 1) fits k₁ g e refl x))

        pub part-next : {i : ℕ} → i ≡ row + 1 → eqb k₁ attribute_kind ≡ false → Part π d k₀ w c lim row t₀ t₂ k₁ i o.used n
        part-next l x = let z = first-part part q v in belongs z.0 (record { carrier = o; between = m; first = z.1; rows = refl; word = l; byte = b; read = g; kind = e; other = x })

-- A read's promise allows one answer.
use Rattle.std.specs.Prelude.{◌≡◌, refl, ℕ, ◌-◌, ◌≤◌, List, [], ◌∷◌, Bool, Option, Some, Result, Ok, Err, length, get_or}
use Rattle.std.proofs.Common.{sym, ap, subst, ◌∙◌, arith}
use Rattle.meaning.specs.Prog.{Prog, Out, done, refused, unfinished}
use Rattle.meaning.specs.Frames.{Step, leaf, greeting, holder}
use Rattle.kinds.specs.declared.kind.Kind.{Kind}
use Rattle.refusal.specs.declared.Refusal.{Refusal}
use Rattle.refusal.specs.declared.Stop.{Stop}
use Rattle.refusal.specs.Numbers.{number_of}
use Rattle.text.specs.declared.cursor.Cursor.{Cursor}
use Rattle.text.specs.Numbers.{count_p}
use Rattle.text.specs.Reads.{Gives, Over, Read, reads, told, given, stopped, waiting}
use Rattle.leaf.specs.Leaves.{leaf_of, kind_at, kind-back}
use Rattle.leaf.specs.declared.Leaf.{Leaf}

-- the same value and the same place in the same bytes, or the same stop
abbrev pub Same : {T : Type 0} → Result (T × Cursor) Stop → Result (T × Cursor) Stop → Type 0
Same (Ok x) (Ok y) = (x.0 ≡ y.0) × ((x.1.at ≡ y.1.at) × (x.1.src.now ≡ y.1.src.now))
Same (Ok x) (Err f) = ⊥
Same (Err e) (Ok y) = ⊥
Same (Err e) (Err f) = e ≡ f

-- ---- a number names one refusal

refusal_at : ℕ → Refusal
refusal_at n =
    get_or
    (Refusal.Type
    ∷ Refusal.Length
    ∷ Refusal.Text
    ∷ Refusal.Format
    ∷ Refusal.Hello
    ∷ Refusal.Marker
    ∷ Refusal.Attribute
    ∷ Refusal.Key
    ∷ Refusal.Carrier
    ∷ Refusal.Depth
    ∷ [])
    (n - 1)
    Refusal.Rows

refusal-back : (r : Refusal) → refusal_at (number_of r) ≡ r
unfolding refusal_at
refusal-back Refusal.Type = refl
refusal-back Refusal.Length = refl
refusal-back Refusal.Text = refl
refusal-back Refusal.Format = refl
refusal-back Refusal.Hello = refl
refusal-back Refusal.Marker = refl
refusal-back Refusal.Attribute = refl
refusal-back Refusal.Key = refl
refusal-back Refusal.Carrier = refl
refusal-back Refusal.Depth = refl
refusal-back Refusal.Rows = refl

pub same_refusal : (a b : Refusal) → number_of a ≡ number_of b → a ≡ b
same_refusal a b e = sym (refusal-back a) ∙ ap refusal_at e ∙ refusal-back b

-- ---- one answer

-- whether an outcome is a value, a refusal or neither
tag : {A : Type 0} → Out A → ℕ
tag (done a n u) = 0
tag (refused k n) = 1
tag unfinished = 2

-- Any two answers that say what a program comes to at a place are the same, where each value is seen as another.
pub one-told : {T A : Type 0} (p : Prog A) (view : T → A) → ((x y : T) → view x ≡ view y → x ≡ y) → (s : List ℕ) (at : ℕ) (r q : Result (T × Cursor) Stop)
    → reads p s at ≡ told view r → reads p s at ≡ told view q → Over s r → Over s q → Same r q
unfolding tag given stopped waiting
one-told {T} {A} p view apart s at r q a b = go r q (ap (λ (o : Read A). o 0 0) (sym a ∙ b))
  where
    go : (r q : Result (T × Cursor) Stop) → told view r 0 0 ≡ told view q 0 0 → Over s r → Over s q → Same r q
    go (Ok x) (Ok y) e i j = let v : view x.0 ≡ view y.0 = cc in let n : x.1.at ≡ y.1.at = cc in (apart x.0 y.0 v, (n, i ∙ sym j))
    go (Ok x) (Err (Stop.Refused k n)) e i j = let z : ◌≡◌ {A = ℕ} 0 1 = ap tag e in absurd (omega arith)
    go (Ok x) (Err Stop.Unfinished) e i j = let z : ◌≡◌ {A = ℕ} 0 2 = ap tag e in absurd (omega arith)
    go (Err (Stop.Refused k n)) (Ok y) e i j = let z : ◌≡◌ {A = ℕ} 1 0 = ap tag e in absurd (omega arith)
    go (Err Stop.Unfinished) (Ok y) e i j = let z : ◌≡◌ {A = ℕ} 2 0 = ap tag e in absurd (omega arith)
    go (Err (Stop.Refused k n)) (Err (Stop.Refused l m)) e i j =
        let v : number_of k ≡ number_of l = cc in
        let w : k ≡ l = same_refusal k l v in
        let x : n ≡ m = cc in
        cc
    go (Err (Stop.Refused k n)) (Err Stop.Unfinished) e i j = let z : ◌≡◌ {A = ℕ} 1 2 = ap tag e in absurd (omega arith)
    go (Err Stop.Unfinished) (Err (Stop.Refused k n)) e i j = let z : ◌≡◌ {A = ℕ} 2 1 = ap tag e in absurd (omega arith)
    go (Err Stop.Unfinished) (Err Stop.Unfinished) e i j = refl

-- Any two answers that the promise allows are the same.
pub one-answer : {T A : Type 0} (p : Prog A) (view : T → A) → ((x y : T) → view x ≡ view y → x ≡ y) → (c : Cursor) (r q : Result (T × Cursor) Stop)
    → Gives p view c r → Gives p view c q → Same r q
one-answer p view apart c r q a b = one-told p view apart c.src.now c.at r q a.means b.means a.over b.over

-- a leaf back from its step
leaf_back : Step → Leaf
leaf_back (leaf k a b c) = record { kind = kind_at k; w1 = a; w2 = b; w3 = c }
leaf_back (greeting v f) = record { kind = Kind.Hello; w1 = 0; w2 = 0; w3 = 0 }
leaf_back (holder k n) = record { kind = Kind.Array; w1 = 0; w2 = 0; w3 = 0 }

leaf-back : (l : Leaf) → leaf_back (leaf_of l) ≡ l
unfolding leaf_back
leaf-back l = ap (λ (k : Kind). record { kind = k; w1 = l.w1; w2 = l.w2; w3 = l.w3 }) (kind-back l.kind)

same_leaf : (l m : Leaf) → leaf_of l ≡ leaf_of m → l ≡ m
same_leaf l m e = sym (leaf-back l) ∙ ap leaf_back e ∙ leaf-back m

pub one-leaf : (p : Prog Step) (c : Cursor) (r q : Result (Leaf × Cursor) Stop) → Gives p leaf_of c r → Gives p leaf_of c q → Same r q
one-leaf p c r q a b = one-answer p leaf_of same_leaf c r q a b

pub one-counted : (plain three : Bool) (c : Cursor) (r q : Result (Option ℕ × Cursor) Stop)
    → Gives (count_p plain three) (λ n. n) c r → Gives (count_p plain three) (λ n. n) c q → Same r q
one-counted plain three c r q a b = one-answer (count_p plain three) (λ n. n) (λ x y e. e) c r q a b

-- The cursor behind a count lies in the buffer.
pub count-within : (plain three : Bool) (c d : Cursor) (n : ℕ) → Gives (count_p plain three) (λ n. n) c (Ok (Some n, d)) → d.at ≤ length c.src.now
count-within plain three c d n a = subst (λ (s : List ℕ). d.at ≤ length s) a.over d.within

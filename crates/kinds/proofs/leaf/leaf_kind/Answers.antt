-- `kinds::leaf_kind` meets its contract: by the byte, or as one of both protocols.
use Rattle.std.specs.Prelude.{◌≡◌, refl, ℕ, Bool, true, false, eqb}
use Rattle.std.proofs.Common.{sym, ap, ◌∙◌, arith, eq-eqb}
use Rattle.std.proofs.lemmas.Bool.{eqb-true}
use Rattle.meaning.specs.Kinds.{lookup, resp3, kind_of}
use Rattle.kinds.specs.Entries.{lone_kind, leaf_kind}
use Rattle.kinds.specs.EntryLaws.{lone-leaf, no-leaf}
use Rattle.kinds.proofs.leaf.leaf_kind.Goals as goal

-- any other byte is a leaf's in RESP3 where it is one in both protocols
rest : (b : ℕ) → (lone_kind b ≡ 0 → leaf_kind resp3 b ≡ 0) → lone_kind b ≡ leaf_kind resp3 b
rest b none = go (eqb (lone_kind b) 0) refl
  where
    go : (x : Bool) → eqb (lone_kind b) 0 ≡ x → lone_kind b ≡ leaf_kind resp3 b
    go true e = let z = eqb-true (lone_kind b) 0 e in z ∙ sym (none z)
    go false e = lone-leaf resp3 b (λ z. let f : false ≡ true = sym e ∙ eq-eqb (lone_kind b) 0 z in absurd (cc))

pub returns-in-95 : goal.returns-in-95
unfolding lookup kind_of
returns-in-95 c = sym (ap (leaf_kind resp3) c.in-95.is)

pub returns-in-35 : goal.returns-in-35
unfolding lookup kind_of
returns-in-35 c = sym (ap (leaf_kind resp3) c.in-35.is)

pub returns-in-44 : goal.returns-in-44
unfolding lookup kind_of
returns-in-44 c = sym (ap (leaf_kind resp3) c.in-44.is)

pub returns-in-40 : goal.returns-in-40
unfolding lookup kind_of
returns-in-40 c = sym (ap (leaf_kind resp3) c.in-40.is)

pub returns-in-33 : goal.returns-in-33
unfolding lookup kind_of
returns-in-33 c = sym (ap (leaf_kind resp3) c.in-33.is)

pub returns-in-61 : goal.returns-in-61
unfolding lookup kind_of
returns-in-61 c = sym (ap (leaf_kind resp3) c.in-61.is)

pub returns-in-59 : goal.returns-in-59
unfolding lookup kind_of
returns-in-59 c = sym (ap (leaf_kind resp3) c.in-59.is)

pub returns-in-46 : goal.returns-in-46
unfolding lookup kind_of
returns-in-46 c = sym (ap (leaf_kind resp3) c.in-46.is)

pub returns-in_default : goal.returns-in_default
returns-in_default c =
    c.lone_kind.ensures
    ∙ rest c.args.b
    (λ z. no-leaf c.args.b z (λ e. omega arith) (λ e. omega arith) (λ e. omega arith) (λ e. omega arith) (λ e. omega arith) (λ e. omega arith) (λ e. omega arith) (λ e. omega arith))

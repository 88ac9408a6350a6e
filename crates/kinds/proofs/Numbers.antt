-- What is said of a code is said of any number: a number that is no kind's code is in no column.
use Rattle.std.specs.Prelude.{◌≡◌, refl, ℕ, ◌≤◌, Bool, true, false, ltb}
use Rattle.std.proofs.Common.{arith, ltb-false}
use Rattle.std.proofs.Math.Bool.{and-false}
use borrow.Author.Tests.{lt-leb}
use Rattle.meaning.specs.Choice.{pick}
use Rattle.meaning.specs.Kinds.{may_key, may_carry, has_children}

module _ (g : ℕ → Bool) (none : g 0 ≡ false) (past : (k : ℕ) → 23 ≤ k → g k ≡ false) where
  at-known : (k : ℕ) → g (pick (ltb k 23) k 0) ≡ g k
  at-known k = go (ltb k 23) refl
    where
      go : (b : Bool) → ltb k 23 ≡ b → g (pick b k 0) ≡ g k
      go true e = refl
      go false e = rw (none, past k (ltb-false k 23 e)) refl

module _ (k : ℕ) where
  pub known-key : may_key (pick (ltb k 23) k 0) ≡ may_key k
  known-key = at-known may_key refl (λ j h. rw (lt-leb j 12 (omega arith), and-false) refl) k

  pub known-carry : may_carry (pick (ltb k 23) k 0) ≡ may_carry k
  known-carry = at-known may_carry refl (λ j h. rw (lt-leb j 19 (omega arith), and-false) refl) k

  pub known-children : has_children (pick (ltb k 23) k 0) ≡ has_children k
  known-children = at-known has_children refl (λ j h. rw (lt-leb j 17 (omega arith), and-false) refl) k

pub ruleset known = (known-key, known-carry, known-children)

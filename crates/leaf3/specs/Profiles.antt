-- The programs of these leaves take a profile and do not look at it: what is promised of RESP3's is promised of each.
use Rattle.std.specs.Prelude.{◌≡◌, refl, ℕ}
use Rattle.meaning.specs.Kinds.{Profile, resp3}
use Rattle.meaning.specs.Frames.{blank_p, boolean_p, double_p, verbatim_p, chunk_p, hello_p}

module _ (π : Profile) where
  pub any-blank : (k : ℕ) → blank_p π k ≡ blank_p resp3 k
  any-blank k = refl

  pub any-boolean : boolean_p π ≡ boolean_p resp3
  any-boolean = refl

  pub any-double : double_p π ≡ double_p resp3
  any-double = refl

  pub any-verbatim : (n : ℕ) → verbatim_p π n ≡ verbatim_p resp3 n
  any-verbatim n = refl

  pub any-chunk : (n : ℕ) → chunk_p π n ≡ chunk_p resp3 n
  any-chunk n = refl

  pub any-hello : hello_p π ≡ hello_p resp3
  any-hello = refl

-- The kinds beside BlobString that are a text behind its length, and RESP2's Null in the place of a bulk string or an array.
use Rattle.std.proofs.Common.{◌≡◌, refl, ap, ◌∙◌, ◌⊎◌, inl, inr}
use Rattle.std.specs.Prelude.{ℕ, Bool, false, List, Option, None}
use Rattle.meaning.specs.Choice.{pick}
use Rattle.meaning.specs.Prog.{Prog}
use Rattle.meaning.specs.Kinds.{Profile, null_kind, blob_string_kind, array_kind, marker_kind}
use Rattle.meaning.specs.Frames.{Step, leaf, takes_plain, absent, length_p, head_p}
use Rattle.text.specs.Reads.{Read, reads, given, ◌>>=◌}
use Rattle.text.specs.Numbers.{count_p}
use Rattle.text.proofs.Chain.{given_then, reads_ret}
use Rattle.leaf.specs.Leaves.{follow}
use Rattle.leaf.proofs.Programs.{reads_length}
use Rattle.kinds.specs.declared.kind.Kind.{Kind}
use Rattle.kinds.specs.Codes.{code_of}
use Rattle.heads.specs.Steps.{sized_p}

pub sized-head : (π : Profile) (k : Kind) → (k ≡ Kind.BlobError) ⊎ ((k ≡ Kind.Verbatim) ⊎ (k ≡ Kind.ChunkedString))
    → head_p π (code_of k) ≡ length_p π (code_of k) (sized_p (code_of k))
unfolding head_p
sized-head π k (inl e) = rw e refl
sized-head π k (inr (inl e)) = rw e refl
sized-head π k (inr (inr e)) = rw e refl

null-read : (π : Profile) (k : ℕ) (f : ℕ → Prog Step) (s : List ℕ) (at next : ℕ) → takes_plain k ≡ false → π.three ≡ false → reads (count_p false π.three) s at ≡ given None next
    → reads (length_p π k f) s at ≡ given (leaf null_kind 0 0 0) next
null-read π k f s at next p e h =
    reads_length s at π k f
    ∙ ap (λ (b : Bool). reads (count_p b π.three) s at >>= λ n m. reads (follow π k f n) s m) p
    ∙ ap (λ (o : Read (Option ℕ)). o >>= λ n m. reads (follow π k f n) s m) h
    ∙ given_then None next (λ n m. reads (follow π k f n) s m)
    ∙ reads_ret (absent π k) s next
    ∙ ap (λ (b : Bool). given (pick b (leaf marker_kind 0 0 k) (leaf null_kind 0 0 0)) next) e

pub null-head : (π : Profile) (k : Kind) (s : List ℕ) (at next : ℕ) → (k ≡ Kind.BlobString) ⊎ (k ≡ Kind.Array) → π.three ≡ false → reads (count_p false π.three) s at ≡ given None next
    → reads (head_p π (code_of k)) s at ≡ given (leaf null_kind 0 0 0) next
unfolding head_p
null-head π k s at next (inl q) e h = rw q (null-read π blob_string_kind _ s at next refl e h)
null-head π k s at next (inr q) e h = rw q (null-read π array_kind _ s at next refl e h)

-- A Verbatim string as one read after another: four bytes, a bulk text, and then its format.
use Rattle.std.specs.Prelude.{◌≡◌, ℕ, ◌-◌, List, take, ltb}
use Rattle.std.proofs.Math.Option as math
use Rattle.meaning.specs.Choice.{pick}
use Rattle.meaning.specs.Prog.{Prog, refuse, bind}
use Rattle.meaning.specs.Text.{format}
use Rattle.meaning.specs.Kinds.{resp3, verbatim_kind}
use Rattle.meaning.specs.Frames.{Step, leaf, greeting, holder, formatted, verbatim_p, bulk_p}
use Rattle.text.specs.Reads.{reads, ◌>>=◌, skip_p}
use Rattle.text.proofs.Chain.{reads_bind}

-- a bulk text, by its format
abbrev pub format_step : math.Option ℕ → Step → Prog Step
format_step o (leaf k a b c) = formatted a b o
format_step o (greeting v f) = refuse 4
format_step o (holder k n) = refuse 4

-- what follows the first four bytes
abbrev pub verbatim_step : ℕ → List ℕ → Prog Step
verbatim_step n f = pick (ltb n 4) (refuse 4) (bind (bulk_p resp3 verbatim_kind (n - 4)) (format_step (format (take 3 f))))

pub reads_verbatim : (n : ℕ) (s : List ℕ) (at : ℕ) → reads (verbatim_p resp3 n) s at ≡ (reads (skip_p 4) s at >>= λ f m. reads (verbatim_step n f) s m)
unfolding bind
reads_verbatim n s at = reads_bind (skip_p 4) (verbatim_step n) s at

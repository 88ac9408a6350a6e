-- Frames and bytes, counted modulo 2 ^ 64.
use Rattle.std.specs.Prelude.{List, ℕ, ◌+◌, ◌%◌, ◌^◌, set, get_or, eqb}
use Rattle.meaning.specs.Choice.{pick}
use Rattle.show.specs.declared.tally.Count.{Count}

-- one frame more, of n bytes
abbrev pub one_more : Count → ℕ → Count
one_more c n = record { frames = (c.frames + 1) % 2 ^ 64; bytes = (c.bytes + n) % 2 ^ 64 }

abbrev pub no_frames : Count
no_frames = record { frames = 0; bytes = 0 }

-- one more of the kind with code k; 0 is no kind
abbrev pub one_more_at : List Count → ℕ → ℕ → List Count
one_more_at counts k n = pick (eqb k 0) counts (set counts k (one_more (get_or counts k no_frames) n))

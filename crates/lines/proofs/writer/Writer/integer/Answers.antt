-- A byte, a number and an end, one after another.
use Rattle.std.proofs.Common.{ap, ℕ, ◌∷◌, ◌++◌}
use Rattle.meaning.specs.Encode.{crlf, integer_text}
use Rattle.lines.specs.Puts.{puts-more, puts-as}
use Rattle.lines.proofs.writer.Writer.integer.Goals as goal

pub returns : goal.returns
returns g c =
    puts-as (ap (λ (b : ℕ). b ∷ (integer_text c.args.word ++ crlf)) c.type_byte.ensures)
    (puts-more c.byte.ensures (puts-more c.number.ensures c.end.ensures))

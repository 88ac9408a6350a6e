-- A byte, a text and an end, one after another.
use Rattle.std.proofs.Common.{ap, ℕ, ◌∷◌, ◌++◌}
use Rattle.meaning.specs.Encode.{crlf}
use Rattle.lines.specs.Puts.{puts-more, puts-as}
use Rattle.lines.proofs.writer.Writer.line.Goals as goal

pub returns : goal.returns
returns g c =
    puts-as (ap (λ (b : ℕ). b ∷ (c.args.text.now ++ crlf)) c.type_byte.ensures)
    (puts-more c.byte.ensures (puts-more c.text.ensures c.end.ensures))

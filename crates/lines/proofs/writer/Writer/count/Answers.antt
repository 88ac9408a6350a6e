-- A byte, a count and an end, one after another.
use Rattle.std.proofs.Common.{ap, ℕ, ◌∷◌, ◌++◌}
use Rattle.meaning.specs.Digits.{digits_of, shown}
use Rattle.meaning.specs.Encode.{crlf}
use Rattle.lines.specs.Puts.{puts-more, puts-as}
use Rattle.lines.proofs.writer.Writer.count.Goals as goal

pub returns : goal.returns
returns g c =
    puts-as (ap (λ (b : ℕ). b ∷ (shown (digits_of c.args.n) ++ crlf)) c.type_byte.ensures)
    (puts-more c.byte.ensures (puts-more c.digits.ensures c.end.ensures))

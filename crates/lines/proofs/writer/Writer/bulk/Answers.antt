-- A length, a text and an end, one after another.
use Rattle.lines.specs.Puts.{puts-more}
use Rattle.lines.proofs.writer.Writer.bulk.Goals as goal

pub returns : goal.returns
returns g c = puts-more c.count.ensures (puts-more c.text.ensures c.end.ensures)

-- A length, a number and an end, one after another; the length that is written is that of the number.
use Rattle.std.proofs.Common.{ap}
use Rattle.meaning.specs.Kinds.{blob_string_kind}
use Rattle.meaning.specs.Encode.{count_for}
use Rattle.lines.specs.Puts.{puts-more, puts-as}
use Rattle.lines.proofs.writer.Writer.bulk_integer.Goals as goal

pub returns : goal.returns
returns g c =
    puts-more (puts-as (ap (count_for g.P.Profile.profile blob_string_kind) c.integer_width.ensures) c.count.ensures)
    (puts-more c.number.ensures c.end.ensures)

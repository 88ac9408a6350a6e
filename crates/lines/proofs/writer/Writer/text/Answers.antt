-- The text's first part, and the rest of it.
use Rattle.std.proofs.Common.{ap₂, ◌∙◌, ◌++◌, List, ℕ, ◌-◌, ◌%◌, take-append-drop}
use Rattle.lines.specs.Puts.{puts-more, puts-as}
use Rattle.lines.proofs.writer.Writer.text.Goals as goal

pub returns-else-text-lt-LONG : goal.returns-else-text-lt-LONG
returns-else-text-lt-LONG c =
    puts-as (ap₂ (λ (x y : List ℕ). x ++ y) c.split_at.ensures.front c.split_at.ensures.back ∙ take-append-drop (16 - c.args.from % 16) c.args.text.now)
    (puts-more c.bytes-else-text-lt-LONG.ensures c.bytes-else-text-lt-LONG-2.ensures)

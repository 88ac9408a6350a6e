-- A minus and the digits, or the digits.
use Rattle.std.proofs.Common.{sym, subst, ◌∙◌}
use Rattle.meaning.specs.Digits.{digits_of, shown}
use Rattle.lines.specs.declared.writer.Writer.{Writer}
use Rattle.lines.specs.Puts.{Puts, puts-more, puts-as}
use Rattle.lines.proofs.writer.Writer.number.Goals as goal
use Rattle.lines.proofs.writer.Writer.number.Goals.{then-negative, else-negative}

pub returns : goal.returns
returns c =
    let m = c.signed-negative.result.1 in
    elim c.if-negative.branch [
      | then-negative w ↦ puts-as (sym (c.signed-negative.ensures ∙ rw w.if-negative.true)) (puts-more w.byte.ensures (subst (λ (u : Writer). Puts (shown (digits_of m)) u c.digits.new.self) w.self-is c.digits.ensures))
      | else-negative w ↦ puts-as (sym (c.signed-negative.ensures ∙ rw w.if-negative.false)) (subst (λ (u : Writer). Puts (shown (digits_of m)) u c.digits.new.self) w.self-is c.digits.ensures)
    ]

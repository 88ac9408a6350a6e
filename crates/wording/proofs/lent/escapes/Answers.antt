-- One byte more, in at most four.
use Rattle.std.proofs.Common.{sym, ap, ◌∙◌, arith, get_or}
use Rattle.std.proofs.lemmas.List.{take_more}
use Rattle.wording.specs.Escapes.{escaped_all}
use Rattle.wording.specs.EscapeLaws.{escaped-more, escaped-short}
use Rattle.wording.specs.AddLaws.{adds_none, adds-more, adds-as}
use Rattle.wording.proofs.lent.escapes.Goals as goal

pub loop-b-init : goal.loop-b-init
unfolding escaped_all
loop-b-init c = record { next = omega arith; added = adds_none _ _ (omega arith) }

pub loop-b-preserved : goal.loop-b-preserved
loop-b-preserved c =
    let s = c.args.s.now in
    let i = c.loop-b.b-index in
    record {
      next = omega (arith, escaped-short (get_or s i 0));
      added = adds-as (sym (escaped-more _ _) ∙ ap escaped_all (sym (take_more s i 0 (omega arith)))) (adds-more c.loop-b.invariant.added c.escape-place.ensures);
    }

-- One byte more.
use Rattle.std.proofs.Common.{sym, arith}
use Rattle.std.proofs.lemmas.List.{take_more}
use Rattle.wording.specs.AddLaws.{adds-more, adds-as}
use Rattle.wording.proofs.lent.bytes.Goals as goal

pub loop-b-preserved : goal.loop-b-preserved
loop-b-preserved c = record {
  next = omega arith;
  added = adds-as (sym (take_more c.args.text.now c.loop-b.b-index 0 (omega arith))) (adds-more c.loop-b.invariant.added c.byte-place.ensures);
}

-- One space more.
use Rattle.std.proofs.Common.{arith}
use Rattle.std.proofs.lemmas.List.{replicate_more}
use Rattle.wording.specs.Escapes.{space}
use Rattle.wording.specs.AddLaws.{adds-more, adds-as}
use Rattle.wording.proofs.lent.spaces.Goals as goal

pub loop-preserved : goal.loop-preserved
loop-preserved c = record {
  next = omega arith;
  added = adds-as (replicate_more c.loop.counter space) (adds-more c.loop.invariant.added c.byte-place.ensures);
}

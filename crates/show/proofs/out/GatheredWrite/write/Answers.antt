-- The buffer was written out before the text went past it.
use Rattle.std.proofs.Common.{take, ap}
use Rattle.show.proofs.Past.{past_some}
use Rattle.show.proofs.out.GatheredWrite.write.Goals as goal

pub returns-then-text-clause-bytes : goal.returns-then-text-clause-bytes
returns-then-text-clause-bytes g c =
    let bytes = c.write_out.new.self.bytes in
    past_some _ _ _ _ _ _ c.in_ok-write_out.ensures.bytes (ap (λ n. take n bytes) c.in_ok-write_out.ensures.empty) c.write.ensures.bytes

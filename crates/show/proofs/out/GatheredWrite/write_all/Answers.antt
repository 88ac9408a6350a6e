-- The buffer was written out before the text went past it.
use Rattle.std.proofs.Common.{take, ap}
use Rattle.show.proofs.Past.{past_all}
use Rattle.show.proofs.out.GatheredWrite.write_all.Goals as goal

pub returns-then-text : goal.returns-then-text
returns-then-text g c =
    let bytes = c.write_out.new.self.bytes in
    record {
      bytes = past_all _ _ _ _ _ _ c.in_ok-write_out.ensures.bytes (ap (λ n. take n bytes) c.in_ok-write_out.ensures.empty) c.write_all.ensures.bytes;
    }

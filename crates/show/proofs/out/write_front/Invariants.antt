-- What is written stands in the stream.
use Rattle.std.proofs.Common.{◌≤◌, length, take}
use Rattle.std.specs.Io.KnownBytes.{Appends}
use Rattle.show.proofs.out.write_front.Given as goal

abbrev pub invariant-loop : goal.invariant-loop
invariant-loop g l = (l.written ≤ length l.text) × Appends (g.W.Write.contents l.initial.to) (g.W.Write.contents l.to) (take l.written l.text)

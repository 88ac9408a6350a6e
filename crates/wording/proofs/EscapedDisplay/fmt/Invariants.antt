-- What is written so far: the bytes up to a place, escaped; from there to this one they are shown as they are.
use Rattle.std.proofs.Common.{ℕ, ◌<◌, ◌≤◌, get_or, take}
use Rattle.std.specs.Fmt.{HasWritten, IsPlainFormatter}
use Rattle.wording.specs.Escapes.{escaped_all, IsPlain}
use Rattle.wording.proofs.EscapedDisplay.fmt.Given as goal

abbrev pub invariant-loop-i : goal.invariant-loop-i
invariant-loop-i g l = record {
  within : l.from ≤ l.i;
  plain : (k : ℕ) → l.from ≤ k → k < l.i → IsPlain (get_or l.self.0.now k 0);
  written : IsPlainFormatter l.initial.f → HasWritten g.W.Write.write_str_gives l.initial.f (escaped_all (take l.from l.self.0.now)) l.f;
}

-- One digit more, from the last one on; none are left where the first stands at the place.
use Rattle.std.proofs.Common.{◌≡◌, refl, sym, ap, ap₂, ◌∙◌, ℕ, suc, ◌+◌, ◌-◌, arith}
use Rattle.std.proofs.lemmas.List.Edits.{sets}
use Rattle.meaning.specs.Digits.{padded, zeros}
use Rattle.meaning.specs.DigitLaws.{shown-padded, shown-length}
use Rattle.lines.proofs.Steps.{none, turn, same_size}
use Rattle.lines.proofs.writer.Writer.digits.Goals as goal

pub loop-place-init : goal.loop-place-init
loop-place-init c = record { low = omega arith; written = none _ _ _ }

pub loop-place-preserved : goal.loop-place-preserved
loop-place-preserved c =
    let q = c.loop-place.place - 1 in
    let e : c.loop-place.place ≡ suc q = omega arith in
    record { low = omega arith; written = turn _ _ _ _ q c.loop-place.left (omega arith) (rw e at c.loop-place.invariant.written) }

pub returns : goal.returns
returns c =
    let n = c.args.n in
    let w = c.loop-place.invariant.written in
    let e : c.loop-place.place ≡ c.args.self.now.at = omega arith in
    let k : c.args.self.now.at + c.width.result - c.loop-place.place ≡ 20 - zeros (padded 20 n) = omega (arith, shown-length n) in
    record {
      same = refl;
      size = same_size w;
      next = omega (arith, c.width.ensures);
      leaves =
          w.stands
          ∙ ap₂ (λ (i j : ℕ). sets c.args.self.now.out.now i (padded j n)) e k
          ∙ ap (sets c.args.self.now.out.now c.args.self.now.at) (sym (shown-padded n));
    }

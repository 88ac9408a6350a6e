-- What a write took stands behind what was written before it; one that a signal came before took nothing.
use Rattle.std.proofs.Common.{◌-◌, ◌++◌, length, take, drop, sym, ap, subst, ◌∙◌, arith, length-take}
use lib.Seq.{take-add, take-take}
use Rattle.std.specs.Io.KnownBytes.{Appends}
use Rattle.std.proofs.KnownBytes.{Appends-trans, Appends-kept}
use Rattle.show.proofs.out.write_front.Goals as goal
use Rattle.show.proofs.out.write_front.Goals.{in-Ok, in-Err}

pub loop-preserved : goal.loop-preserved
loop-preserved g c =
    let done = c.loop.written in
    let text = c.args.text.now in
    elim c.match-write.branch [
      | in-Ok w ↦
          let n = w.in-Ok.n in
          let fits = w.in-Ok.ensures.bound in
          let most = length-take (length text - done) (drop done text) in
          let joined = ap (λ l. take done text ++ l) (take-take n (length text - done) (drop done text) (omega arith)) ∙ sym (take-add done n text) in
          rw w.written-is (omega arith, subst (Appends _ _) joined (Appends-trans _ _ _ _ _ c.loop.invariant.1 w.in-Ok.ensures.bytes))
      | in-Err w ↦ rw w.written-is (c.loop.invariant.0, Appends-kept _ _ _ _ c.loop.invariant.1 w.in-Err.ensures.bytes)
    ]

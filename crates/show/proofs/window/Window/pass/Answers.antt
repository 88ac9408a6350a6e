-- What was moved to the front is what stood behind the first n bytes.
use Rattle.std.proofs.Common.{◌≡◌, ℕ, ◌+◌, ◌-◌, length, take, drop, sym, ap, ◌∙◌, arith, length-drop, length-take-le}
use lib.Seq.{paste}
use Rattle.std.proofs.lemmas.List.{drop-take}
use Rattle.std.proofs.lemmas.List.Edits.{take-paste}
use Rattle.show.specs.Windows.{Sight}
use Rattle.show.proofs.window.Window.pass.Goals as goal

pub returns-clause-rest : goal.returns-clause-rest
returns-clause-rest c =
    let all = c.self.inside.bytes in
    let used = c.self.inside.used in
    let n = c.args.n in
    let seen : take used all ≡ c.args.self.now.bytes = ap (λ (w : Sight). w.bytes) c.self.view_is in
    let size : length c.args.self.now.bytes ≡ used = ap length (sym seen) ∙ length-take-le used all (omega (arith, c.self.invariant, c.self.told)) in
    let left : used - n ≡ 0 + (used - n) = omega arith in
    let whole : n + (used - n) ≡ used = omega (arith, c.requires) in
    ap (take (used - n)) c.copy_within.ensures.after ∙ ap (λ (k : ℕ). take k (paste all 0 (drop n all) (used - n))) left
    ∙ take-paste all 0 (drop n all) (used - n) (omega arith) (omega (arith, c.self.invariant, c.self.told, length-drop n all))
    ∙ sym (drop-take n (used - n) all) ∙ ap (λ (k : ℕ). drop n (take k all)) whole ∙ ap (drop n) seen

-- What was moved to the front is what stood behind the bytes that were written.
use Rattle.std.proofs.Common.{◌≡◌, ℕ, ◌+◌, ◌-◌, ◌≤◌, ◌++◌, rules, length, take, drop, sym, ap, ◌∙◌, arith, length-drop, length-take-le, take-append-drop}
use lib.Seq.{paste}
use Rattle.std.proofs.lemmas.List.{drop-take}
use Rattle.std.proofs.lemmas.List.Edits.{take-paste}
use Rattle.std.proofs.KnownBytes.{append_known-moved}
use Rattle.show.proofs.out.Gathered.write_out.Goals as goal

pub returns-clause-bytes : goal.returns-clause-bytes
returns-clause-bytes g c =
    let all = c.args.self.now.bytes in
    let used = c.args.self.now.used in
    let n = c.write_front-written.result.0 in
    let left : used - n ≡ 0 + (used - n) = omega arith in
    let fits = c.write_front-written.ensures.within in
    let long : length all ≡ g.row.SIZE = search rules in
    let room : used ≤ g.row.SIZE = search rules in
    let size : length (take used all) ≡ used = length-take-le used all (omega (arith, long, room)) in
    let whole : n + (used - n) ≡ used = omega (arith, fits, size) in
    let rest : take (used - n) c.copy_within.new.self ≡ drop n (take used all) =
    ap (take (used - n)) c.copy_within.ensures.after ∙ ap (λ (k : ℕ). take k (paste all 0 (drop n all) (used - n))) left
    ∙ take-paste all 0 (drop n all) (used - n) (omega arith) (omega (arith, long, room, length-drop n all))
    ∙ sym (drop-take n (used - n) all) ∙ ap (λ (k : ℕ). drop n (take k all)) whole in
    append_known-moved _ _ _ _ _ c.write_front-written.ensures.bytes (sym (take-append-drop n (take used all)) ∙ ap (λ l. take n (take used all) ++ l) (sym rest))

-- A byte that is shown as it is waits; before another one goes all that waits.
use Rattle.std.proofs.Common.{List, ℕ, ◌≤◌, ◌++◌, length, get_or, take, take_all, sym, ap, ◌∙◌, arith, rules, below_more}
use Rattle.std.proofs.lemmas.List.{take_more}
use Rattle.std.proofs.Output.{writes_in_calls_nil, has_written_append, has_written_of_eq}
use Rattle.wording.specs.Escapes.{escaped, escaped_all, IsPlain}
use Rattle.wording.specs.EscapeLaws.{escaped-more, escaped-piece}
use Rattle.wording.proofs.EscapedDisplay.fmt.Goals as goal
use Rattle.wording.proofs.EscapedDisplay.fmt.Goals.{then-not-is_plain+in_ok-plain+in_ok-escape, else-not-is_plain}

pub loop-i-init : goal.loop-i-init
unfolding escaped_all
loop-i-init g c = record { within = omega arith; plain = λ k a b. absurd (omega arith); written = λ p. record { wrote = writes_in_calls_nil _ _; plain = p } }

pub loop-i-preserved : goal.loop-i-preserved
loop-i-preserved g c =
    let s = c.args.self.now.0.now in
    let from = c.loop-i.from in
    let i = c.loop-i.i in
    let before = c.loop-i.invariant in
    elim c.if-not-is_plain.branch [
      | then-not-is_plain+in_ok-plain+in_ok-escape w ↦
          rw (w.from-is, w.f-is)
          (record {
            within = omega arith;
            plain = λ k a b. absurd (omega arith);
            written = λ p.
                let x = before.written p in
                let y = has_written_append _ _ _ _ _ _ x (w.plain.ensures x.plain (search rules)) in
                let z = has_written_append _ _ _ _ _ _ y (w.escape.ensures y.plain (search rules)) in
                has_written_of_eq _ _ _ _ _
                (ap (λ (t : List ℕ). t ++ escaped (get_or s i 0)) (escaped-piece s from i before.within)
                ∙ sym (escaped-more (take i s) (get_or s i 0))
                ∙ ap escaped_all (sym (take_more s i 0 (omega arith))))
                z;
          })
      | else-not-is_plain w ↦
          rw (w.from-is, w.f-is)
          (record {
            within = omega arith;
            plain = λ k a b. below_more (λ (j : ℕ). from ≤ j → IsPlain (get_or s j 0)) i (λ j l m. before.plain j m l) (λ m. c.is_plain.ensures (search rules)) k b a;
            written = before.written;
          })
    ]

pub returns-clause-writes : goal.returns-clause-writes
returns-clause-writes g c = λ p q.
    let s = c.args.self.now.0.now in
    let from = c.loop-i.from in
    let x = c.loop-i.invariant.written p in
    has_written_of_eq _ _ _ _ _
    (escaped-piece s from (length s) (omega (arith, c.loop-i.invariant.within)) ∙ ap escaped_all (take_all (length s) s (omega arith)))
    (has_written_append _ _ _ _ _ _ x (c.plain-2.ensures x.plain q))

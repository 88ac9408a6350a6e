-- What holds of the records that are left holds of one more at their front.
use Rattle.std.proofs.Common.{◌≡◌, suc, ◌+◌, [], rules, arith, of_calls, subst}
use Rattle.std.proofs.lemmas.List.{nil_from_length}
use Rattle.std.specs.Prelude.{Ok}
use Rattle.lists.specs.Records.{Holds}
use Rattle.lists.proofs.Passes.{none_held, one_more}
use Rattle.lists.proofs.records.go_through.Goals as goal

-- src/records.rt:35:5
pub loop-rest-preserved : goal.loop-rest-preserved
loop-rest-preserved g c =
    let parsed : g.R.Record.parses c.loop-rest.rest.now c.in_ok-next.next c.in_ok-next.behind.now = search rules in
    let held : goal.F-step g c.loop-rest.hold c.in_ok-next.next (Ok tt) c.hold.new.self = search rules in (
      λ a. let now = c.loop-rest.invariant.0 a in search (of_calls, rules),
      search rules,
      λ n h.
          let more : c.loop-rest.record + suc n ≡ c.loop-rest.record + 1 + n = omega arith in
          subst (Holds _ _ _ _) more (c.loop-rest.invariant.2 (suc n) (one_more _ _ _ _ _ _ _ n parsed held h)),
    )

-- src/records.rt:26:1
pub returns : goal.returns
returns g c =
    let empty : c.loop-rest.rest.now ≡ [] = nil_from_length _ (search rules) in
    let all : c.loop-rest.record + 0 ≡ c.loop-rest.record = omega arith in
    subst (Holds _ _ _ _) all (c.loop-rest.invariant.2 0 (none_held _ _ _ _ empty))

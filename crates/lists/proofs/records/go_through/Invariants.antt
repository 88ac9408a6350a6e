-- Each record makes what is left shorter, and what holds of the records that are left holds of all.
use Rattle.std.proofs.Common.{length, ◌+◌, ◌≤◌}
use Rattle.std.specs.Prelude.{Ok}
use denote.Param.Always.{always_mut}
use Rattle.lists.specs.Records.{Holds}
use Rattle.lists.proofs.records.go_through.Given as goal

abbrev pub invariant-loop-rest : goal.invariant-loop-rest
invariant-loop-rest g l =
    (always_mut g.F.FnMut l.initial.hold → always_mut g.F.FnMut l.hold)
    × (l.record + length l.rest ≤ length l.fn.list)
    × ((n : _) → Holds g.R.Record.parses (λ p r q. goal.F-step g p r (Ok tt) q) l.rest l.hold n → Holds g.R.Record.parses (λ p r q. goal.F-step g p r (Ok tt) q) l.fn.list l.fn.hold (l.record + n))

abbrev pub decreases-loop-rest : goal.decreases-loop-rest
decreases-loop-rest g l = length l.rest

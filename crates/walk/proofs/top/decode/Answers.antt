-- The whole call: its answer, and what it leaves in the table, by the walk of its top frame.
use Rattle.std.proofs.Common.{arith, length, refl}
use Rattle.std.proofs.lemmas.Result.{err_from_is_err_and}
use Rattle.meaning.specs.Rows.{rows_in}
use Rattle.walk.proofs.Parts.{known}
use Rattle.walk.proofs.Tops.{decoded-deep, decoded-full, decoded-past, decoded-short, decoded-stops, decoded-behind, decoded-marked, decoded-framed}
use Rattle.walk.proofs.top.decode.Goals as goal

pub returns-then-depth-eq0 : goal.returns-then-depth-eq0
returns-then-depth-eq0 g c = decoded-deep g.P.Profile.profile c.args.complete _ _ _ _ c.if-depth-eq0.true

pub returns-then-rows_of-eq0 : goal.returns-then-rows_of-eq0
returns-then-rows_of-eq0 g c = decoded-full g.P.Profile.profile c.args.complete _ c.if-depth-eq0.false _ _ _ _ c.rows_of.ensures c.if-rows_of-eq0.true

pub returns-then-src-at : goal.returns-then-src-at
returns-then-src-at g c = decoded-past g.P.Profile.profile c.args.complete _ c.if-depth-eq0.false (rows_in (length c.args.t.now)) (omega arith) _ c.args.t.now _ refl c.if-src-at.true

pub returns-in_err-b : goal.returns-in_err-b
returns-in_err-b g c =
    let q = err_from_is_err_and c.from_residual.result c.from_residual.ensures.1 in
    rw (q.1, q.2) (decoded-short g.P.Profile.profile c.args.complete _ c.if-depth-eq0.false (rows_in (length c.args.t.now)) (omega arith) _ c.args.t.now refl c.in_err-b.ensures)

pub top-requires-clause-known : goal.top-requires-clause-known
top-requires-clause-known g c = known _ _ _ c.kind.ensures

pub returns-in_err-walked : goal.returns-in_err-walked
returns-in_err-walked g c =
    let q = err_from_is_err_and c.from_residual-in_err-walked.result c.from_residual-in_err-walked.ensures.1 in
    rw (q.1, q.2)
    (decoded-stops g.P.Profile.profile c.args.complete _ c.if-depth-eq0.false (rows_in (length c.args.t.now)) (omega arith) _ c.args.t.now refl _ c.in_ok-b.ensures c.kind.ensures c.in_err-walked.ensures.walks c.in_err-walked.ensures.kept)

pub overflow_sub-n : goal.overflow_sub-n
overflow_sub-n g c = decoded-behind g.P.Profile.profile c.args.complete _ c.if-depth-eq0.false (rows_in (length c.args.t.now)) (omega arith) _ c.args.t.now refl _ c.in_ok-b.ensures c.kind.ensures c.in_ok-walked.ensures.walks

pub returns-then-is_marker : goal.returns-then-is_marker
returns-then-is_marker g c =
    decoded-marked g.P.Profile.profile c.args.complete _ c.if-depth-eq0.false (rows_in (length c.args.t.now)) (omega arith) _ c.args.t.now refl _ c.in_ok-b.ensures c.kind.ensures c.in_ok-walked.ensures.walks c.is_marker.ensures c.if-is_marker.true

pub returns : goal.returns
returns g c =
    decoded-framed g.P.Profile.profile c.args.complete _ c.if-depth-eq0.false (rows_in (length c.args.t.now)) (omega arith) _ c.args.t.now refl _ c.in_ok-b.ensures c.kind.ensures c.in_ok-walked.ensures.walks c.is_marker.ensures c.if-is_marker.false

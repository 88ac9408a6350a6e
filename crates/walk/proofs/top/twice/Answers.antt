-- A holder or an attribute at the top: a walk that writes nothing, and then one that writes.
use Rattle.std.specs.Prelude.{◌≡◌}
use Rattle.std.proofs.Common.{refl}
use Rattle.std.proofs.lemmas.Result.{err_from_is_err_and}
use Rattle.walk.proofs.Said.{walks-as}
use Rattle.walk.proofs.Tops.{dry-stops, dry-marked, dry-stands}
use Rattle.walk.proofs.top.twice.Goals as goal

pub returns-in_err-walked-clause-walks : goal.returns-in_err-walked-clause-walks
returns-in_err-walked-clause-walks g c =
    let q = err_from_is_err_and c.from_residual.result c.from_residual.ensures.1 in
    rw (q.1, q.2) (dry-stops _ c.in_err-walked.ensures)

pub returns-then-complete-is_marker-clause-walks : goal.returns-then-complete-is_marker-clause-walks
returns-then-complete-is_marker-clause-walks g c = dry-marked _ c.is_marker.ensures c.in_ok-walked.ensures c.if-complete-is_marker.true

pub returns-clause-walks : goal.returns-clause-walks
returns-clause-walks g c =
    let same : c.walk_held.new.t ≡ c.args.t.now = c.in_ok-walked.ensures.kept refl in
    walks-as refl refl (dry-stands _ c.is_marker.ensures c.in_ok-walked.ensures c.if-complete-is_marker.false) (rw same at c.walk_held-2.ensures)

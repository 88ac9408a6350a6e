-- The top frame: a leaf that the next bytes tell, or any.
use Rattle.std.specs.Prelude.{false}
use Rattle.std.proofs.Common.{refl, sym}
use Rattle.std.proofs.Math.Bool.{and-false}
use Rattle.std.proofs.lemmas.Result.{err_from_is_err_and}
use Rattle.walk.proofs.Said.{walks-as}
use Rattle.walk.proofs.Steps.{near-stops, body-near}
use Rattle.walk.proofs.Tops.{few, dry-stops, dry-stands, call-body}
use Rattle.walk.proofs.top.top_frame.Goals as goal

pub returns-in_err-near-clause-walks : goal.returns-in_err-near-clause-walks
returns-in_err-near-clause-walks g c =
    let q = err_from_is_err_and c.from_residual.result c.from_residual.ensures.1 in
    let read = rw c.in_err-near.was at c.in-Some.ensures.read in
    rw (q.1, q.2) (call-body _ _ _ _ refl c.in-Some.ensures.plain (dry-stops _ (near-stops _ _ _ _ read)))

pub returns-in-Some-clause-walks : goal.returns-in-Some-clause-walks
returns-in-Some-clause-walks g c =
    let read = rw c.in_ok-near.was at c.in-Some.ensures.read in
    let unmarked = rw c.in_ok-near.was at c.in-Some.ensures.unmarked in
    let dry = body-near _ _ _ _ {w = false} {t₀ = c.args.t.now} _ read c.requires.one (few _ _ refl) refl in
    call-body _ _ _ _ refl c.in-Some.ensures.plain
    (walks-as refl refl (dry-stands _ (sym unmarked) dry (and-false _)) (body-near _ _ _ _ _ read c.requires.one (few _ _ refl) c.put_leaf.ensures))

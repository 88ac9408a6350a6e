-- A holder's frames, by the loop over frames; a frame under an attribute; an attribute and its frame; a frame's body, by its head; and a frame.
use Rattle.std.proofs.Common.{rules, arith, refl, sym, ◌∙◌}
use Rattle.std.proofs.lemmas.Result.{err_from_is_err_and}
use Rattle.kinds.specs.Codes.{code_of}
use Rattle.walk.proofs.Keys.{turn-start, turn-used, turn-next, turn-stops, turn-marked, turn-misfit, turn-ends, more_left, none_left}
use Rattle.walk.proofs.Steps.{frame-0, frame-no-room, frame-stops, frame-rest, typed-body, near-stops, body-near, body-array, body-rest}
use Rattle.walk.proofs.Parts.{own, known, part-stops, part-dropped, part-ends, part-full, part-short, part-twice, part-next}
use Rattle.walk.proofs.frames.+walk.Goals as goal

-- ---- a frame

pub frame-returns-then-depth-eq0 : goal.frame-returns-then-depth-eq0
frame-returns-then-depth-eq0 g t c = frame-0 _ _ c.if-depth-eq0.true

pub frame-returns-then-room : goal.frame-returns-then-room
frame-returns-then-room g t c = frame-no-room _ _ c.if-depth-eq0.false c.if-room.true

pub frame-returns-in_err-b : goal.frame-returns-in_err-b
frame-returns-in_err-b g t c =
    let q = err_from_is_err_and c.from_residual.result c.from_residual.ensures.1 in
    rw (q.1, q.2) (frame-stops _ _ c.if-depth-eq0.false (omega arith) c.in_err-b.ensures)

pub frame-returns-in_err-leaf : goal.frame-returns-in_err-leaf
frame-returns-in_err-leaf g t c =
    let q = err_from_is_err_and c.from_residual-in_err-leaf.result c.from_residual-in_err-leaf.ensures.1 in
    let read = rw c.in_err-leaf.was at c.in-Some.ensures.read in
    rw (q.1, q.2) (frame-rest _ _ c.if-depth-eq0.false (omega arith) _ c.in_ok-b.ensures c.kind-kind.ensures (typed-body _ _ _ c.in-Some.ensures.plain (near-stops _ _ _ _ read)))

pub frame-returns-in-Some : goal.frame-returns-in-Some
frame-returns-in-Some g t c =
    let read = rw c.in_ok-leaf.was at c.in-Some.ensures.read in
    frame-rest _ _ c.if-depth-eq0.false (omega arith) _ c.in_ok-b.ensures c.kind-kind.ensures (typed-body _ _ _ c.in-Some.ensures.plain (body-near _ _ _ _ _ read (omega arith) c.args.room.few c.put_leaf.ensures))

pub frame-returns-in-Some-near_array : goal.frame-returns-in-Some-near_array
frame-returns-in-Some-near_array g t c =
    rw c.anew.ensures (frame-rest _ _ c.if-depth-eq0.false (omega arith) _ c.in_ok-b.ensures c.kind-kind.ensures (typed-body _ _ _ c.in-Some-near_array.ensures.plain (body-array _ _ _ _ _ c.in-Some-near_array.ensures.read c.holder.ensures)))

pub frame-typed-requires : goal.frame-typed-requires
frame-typed-requires g t c = let k = known _ _ _ c.kind-kind.ensures in search rules

pub frame-returns-then-THREE : goal.frame-returns-then-THREE
frame-returns-then-THREE g t c =
    rw c.anew-then-THREE.ensures (frame-rest _ _ c.if-depth-eq0.false (omega arith) _ c.in_ok-b.ensures c.kind-kind.ensures c.typed.ensures)

pub frame-returns : goal.frame-returns
frame-returns g t c =
    rw c.anew-2.ensures (frame-rest _ _ c.if-depth-eq0.false (omega arith) _ c.in_ok-b.ensures c.kind-kind.ensures (typed-body _ _ _ ((known _ _ _ c.kind-kind.ensures (g.met.P.Profile.three ∙ sym c.THREE.ensures ∙ c.if-THREE.false)).0) c.body.ensures))

pub frame-body-requires : goal.frame-body-requires
frame-body-requires g t c = let k = known _ _ _ c.kind-kind.ensures in search rules

-- ---- a frame behind its type byte

pub body-returns-in_err-begun : goal.body-returns-in_err-begun
body-returns-in_err-begun g t c =
    let q = err_from_is_err_and c.from_residual.result c.from_residual.ensures.1 in
    rw (q.1, q.2) (c.in_err-begun.ensures _)

pub body-returns-in-Frame : goal.body-returns-in-Frame
body-returns-in-Frame g t c = (rw c.in-Frame.is at c.in_ok-begun.ensures) _

pub body-returns-in-Holder : goal.body-returns-in-Holder
body-returns-in-Holder g t c =
    let h = rw c.in-Holder.is at c.in_ok-begun.ensures in
    rw c.anew.ensures (body-rest _ _ _ _ _ h.0 (rw h.1 at c.holder.ensures))

-- ---- a frame by its kind

pub typed-loop-walked-init : goal.typed-loop-walked-init
typed-loop-walked-init g t c = (c.requires.fits, c.requires.known, own refl refl refl refl refl)

pub typed-returns-in_err-walked : goal.typed-returns-in_err-walked
typed-returns-in_err-walked g t c =
    let q = err_from_is_err_and c.from_residual.result c.from_residual.ensures.1 in
    rw (q.1, q.2) (part-stops _ _ _ c.loop-walked.invariant.0 c.loop-walked.invariant.2 c.in_err-walked.ensures)

pub typed-returns-then-is_wrong_carrier : goal.typed-returns-then-is_wrong_carrier
typed-returns-then-is_wrong_carrier g t c =
    part-dropped _ _ _ c.loop-walked.invariant.2 c.in_ok-walked.ensures c.loop-walked.invariant.0 (sym c.is_wrong_carrier.ensures ∙ c.if-is_wrong_carrier.true)

pub typed-returns-then-not-is_attribute : goal.typed-returns-then-not-is_attribute
typed-returns-then-not-is_attribute g t c =
    part-ends _ _ _ c.loop-walked.invariant.2 c.in_ok-walked.ensures c.loop-walked.invariant.0 (sym c.is_attribute.ensures ∙ c.if-not-is_attribute.true) (sym c.is_wrong_carrier.ensures ∙ c.if-is_wrong_carrier.false)

pub typed-returns-then-room-walked : goal.typed-returns-then-room-walked
typed-returns-then-room-walked g t c =
    part-full _ _ _ c.loop-walked.invariant.2 c.in_ok-walked.ensures (sym c.is_attribute.ensures ∙ c.if-not-is_attribute.false) c.if-room-walked.true

pub typed-returns-in_err-b : goal.typed-returns-in_err-b
typed-returns-in_err-b g t c =
    let q = err_from_is_err_and c.from_residual-in_err-b.result c.from_residual-in_err-b.ensures.1 in
    rw (q.1, q.2) (part-short _ _ _ c.loop-walked.invariant.2 c.in_ok-walked.ensures (sym c.is_attribute.ensures ∙ c.if-not-is_attribute.false) (omega arith) c.in_err-b.ensures)

pub typed-is_attribute-requires-in-loop-walked : goal.typed-is_attribute-requires-in-loop-walked
typed-is_attribute-requires-in-loop-walked g t c = known _ _ _ c.kind-part.ensures

pub typed-returns-then-is_attribute : goal.typed-returns-then-is_attribute
typed-returns-then-is_attribute g t c =
    part-twice _ _ _ c.loop-walked.invariant.2 c.in_ok-walked.ensures (sym c.is_attribute.ensures ∙ c.if-not-is_attribute.false) _ c.in_ok-b.ensures c.kind-part.ensures (omega arith) (sym c.is_attribute-in-loop-walked.ensures ∙ c.if-is_attribute.true)

pub typed-loop-walked-preserved : goal.typed-loop-walked-preserved
typed-loop-walked-preserved g t c =
    let other = sym c.is_attribute-in-loop-walked.ensures ∙ c.if-is_attribute.false in (
      omega arith,
      known _ _ _ c.kind-part.ensures,
      part-next _ _ _ c.loop-walked.invariant.2 c.in_ok-walked.ensures (sym c.is_attribute.ensures ∙ c.if-not-is_attribute.false) _ c.in_ok-b.ensures c.kind-part.ensures refl other,
    )

-- ---- a holder's frames

pub holder-loop-left-init : goal.holder-loop-left-init
holder-loop-left-init g t c = (omega arith, omega arith, omega arith, turn-start c.requires.fits)

pub holder-returns-in_err-walked : goal.holder-returns-in_err-walked
holder-returns-in_err-walked g t c =
    let q = err_from_is_err_and c.from_residual.result c.from_residual.ensures.1 in
    let more = more_left (code_of c.args.kind) c.loop-left.read c.args.n c.has_pairs-pairs.ensures c.is_more.ensures c.loop-left-test.true in
    rw (q.1, q.2) (turn-stops c.loop-left.invariant.3 _ more c.in_err-walked.ensures)

pub holder-returns-then-is_marker : goal.holder-returns-then-is_marker
holder-returns-then-is_marker g t c =
    let more = more_left (code_of c.args.kind) c.loop-left.read c.args.n c.has_pairs-pairs.ensures c.is_more.ensures c.loop-left-test.true in
    turn-marked c.loop-left.invariant.3 _ more c.is_marker.ensures c.if-is_marker.true c.in_ok-walked.ensures

pub holder-loop-left-preserved : goal.holder-loop-left-preserved
holder-loop-left-preserved g t c =
    let more = more_left (code_of c.args.kind) c.loop-left.read c.args.n c.has_pairs-pairs.ensures c.is_more.ensures c.loop-left-test.true in
    let next = turn-next c.loop-left.invariant.3 more c.is_marker.ensures c.if-is_marker.false c.in_ok-walked.ensures in
    let rows = turn-used next in
    (rows.2, rows.0, rows.1, rw (c.is_fit-fit.ensures, c.has_judged-judged.ensures, c.has_pairs-pairs.ensures) next)

pub holder-returns-then-not-fit : goal.holder-returns-then-not-fit
holder-returns-then-not-fit g t c =
    let none = none_left (code_of c.args.kind) c.loop-left.read c.args.n c.has_pairs-pairs.ensures c.is_more.ensures c.loop-left-test.false in
    turn-misfit c.loop-left.invariant.3 _ none c.if-not-fit.true

pub holder-returns : goal.holder-returns
holder-returns g t c =
    let none = none_left (code_of c.args.kind) c.loop-left.read c.args.n c.has_pairs-pairs.ensures c.is_more.ensures c.loop-left-test.false in
    turn-ends c.loop-left.invariant.3 _ none c.if-not-fit.false c.requires.fits c.args.room.few c.args.kind refl (rw c.code.ensures at c.put.ensures)

-- The measures: four for each frame that may still stand in another, and less than four more by the function that has as many left. The loop: the frames so far, with their keys or members judged.
use Rattle.std.specs.Prelude.{◌+◌, ◌-◌, ◌*◌, ◌≤◌, ◌<◌, eqb}
use denote.Param.{number}
use Rattle.meaning.specs.Choice.{pick}
use Rattle.meaning.specs.Kinds.{attribute_kind}
use Rattle.kinds.specs.Codes.{code_of, coded}
use Rattle.heads.specs.Steps.{frames_of}
use Rattle.walk.specs.contracts.frames.holder.{WRITE-type}
use Rattle.walk.specs.contracts.frames.typed as typed
use Rattle.walk.specs.Tops.{Known}
use Rattle.walk.proofs.Keys.{Turn}
use Rattle.walk.proofs.Parts.{Part}
use Rattle.walk.proofs.frames.+walk.Given as goal

abbrev pub decreases-frame : goal.decreases-frame
decreases-frame g l = 4 * l.depth

abbrev pub decreases-holder : goal.decreases-holder
decreases-holder g l = 4 * l.depth + 1

abbrev pub decreases-typed : goal.decreases-typed
decreases-typed g l = 4 * l.depth + 3

abbrev pub decreases-body : goal.decreases-body
decreases-body g l = 4 * l.depth + 2

abbrev pub decreases-typed-loop-walked : goal.decreases-typed-loop-walked
decreases-typed-loop-walked g l = pick (eqb (coded l.part) attribute_kind) 1 0

abbrev pub invariant-typed-loop-walked : goal.invariant-typed-loop-walked
invariant-typed-loop-walked g l =
    (l.used < l.room.lim) × Known g.P.Profile.profile (coded l.part)
    × Part g.P.Profile.profile l.depth (coded l.fn.kind) (typed.WRITE-type g.row.P (number g.row.WRITE)) l.c l.room.lim l.room.used l.initial.t l.t (coded l.part) l.attribute l.used l.place

abbrev pub decreases-holder-loop-left : goal.decreases-holder-loop-left
decreases-holder-loop-left g l = frames_of (code_of l.kind) l.n - l.read

abbrev pub invariant-holder-loop-left : goal.invariant-holder-loop-left
invariant-holder-loop-left g l =
    (l.used ≤ l.room.lim) × (l.room.used + 1 ≤ l.used) × (l.read + (l.room.used + 1) ≤ l.used)
    × Turn g.P.Profile.profile (WRITE-type g.row.P (number g.row.WRITE)) (code_of l.kind) l.n l.c l.room.lim l.room.used l.depth l.initial.t l.t l.place l.used l.read l.key l.fit

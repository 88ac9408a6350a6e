-- The frame walked in rows beside the table: its answer, and its rows laid in front of the table.
use Rattle.std.specs.Prelude.{◌≤◌}
use Rattle.std.proofs.Common.{arith, sym, refl, ◌∙◌}
use Rattle.walk.proofs.Tops.{judged-walks}
use Rattle.walk.proofs.Laying.{judged-fills, apart-used, apart-laid, apart-stopped}
use Rattle.walk.proofs.apart.apart.Goals as goal

pub lay-requires-clause-table : goal.lay-requires-clause-table
lay-requires-clause-table g c =
    let walk = rw (sym c.judged.ensures, c.in-Ok.is) at (judged-walks c.args.complete c.walk_held.result c.walk_held.ensures) in
    let used : c.in-Ok.walked.used ≤ g.row.ROWS = apart-used (judged-fills _ _ _ _) _ walk c.requires.few.0 in
    omega (arith, used, c.requires.table, c.if-lim.false)

pub lay-requires-clause-own : goal.lay-requires-clause-own
lay-requires-clause-own g c =
    let walk = rw (sym c.judged.ensures, c.in-Ok.is) at (judged-walks c.args.complete c.walk_held.result c.walk_held.ensures) in
    let used : c.in-Ok.walked.used ≤ g.row.ROWS = apart-used (judged-fills _ _ _ _) _ walk c.requires.few.0 in
    omega (arith, used, c.walk_held.ensures.keeps, c.as_flattened_mut-own.ensures.len)

pub lay-requires-clause-few : goal.lay-requires-clause-few
lay-requires-clause-few g c =
    let walk = rw (sym c.judged.ensures, c.in-Ok.is) at (judged-walks c.args.complete c.walk_held.result c.walk_held.ensures) in
    let used : c.in-Ok.walked.used ≤ g.row.ROWS = apart-used (judged-fills _ _ _ _) _ walk c.requires.few.0 in
    omega (arith, used, c.requires.few.1)

pub returns-in-Ok : goal.returns-in-Ok
returns-in-Ok g c =
    let walk = rw (sym c.judged.ensures, c.in-Ok.is) at (judged-walks c.args.complete c.walk_held.result c.walk_held.ensures) in
    (apart-laid (judged-fills _ _ _ _) _ walk c.requires.few.0 (omega (arith, c.as_flattened_mut-own.ensures.len)) _ (omega (arith, c.requires.table, c.if-lim.false)) c.args.lim (omega (arith, c.if-lim.false)) c.lay.ensures, tt)

pub returns-else-is_full : goal.returns-else-is_full
returns-else-is_full g c =
    let walk = rw (sym c.judged.ensures, c.in-Err.is) at (judged-walks c.args.complete c.walk_held.result c.walk_held.ensures) in
    (apart-stopped _ g.row.ROWS c.args.lim walk (sym c.is_full.ensures ∙ c.if-is_full.false) (omega (arith, c.if-lim.false)), refl)

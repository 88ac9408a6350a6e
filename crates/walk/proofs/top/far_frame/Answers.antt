-- The top frame: a leaf and HELLO at once, a holder and an attribute as `top_held` walks them, in the rows that the table has.
use Rattle.std.specs.Prelude.{◌≡◌, ◌<◌, true, false}
use Rattle.std.proofs.Common.{refl, sym, ◌∙◌}
use Rattle.std.proofs.lemmas.Result.{err_from_is_err_and}
use Rattle.heads.specs.declared.Head.TheVariants as Head
use Rattle.walk.proofs.Said.{walks-as}
use Rattle.walk.proofs.Steps.{body-stops, body-leaf, body-hello}
use Rattle.walk.proofs.Tops.{few, dry-stops, dry-marked, dry-stands, hello-stands, judged-body, call-body, call-attribute}
use Rattle.walk.proofs.top.far_frame.Goals as goal

-- ---- an attribute and its frame

pub top_held-requires-clause-known : goal.top_held-requires-clause-known
top_held-requires-clause-known g c = λ z. let e : true ≡ false = sym (sym c.is_attribute.ensures ∙ c.if-is_attribute.true) ∙ (c.requires.known z).0 in cc

pub returns-then-is_attribute-clause-walks : goal.returns-then-is_attribute-clause-walks
returns-then-is_attribute-clause-walks g c =
    rw (← c.rows_of-lim.ensures)
    (call-attribute _ _ _ _ c.is_attribute.ensures c.if-is_attribute.true c.top_held.ensures.walks)

-- ---- a holder's count that the next bytes tell

pub top_held-requires-in-Some-clause-known : goal.top_held-requires-in-Some-clause-known
top_held-requires-in-Some-clause-known g c = rw c.in-Some.ensures.kind c.requires.known

pub returns-in-Some-clause-walks : goal.returns-in-Some-clause-walks
returns-in-Some-clause-walks g c =
    let read = c.in-Some.ensures.read in
    rw (← c.rows_of-lim.ensures)
    (call-body _ _ _ _ c.is_attribute.ensures c.if-is_attribute.false
    (judged-body _ _ _ _ _ (Head.Holder c.in-Some.held c.in-Some.n) (record { means = read.means; over = read.over }) c.top_held-in-Some.ensures.walks))

-- ---- a frame without one

pub returns-in_err-head-clause-walks : goal.returns-in_err-head-clause-walks
returns-in_err-head-clause-walks g c =
    let q = err_from_is_err_and c.from_residual.result c.from_residual.ensures.1 in
    rw (← c.rows_of-lim.ensures)
    (rw (q.1, q.2) (call-body _ _ _ _ c.is_attribute.ensures c.if-is_attribute.false (dry-stops _ (body-stops _ _ _ _ c.in_err-head.ensures.read))))

pub returns-then-complete-is_marker-clause-walks : goal.returns-then-complete-is_marker-clause-walks
returns-then-complete-is_marker-clause-walks g c =
    let one : 0 < c.rows_of-lim.result = rw c.rows_of-lim.ensures c.requires.one in
    let leaf = body-leaf _ _ _ _ {w = false} {t₀ = c.args.t.now} _ (rw c.in-Leaf.is at c.in_ok-head.ensures.read) one (few _ _ c.rows_of-lim.ensures) refl in
    rw (← c.rows_of-lim.ensures)
    (call-body _ _ _ _ c.is_attribute.ensures c.if-is_attribute.false (dry-marked _ c.is_marker.ensures leaf c.if-complete-is_marker.true))

pub returns-else-complete-is_marker-clause-walks : goal.returns-else-complete-is_marker-clause-walks
returns-else-complete-is_marker-clause-walks g c =
    let head = rw c.in-Leaf.is at c.in_ok-head.ensures.read in
    let one : 0 < c.rows_of-lim.result = rw c.rows_of-lim.ensures c.requires.one in
    let leaf = body-leaf _ _ _ _ {w = false} {t₀ = c.args.t.now} _ head one (few _ _ c.rows_of-lim.ensures) refl in
    rw (← c.rows_of-lim.ensures)
    (call-body _ _ _ _ c.is_attribute.ensures c.if-is_attribute.false
    (walks-as refl refl (dry-stands _ c.is_marker.ensures leaf c.if-complete-is_marker.false) (body-leaf _ _ _ _ _ head one (few _ _ c.rows_of-lim.ensures) c.put_leaf.ensures)))

pub returns-in-Hello-clause-walks : goal.returns-in-Hello-clause-walks
returns-in-Hello-clause-walks g c =
    let head = rw c.in-Hello.is at c.in_ok-head.ensures.read in
    rw (← c.rows_of-lim.ensures)
    (call-body _ _ _ _ c.is_attribute.ensures c.if-is_attribute.false
    (walks-as refl refl (hello-stands _ _ _ _ _ _ _ _ _ head) (body-hello _ _ _ _ _ head c.hello.ensures.walks)))

pub returns-in-Holder-clause-walks : goal.returns-in-Holder-clause-walks
returns-in-Holder-clause-walks g c =
    rw (← c.rows_of-lim.ensures)
    (call-body _ _ _ _ c.is_attribute.ensures c.if-is_attribute.false (judged-body _ _ _ _ _ _ (rw c.in-Holder.is at c.in_ok-head.ensures.read) c.top_held-in-Holder.ensures.walks))

pub top_held-requires-in-Holder-clause-known : goal.top_held-requires-in-Holder-clause-known
top_held-requires-in-Holder-clause-known g c = rw (rw c.in-Holder.is at c.in_ok-head.ensures.kind) c.requires.known

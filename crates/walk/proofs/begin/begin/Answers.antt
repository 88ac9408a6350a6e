-- The beginning of a frame, by its head.
use Rattle.std.proofs.Common.{refl}
use Rattle.std.proofs.lemmas.Result.{err_from_is_err_and}
use Rattle.walk.proofs.Steps.{body-stops, body-leaf, body-hello}
use Rattle.walk.proofs.begin.begin.Goals as goal

pub returns-in_err-head : goal.returns-in_err-head
returns-in_err-head g c =
    let q = err_from_is_err_and c.from_residual.result c.from_residual.ensures.1 in
    rw (q.1, q.2) (λ p. body-stops _ p _ _ c.in_err-head.ensures.read)

pub returns-in_err-walked-in-Hello : goal.returns-in_err-walked-in-Hello
returns-in_err-walked-in-Hello g c =
    let q = err_from_is_err_and c.from_residual-in_err-walked-in-Hello.result c.from_residual-in_err-walked-in-Hello.ensures.1 in
    rw (q.1, q.2) (λ p. body-hello _ p _ _ _ (rw c.in-Hello.is at c.in_ok-head.ensures.read) c.in_err-walked-in-Hello.ensures.walks)

pub returns-in-Leaf : goal.returns-in-Leaf
returns-in-Leaf g c = λ p. body-leaf _ p _ _ _ (rw c.in-Leaf.is at c.in_ok-head.ensures.read) c.requires c.args.room.few c.put_leaf.ensures

pub returns-in_ok-walked-in-Hello : goal.returns-in_ok-walked-in-Hello
returns-in_ok-walked-in-Hello g c = λ p. body-hello _ p _ _ _ (rw c.in-Hello.is at c.in_ok-head.ensures.read) c.in_ok-walked-in-Hello.ensures.walks

pub returns-in-Holder : goal.returns-in-Holder
returns-in-Holder g c = (rw c.in-Holder.is at c.in_ok-head.ensures.read, refl, rw c.in-Holder.is at c.in_ok-head.ensures.kind)

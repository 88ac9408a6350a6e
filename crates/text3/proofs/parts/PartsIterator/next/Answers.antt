-- `text3::parts::Parts::next` meets its contract.
use Rattle.std.proofs.Common.{refl, ap, arith, length, ◌≤◌}
use Rattle.text3.specs.Parts.{spread}
use Rattle.text3.proofs.Cuts.{spread-parts}
use Rattle.text3.proofs.parts.PartsIterator.next.Goals as goal

pub returns-clause-steps : goal.returns-clause-steps
unfolding spread
returns-clause-steps c =
    let text = c.in_ok-left.left.now in
    let room : length text ≤ c.args.self.now.end = rw c.in_ok-left.was at c.args.self.now.within in
    let whole = spread-parts text in
    let cut = ap spread c.cut.ensures.parts in
    rw c.in_ok-left.was (c.cut.ensures.parts, omega arith, refl, omega arith)

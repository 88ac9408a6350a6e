-- `text3::parts::Parts::only` meets its contract.
use Rattle.std.proofs.Common.{ap, ◌∷◌, ◌∙◌}
use Rattle.text3.proofs.parts.Parts.only.Goals as goal

pub returns-in-None : goal.returns-in-None
returns-in-None c =
    let part = c.in_ok-part.ensures.steps in
    (c.in_ok-part.part.text.now, part.0 ∙ ap (λ ps. c.in_ok-part.part.text.now ∷ ps) c.in-None.ensures.steps.0, part.1, part.2)

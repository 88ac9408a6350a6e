-- The number is a refusal's, whose words are added.
use Rattle.std.proofs.Common.{◌≡◌, ◌∙◌, ap, arith}
use Rattle.wording.specs.AddLaws.{adds-as}
use Rattle.wording.specs.Words.{reason_of, reason_at}
use Rattle.wording.proofs.Named.{reason-number, reason-short}
use Rattle.wording.proofs.lent.reason.Goals as goal

pub bytes-requires : goal.bytes-requires
bytes-requires c =
    let said : c.as_bytes.result.now ≡ reason_of c.in-Ok.refusal = c.as_bytes.ensures.value ∙ c.words.ensures in
    rw said (omega (arith, reason-short c.in-Ok.refusal))

pub returns-in-Ok : goal.returns-in-Ok
returns-in-Ok c =
    let said : c.as_bytes.result.now ≡ reason_of c.in-Ok.refusal = c.as_bytes.ensures.value ∙ c.words.ensures in
    adds-as (said ∙ reason-number c.in-Ok.refusal ∙ ap reason_at c.in-Ok.ensures) c.bytes.ensures

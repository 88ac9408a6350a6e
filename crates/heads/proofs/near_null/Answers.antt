-- A length of -1 is Null in RESP2.
use Rattle.std.proofs.Common.{sym, ◌∙◌}
use Rattle.heads.proofs.Groups.{null-head}
use Rattle.heads.proofs.near_null.Goals as goal

pub returns-in_ok-next-in-BlobString-clause-read : goal.returns-in_ok-next-in-BlobString-clause-read
returns-in_ok-next-in-BlobString-clause-read g c =
    let absent = c.in_ok-next-in-BlobString.ensures g.P.Profile.profile.three in
    let read = null-head g.P.Profile.profile _ _ _ _ c.in-BlobString.is (g.met.P.Profile.three ∙ sym c.THREE.ensures ∙ c.if-THREE.false) absent.means in
    rw c.in_ok-kind.was (record { means = read; over = absent.over })

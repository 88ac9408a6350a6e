-- `head_of` meets its contract: a text behind its length, and the kind of a holder.
use Rattle.heads.proofs.Groups.{sized-head}
use Rattle.heads.proofs.head_of.Goals as goal

pub returns-in-BlobError-clause-read : goal.returns-in-BlobError-clause-read
returns-in-BlobError-clause-read g c = rw (c.in-Some.is, sized-head _ _ c.in-BlobError.is) (c.as_head-in-BlobError.ensures.read _ _ c.sized-in-BlobError.ensures)

-- ---- no leaf and no greeting is a holder

pub returns-in-Number-clause-kind : goal.returns-in-Number-clause-kind
returns-in-Number-clause-kind g c = c.as_head.ensures.kind _

pub returns-in-BlobString-clause-kind : goal.returns-in-BlobString-clause-kind
returns-in-BlobString-clause-kind g c = c.as_head-in-BlobString.ensures.kind _

pub returns-in-BlobError-clause-kind : goal.returns-in-BlobError-clause-kind
returns-in-BlobError-clause-kind g c = c.as_head-in-BlobError.ensures.kind _

pub returns-in-SimpleString-clause-kind : goal.returns-in-SimpleString-clause-kind
returns-in-SimpleString-clause-kind g c = c.as_head-in-SimpleString.ensures.kind _

pub returns-in-Null-clause-kind : goal.returns-in-Null-clause-kind
returns-in-Null-clause-kind g c = c.as_head-in-Null.ensures.kind _

pub returns-in-Boolean-clause-kind : goal.returns-in-Boolean-clause-kind
returns-in-Boolean-clause-kind g c = c.as_head-in-Boolean.ensures.kind _

pub returns-in-Double-clause-kind : goal.returns-in-Double-clause-kind
returns-in-Double-clause-kind g c = c.as_head-in-Double.ensures.kind _

pub returns-in-Hello-clause-kind : goal.returns-in-Hello-clause-kind
returns-in-Hello-clause-kind g c = c.greeting.ensures.kind _

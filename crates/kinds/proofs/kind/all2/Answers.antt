-- `kinds::all2` meets its contract: the whole table is tested.
use Rattle.meaning.specs.Kinds.{lookup, kind_of, resp2}
use Rattle.kinds.proofs.AllBytes.{kinds}
use Rattle.kinds.proofs.kind.all2.Goals as goal

pub returns : goal.returns
unfolding lookup kind_of
returns c = kinds resp2 _ tt

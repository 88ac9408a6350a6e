-- `kinds::lone_kind` meets its contract: by the byte.
use Rattle.std.proofs.Common.{sym, ap, arith}
use Rattle.meaning.specs.Kinds.{lookup, kind_of}
use Rattle.kinds.specs.Entries.{lone_kind}
use Rattle.kinds.specs.EntryLaws.{no-lone}
use Rattle.kinds.proofs.leaf.lone_kind.Goals as goal

pub returns-in-43 : goal.returns-in-43
unfolding lookup kind_of
returns-in-43 c = sym (ap lone_kind c.in-43.is)

pub returns-in-45 : goal.returns-in-45
unfolding lookup kind_of
returns-in-45 c = sym (ap lone_kind c.in-45.is)

pub returns-in-58 : goal.returns-in-58
unfolding lookup kind_of
returns-in-58 c = sym (ap lone_kind c.in-58.is)

pub returns-in-36 : goal.returns-in-36
unfolding lookup kind_of
returns-in-36 c = sym (ap lone_kind c.in-36.is)

pub returns-in_default : goal.returns-in_default
returns-in_default c = sym (no-lone c.args.b (λ e. omega arith) (λ e. omega arith) (λ e. omega arith) (λ e. omega arith))

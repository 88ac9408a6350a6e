-- A head as a step of the meaning, and what follows the length of a text.
use Rattle.std.specs.Prelude.{◌≡◌, ℕ, ◌*◌, ◌||◌, eqb}
use Rattle.meaning.specs.Choice.{pick}
use Rattle.meaning.specs.Prog.{Prog}
use Rattle.meaning.specs.Kinds.{resp3, array_kind, map_kind, attribute_kind, verbatim_kind, chunked_string_kind}
use Rattle.meaning.specs.Frames.{Step, greeting, holder, bulk_p, verbatim_p, chunk_p}
use Rattle.kinds.specs.Codes.{code_of}
use Rattle.kinds.specs.declared.kind.Kind.{Kind}
use Rattle.text3.specs.Hello.{fields_of}
use Rattle.leaf.specs.Leaves.{leaf_of}
use Rattle.heads.specs.declared.Head.{Head}

-- how many frames a count on the wire is of: two to a pair
abbrev pub frames_of : ℕ → ℕ → ℕ
frames_of k n = pick (eqb k map_kind || eqb k attribute_kind) (2 * n) n

abbrev pub step_of : Head → Step
step_of (Head.Leaf l) = leaf_of l
step_of (Head.Hello g) = greeting g.version (fields_of g)
step_of (Head.Holder k n) = holder (code_of k) (frames_of (code_of k) n)

-- a holder is of the kind of its type byte
abbrev pub OfKind : ℕ → Head → Type 0
OfKind k (Head.Leaf l) = Unit {0}
OfKind k (Head.Hello g) = Unit {0}
OfKind k (Head.Holder j n) = code_of j ≡ k

-- an array's count
abbrev pub array_of : ℕ → Step
array_of n = holder array_kind n

-- a holder's kind and its count
abbrev pub counted_of : Kind × ℕ → Step
counted_of x = holder (code_of x.0) (frames_of (code_of x.0) x.1)

-- a text of n bytes, by its kind
abbrev pub sized_p : ℕ → ℕ → Prog Step
sized_p k = pick (eqb k verbatim_kind) (verbatim_p resp3) (pick (eqb k chunked_string_kind) (chunk_p resp3) (bulk_p resp3 k))

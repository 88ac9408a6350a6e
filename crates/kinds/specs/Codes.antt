-- The code of each kind (RULES 1.3).
use Rattle.std.specs.Prelude.{ℕ, Option, None, Some}
use Rattle.kinds.specs.declared.kind.Kind.{Kind}

abbrev pub code_of : Kind → ℕ
code_of Kind.SimpleString = 1
code_of Kind.SimpleError = 2
code_of Kind.Number = 3
code_of Kind.Double = 4
code_of Kind.Boolean = 5
code_of Kind.Null = 6
code_of Kind.BlobString = 7
code_of Kind.BlobError = 8
code_of Kind.Verbatim = 9
code_of Kind.BigNumber = 10
code_of Kind.ChunkedString = 11
code_of Kind.EndStream = 12
code_of Kind.Array = 13
code_of Kind.Map = 14
code_of Kind.Set = 15
code_of Kind.Push = 16
code_of Kind.Attribute = 17
code_of Kind.Hello = 18
code_of Kind.Marker = 19
code_of Kind.User = 20
code_of Kind.Password = 21
code_of Kind.Name = 22

-- the same, or 0 where there is none
abbrev pub coded : Option Kind → ℕ
coded None = 0
coded (Some k) = code_of k

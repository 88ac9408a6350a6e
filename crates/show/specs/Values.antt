-- What is said of a row behind the name of its kind.
use Rattle.std.specs.Prelude.{List, [], Option, None, Some, ◌++◌, ℕ, ◌-◌, ◌/◌, ◌&&◌, codes, eqb, leb, length, take, drop}
use Rattle.std.specs.Fmt.{decimal, signed_decimal}
use Rattle.meaning.specs.Choice.{pick}
use Rattle.meaning.specs.Digits.{signed_word}
use Rattle.kinds.specs.declared.kind.Kind.{Kind}
use Rattle.rows.specs.declared.Row.{Row}
use Rattle.wording.specs.Escapes.{escaped_all}
use Rattle.wording.specs.Words.{name_of}
use Rattle.show.specs.Counted.{counted}

-- the bytes from one place to another, none where they are no part
abbrev pub part_of : List ℕ → ℕ → ℕ → List ℕ
part_of s from to = pick (leb from to && leb to (length s)) (take (to - from) (drop from s)) []

abbrev pub quoted : List ℕ → List ℕ
quoted s = codes " \"" ++ (escaped_all s ++ codes "\"")

-- the name of what a Marker announces
abbrev pub announced : Option Kind → List ℕ
announced None = []
announced (Some k) = name_of k

-- of a row of a kind, which announces a if it is a Marker's, and whose text is s
abbrev pub value_of : Kind → Row → Option Kind → List ℕ → List ℕ
value_of Kind.SimpleString r a s = quoted s
value_of Kind.SimpleError r a s = quoted s
value_of Kind.Number r a s = codes " " ++ signed_decimal (signed_word r.w1)
value_of Kind.Double r a s = codes " " ++ escaped_all s
value_of Kind.Boolean r a s = codes " " ++ pick (eqb r.w1 0) (codes "false") (codes "true")
value_of Kind.Null r a s = []
value_of Kind.BlobString r a s = quoted s
value_of Kind.BlobError r a s = quoted s
value_of Kind.Verbatim r a s = codes " " ++ (pick (eqb r.w3 1) (codes "txt") (codes "mkd") ++ quoted s)
value_of Kind.BigNumber r a s = quoted s
value_of Kind.ChunkedString r a s = quoted s
value_of Kind.EndStream r a s = []
value_of Kind.Array r a s = codes " of " ++ decimal r.w3
value_of Kind.Map r a s = codes " of " ++ counted (r.w3 / 2) (codes "pair")
value_of Kind.Set r a s = codes " of " ++ decimal r.w3
value_of Kind.Push r a s = codes " of " ++ decimal r.w3
value_of Kind.Attribute r a s = codes " of " ++ counted (r.w3 / 2) (codes "pair")
value_of Kind.Hello r a s = codes " " ++ decimal r.w3
value_of Kind.Marker r a s = codes ": a streamed " ++ (announced a ++ codes " begins")
value_of Kind.User r a s = quoted s
value_of Kind.Password r a s = quoted s
value_of Kind.Name r a s = quoted s

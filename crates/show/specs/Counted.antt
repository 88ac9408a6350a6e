-- A number and what it counts, as text.
use Rattle.std.specs.Prelude.{List, [], ◌++◌, ℕ, codes, eqb}
use Rattle.std.specs.Fmt.{decimal}
use Rattle.meaning.specs.Choice.{pick}

-- the number, a space, the word, and an s unless it is one
abbrev pub counted : ℕ → List ℕ → List ℕ
counted n word = decimal n ++ codes " " ++ word ++ pick (eqb n 1) [] (codes "s")

-- `kinds::all_columns` meets its contract: the whole table is tested.
use Rattle.std.proofs.Common.{Bool, false, List, [], ℕ, T, get_or, eqb, eqb→eq}
use Rattle.meaning.specs.Kinds.{column, yes}
use Rattle.kinds.specs.Entries.{IsColumns}
use Rattle.kinds.proofs.Each.{passes, size, at}
use Rattle.kinds.proofs.kind.all_columns.Goals as goal

-- the test of an entry, and of a row: it holds the three columns of its code
abbrev cell : ℕ → ℕ → Bool → Bool
cell k c b = eqb (yes b) (column k c)

abbrev row : ℕ → List Bool → Bool
row k xs = passes (cell k) 3 xs

columns : (rows : List (List Bool)) → T (passes row 23 rows) → IsColumns rows
columns rows t = record {
  size = size row 23 rows t;
  width = λ k h. size (cell k) 3 (get_or rows k []) (at row 23 rows t [] k h);
  at = λ k c h l. eqb→eq (yes (get_or (get_or rows k []) c false)) (column k c) (at (cell k) 3 (get_or rows k []) (at row 23 rows t [] k h) false c l);
}

pub returns : goal.returns
unfolding column
returns c = columns _ tt

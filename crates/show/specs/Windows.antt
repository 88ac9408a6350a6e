-- What a window shows of the input.
use Rattle.std.specs.Prelude.{List, ℕ}

-- the offset of its first byte in the input, and the bytes that it has
pub record Sight : Type 0 where
  pub front : ℕ
  pub bytes : List ℕ

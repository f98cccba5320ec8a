-- Columns as the code stores them: numbers so many places apart, one column after the other. Assumes nothing.
use Rattle.std.specs.Prelude.{List, [], ◌∷◌, ℕ, suc, ◌+◌, ◌*◌, ◌≤◌, ◌<◌, length, set}
use Rattle.columns.specs.declared.shape.Shape.{Shape}

-- numbers from a place on, w places apart
unfoldable pub placed : ℕ → List ℕ → ℕ → List ℕ → List ℕ
placed w [] at table = table
placed w (x ∷ xs) at table = placed w xs (at + w) (set table at x)

-- columns of records of w numbers, the first of them column j
unfoldable pub placed_all : ℕ → List (List ℕ) → ℕ → List ℕ → List ℕ
placed_all w [] j table = table
placed_all w (c ∷ cs) j table = placed_all w cs (suc j) (placed w c j table)

-- a table has the records of a shape, and a list of bytes room for two of each of their numbers from a place on
pub record Has (s : Shape) (table : List ℕ) (at : ℕ) (bytes : List ℕ) : Type 0 where
  pub records : s.count * s.width ≤ length table
  pub room : at + 2 * (s.width * s.count) ≤ length bytes

-- the same for one column
pub record HasColumn (s : Shape) (j : ℕ) (table : List ℕ) (at : ℕ) (bytes : List ℕ) : Type 0 where
  pub records : s.count * s.width ≤ length table
  pub column : j < s.width
  pub room : at + 2 * s.count ≤ length bytes

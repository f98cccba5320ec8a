-- Tables as the code has them: numbers in rows of one width, the first so many rows in use. Said once, over the width. Assumes nothing.
use Rattle.std.specs.Prelude.{List, [], ◌∷◌, ◌++◌, Bool, true, false, ◌&&◌, ℕ, zero, suc, ◌+◌, ◌*◌, eqb, length, take, drop}

-- the list begins with these numbers
unfoldable pub begins : List ℕ → List ℕ → Bool
begins [] ys = true
begins (x ∷ xs) [] = false
begins (x ∷ xs) (y ∷ ys) = eqb x y && begins xs ys

-- the first of n rows from row i on that is r, or the row behind them
unfoldable pub seek_row : List ℕ → List ℕ → ℕ → ℕ → ℕ
seek_row r table i zero = i
seek_row r table i (suc n) = elim (begins r (drop (i * length r) table)) [ true ↦ i | false ↦ seek_row r table (suc i) n ]

-- the number of the first of the first n rows that is r, or n
unfoldable pub find_row : List ℕ → ℕ → List ℕ → ℕ
find_row r n table = seek_row r table 0 n

-- the first n rows
unfoldable pub rows : ℕ → ℕ → List ℕ → List (List ℕ)
rows w zero table = []
rows w (suc n) table = take w table ∷ rows w n (drop w table)

-- r written over what stands from a place on
unfoldable pub written : List ℕ → ℕ → List ℕ → List ℕ
written r at table = take at table ++ r ++ drop (at + length r) table

-- Records laid down by columns, whatever their width (document 02, C-23). Assumes nothing.
use Rattle.std.specs.Prelude.{List, [], ◌++◌, map, ℕ, zero, suc, get_or, drop}
use Rattle.model.specs.Lists.{collect}
use Rattle.model.specs.Form.{spaced}
use Rattle.laws.specs.Lists.{rising}
use Rattle.tables.specs.Rows.{rows}
use Rattle.columns_model.specs.Differences.{differences, sums}

-- column j of n records of w numbers
unfoldable pub column : ℕ → ℕ → List ℕ → ℕ → List ℕ
column w n table j = spaced (λ at. get_or table at 0) w n j

-- all of them, from column 0 on
unfoldable pub columns : ℕ → ℕ → List ℕ → List (List ℕ)
columns w n table = map (column w n table) (rising 0 w)

-- column after column, each number as its difference from the one above it, each column's first from 0
unfoldable pub laid : ℕ → ℕ → List ℕ → List ℕ
laid w n table = collect (differences 0) (columns w n table)

-- The other way: n records of columns, first the first number of each.
unfoldable pub joined : ℕ → List (List ℕ) → List ℕ
joined zero cs = []
joined (suc n) cs = map (λ (c : List ℕ). get_or c 0 0) cs ++ joined n (map (drop 1) cs)

-- n records of w numbers, of w columns of n differences
unfoldable pub raised : ℕ → ℕ → List ℕ → List ℕ
raised w n ds = joined n (map (sums 0) (rows n w ds))

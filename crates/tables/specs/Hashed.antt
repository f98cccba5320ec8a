-- Tables in which rows are found by a hash, whatever their width. A bucket has one more than the last row of its hash, and a row's link one more
-- than the row before it in the same bucket; 0 is none. Assumes nothing.
use Rattle.std.specs.Prelude.{◌≡◌, List, ℕ, ◌+◌, ◌*◌, ◌≤◌, ◌<◌, length, get_or, set}
use Rattle.model.specs.Lists.{row}
use Rattle.tables.specs.Chain.{latest}
use Rattle.tables.specs.Rows.{written}

-- the place of the bucket of row i
abbrev pub bucket_at : ℕ → (List ℕ → ℕ) → List ℕ → ℕ → ℕ
bucket_at w bucket table i = bucket (row w i table)

-- the first n rows of w numbers are in their buckets, which stand from a place on to the end; a row's link stands at a place by its number
pub record Hashed (w : ℕ) (link : ℕ → ℕ) (bucket : List ℕ → ℕ) (from : ℕ) (table : List ℕ) (n : ℕ) : Type 0 where
  pub buckets : (x : ℕ) → from ≤ x → x < length table → get_or table x 0 ≡ latest (bucket_at w bucket table) x n
  pub links : (i : ℕ) → i < n → get_or table (link i) 0 ≡ latest (bucket_at w bucket table) (bucket_at w bucket table i) i

-- the table with row r behind the first n: its bucket leads to it, and its link to where the bucket did
abbrev pub appended : ℕ → ℕ → ℕ → List ℕ → List ℕ → ℕ → List ℕ
appended w link bucket table r n = set (set (written r (n * w) table) link (get_or (written r (n * w) table) bucket 0)) bucket (n + 1)

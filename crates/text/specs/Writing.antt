-- What a function that writes bytes into a list from a place on leaves there and answers. Assumes nothing.
use Rattle.std.specs.Prelude.{◌≡◌, List, ℕ, ◌+◌, ◌≤◌, length}
use Rattle.tables.specs.Rows.{written}

-- the bytes have room from the place on
abbrev pub Room : List ℕ → ℕ → List ℕ → Type 0
Room bytes at out = at + length bytes ≤ length out

-- the bytes stand from the place on, all else is as it was, and the answer is the place behind them
pub record Writes (bytes : List ℕ) (at : ℕ) (out out' : List ℕ) (end : ℕ) : Type 0 where
  pub left : out' ≡ written bytes at out
  pub next : end ≡ at + length bytes

-- `columns::raising::take_column` meets its contract. The loop's invariant: what is left of the column, stored from here on, makes the whole.
-- Assumes nothing.
use mathlib.Core.Path.{◌≡◌}
use mathlib.Core.List.{List}
use Prim.Native.Nat.{ℕ, ◌-◌}
use lib.ListN.{length}
use Rattle.columns.specs.Placed.{placed}
use Rattle.columns.proofs.ColumnsLeft.{Turn}
use Rattle.columns.proofs.Placed.{sums_left}
use Rattle.columns.proofs.raising.take_column.Given as goal

pub record Left (bytes : List ℕ) (at w count j : ℕ) (table₀ table : List ℕ) (above place next i : ℕ) : Type 0 where
  pub turn : Turn w count j at i place next
  pub long : length table ≡ length table₀
  pub left : placed w (sums_left bytes above (count - i) next) place table ≡ placed w (sums_left bytes 0 count at) j table₀

abbrev pub invariant-loop-i : goal.invariant-loop-i
invariant-loop-i l = Left l.bytes l.at l.width l.count l.j l.initial.table l.table l.above l.place l.next l.i

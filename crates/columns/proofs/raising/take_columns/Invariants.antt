-- `columns::raising::take_columns` meets its contract. The loop's invariant: the columns that are left, stored one after the other, make the
-- whole. Assumes nothing.
use mathlib.Core.Path.{◌≡◌}
use mathlib.Core.List.{List}
use Prim.Native.Nat.{ℕ, ◌+◌, ◌-◌, ◌*◌}
use lib.ListN.{length}
use Rattle.columns.specs.Placed.{placed_all}
use Rattle.columns.proofs.Placed.{all_left}
use Rattle.columns.proofs.raising.take_columns.Given as goal

pub record Left (bytes : List ℕ) (at w count : ℕ) (table₀ table : List ℕ) (j : ℕ) : Type 0 where
  pub long : length table ≡ length table₀
  pub left : placed_all w (all_left bytes count (w - j) (at + 2 * (j * count))) j table ≡ placed_all w (all_left bytes count w at) 0 table₀

abbrev pub invariant-loop-j : goal.invariant-loop-j
invariant-loop-j l = Left l.bytes l.at l.shape.width l.shape.count l.initial.table l.table l.j

-- `columns::laying::put_columns` meets its contract. The loop's invariant: the columns that are left, written from here on, make the whole.
-- Assumes nothing.
use mathlib.Core.Path.{◌≡◌}
use mathlib.Core.List.{List}
use Prim.Native.Nat.{ℕ, ◌+◌, ◌-◌, ◌*◌}
use lib.ListN.{length}
use lib.Seq.{sets}
use Rattle.columns.proofs.ColumnsLeft.{columns_left}
use Rattle.columns.proofs.laying.put_columns.Given as goal

pub record Left (table : List ℕ) (w count : ℕ) (out₀ : List ℕ) (at : ℕ) (out : List ℕ) (j : ℕ) : Type 0 where
  pub long : length out ≡ length out₀
  pub left : sets out (at + 2 * (j * count)) (columns_left table w count (w - j) j) ≡ sets out₀ at (columns_left table w count w 0)

abbrev pub invariant-loop-j : goal.invariant-loop-j
invariant-loop-j l = Left l.table l.shape.width l.shape.count l.initial.out l.at l.out l.j

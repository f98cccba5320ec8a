-- `columns::laying::put_column` meets its contract. The loop's invariant: what is left of the column, written from here on, makes the whole.
-- Assumes nothing.
use mathlib.Core.Path.{◌≡◌}
use mathlib.Core.List.{List}
use Prim.Native.Nat.{ℕ, ◌-◌}
use lib.ListN.{length}
use lib.Seq.{sets}
use Rattle.columns.proofs.ColumnsLeft.{Turn, column_left}
use Rattle.columns.proofs.laying.put_column.Given as goal

pub record Left (table : List ℕ) (w count j : ℕ) (out₀ : List ℕ) (at : ℕ) (out : List ℕ) (above place end i : ℕ) : Type 0 where
  pub turn : Turn w count j at i place end
  pub long : length out ≡ length out₀
  pub left : sets out end (column_left table w above (count - i) place) ≡ sets out₀ at (column_left table w 0 count j)

abbrev pub invariant-loop-i : goal.invariant-loop-i
invariant-loop-i l = Left l.table l.width l.count l.j l.initial.out l.at l.out l.above l.place l.end l.i

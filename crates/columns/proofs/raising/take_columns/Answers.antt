-- `columns::raising::take_columns` meets its contract. The loop's invariant: the columns that are left, stored one after the other, make the
-- whole. Assumes nothing.
use mathlib.Core.Path.{◌≡◌, refl, sym, ap₂, ◌∙◌}
use mathlib.Core.List.{List}
use Prim.Native.Nat.{ℕ, ◌+◌, ◌-◌, ◌*◌}
use native.Mathlib.Omega.{arith}
use Rattle.columns.specs.Placed.{placed_all}
use Rattle.columns.proofs.ColumnsLeft.{column_first, column_next, column_room}
use Rattle.columns.proofs.Placed.{all_left, all_done, all_step}
use Rattle.columns.proofs.raising.take_columns.Goals as goal

pub loop-j-init : goal.loop-j-init
loop-j-init c =
    let a = c.args in
    let n : a.shape.width - 0 ≡ a.shape.width = omega arith in
    record {
      long = refl;
      left = ap₂ (λ (i k : ℕ). placed_all a.shape.width (all_left a.bytes.now a.shape.count k i) 0 a.table.now) (column_first a.shape.count a.at) n;
    }

pub take_column-requires : goal.take_column-requires
take_column-requires c =
    let p = c.requires.records in
    let l = c.loop-j.invariant.long in
    record { records = omega arith; column = c.loop-j-test.true; room = column_room _ _ _ _ _ c.loop-j-test.true c.requires.room }

pub overflow_mul-j : goal.overflow_mul-j
overflow_mul-j c = let h = column_room _ _ _ _ _ c.loop-j-test.true c.requires.room in omega arith

pub overflow_add-at : goal.overflow_add-at
overflow_add-at c = let h = column_room _ _ _ _ _ c.loop-j-test.true c.requires.room in omega arith

pub loop-j-preserved : goal.loop-j-preserved
loop-j-preserved c =
    let v = c.loop-j.invariant in
    let a = c.args in
    let w : ℕ = a.shape.width in
    let count : ℕ = a.shape.count in
    let j : ℕ = c.loop-j.j in
    let next : ℕ = a.at + 2 * (j * count) in
    record {
      long = c.take_column.auto.table ∙ v.long;
      left =
          ap₂ (λ (t : List ℕ) (i : ℕ). placed_all w (all_left a.bytes.now count (w - (j + 1)) i) (j + 1) t) c.take_column.ensures (column_next count a.at j)
          ∙ all_step w a.bytes.now count (w - j) (w - (j + 1)) next j c.loop-j.table (omega arith)
          ∙ v.left;
    }

pub shape_of-table : goal.shape_of-table
shape_of-table c = c.loop-j.invariant.long

pub returns : goal.returns
returns c =
    let a = c.args in
    let l = c.loop-j in
    sym (all_done a.shape.width a.bytes.now a.shape.count (a.shape.width - l.j) (a.at + 2 * (l.j * a.shape.count)) l.j l.table (omega arith)) ∙ l.invariant.left

-- `columns::raising::take_column` meets its contract. The loop's invariant: what is left of the column, stored from here on, makes the whole.
-- Assumes nothing.
use mathlib.Core.Path.{◌≡◌, refl, sym, ap, ◌∙◌}
use Prim.Native.Nat.{ℕ, ◌+◌, ◌-◌}
use native.Mathlib.Omega.{arith}
use lib.ListN.{length-set}
use Rattle.columns_model.specs.Differences.{sum}
use Rattle.columns.specs.Placed.{placed}
use Rattle.columns.proofs.ColumnsLeft.{turn_first, turn_next, turn_stands}
use Rattle.columns.proofs.Placed.{sums_left, placed_done, placed_step}
use Rattle.columns.proofs.raising.take_column.Goals as goal

pub loop-i-init : goal.loop-i-init
loop-i-init c =
    let a = c.args in
    let n : a.shape.count - 0 ≡ a.shape.count = omega arith in
    record {
      turn = turn_first a.shape.width a.shape.count a.j a.at;
      long = refl;
      left = ap (λ (k : ℕ). placed a.shape.width (sums_left a.bytes.now 0 k a.at) a.j a.table.now) n;
    }

pub offset_bounds-table-place : goal.offset_bounds-table-place
offset_bounds-table-place c =
    let s = turn_stands c.loop-i.invariant.turn c.loop-i-test.true c.requires.column c.requires.records in
    let g = c.well_formed in
    omega arith

pub bounds-table-place : goal.bounds-table-place
bounds-table-place c = let s = turn_stands c.loop-i.invariant.turn c.loop-i-test.true c.requires.column c.requires.records in omega arith

pub overflow_add-place : goal.overflow_add-place
overflow_add-place c = let s = turn_stands c.loop-i.invariant.turn c.loop-i-test.true c.requires.column c.requires.records in omega arith

pub overflow_add-next : goal.overflow_add-next
overflow_add-next c = let p = c.requires in omega arith

pub loop-i-preserved : goal.loop-i-preserved
loop-i-preserved c =
    let v = c.loop-i.invariant in
    let a = c.args in
    let n = c.loop-i in
    record {
      turn = turn_next v.turn c.loop-i-test.true;
      long = simp length-set v.long;
      left =
          placed_step a.shape.width a.bytes.now n.above _ (a.shape.count - n.i) (a.shape.count - (n.i + 1)) n.next n.place n.table
          (omega arith) (let p = c.requires in omega arith) (ap (sum n.above) c.number_at-above.ensures)
          ∙ v.left;
    }

pub shape_of-table : goal.shape_of-table
shape_of-table c = c.loop-i.invariant.long

pub returns : goal.returns
returns c =
    let a = c.args in
    let l = c.loop-i in
    sym (placed_done a.shape.width a.bytes.now l.above (a.shape.count - l.i) l.next l.place l.table (omega arith)) ∙ l.invariant.left

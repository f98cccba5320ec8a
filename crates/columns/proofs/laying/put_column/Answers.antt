-- `columns::laying::put_column` meets its contract. The loop's invariant: what is left of the column, written from here on, makes the whole.
-- Assumes nothing.
use mathlib.Core.Path.{◌≡◌, refl, sym, ap, ◌∙◌}
use mathlib.Core.List.{List}
use Prim.Native.Nat.{ℕ, ◌+◌, ◌-◌, ◌%◌}
use native.Mathlib.Omega.{arith}
use lib.ListN.{get_or}
use lib.Seq.{sets}
use Rattle.columns_model.specs.Differences.{two_bytes}
use Rattle.columns_model.specs.Columns.{column}
use Rattle.columns.proofs.ColumnsLeft.{turn_first, turn_next, turn_stands, column_left, column_done, column_step}
use Rattle.columns.proofs.laying.put_column.Goals as goal

pub loop-i-init : goal.loop-i-init
loop-i-init c =
    let a = c.args in
    let n : a.shape.count - 0 ≡ a.shape.count = omega arith in
    record {
      turn = turn_first a.shape.width a.shape.count a.j a.at;
      long = refl;
      left = ap (λ (k : ℕ). sets a.out.now a.at (column_left a.table.now a.shape.width 0 k a.j)) n;
    }

pub offset_bounds-table-place : goal.offset_bounds-table-place
offset_bounds-table-place c = let s = turn_stands c.loop-i.invariant.turn c.loop-i-test.true c.requires.column c.requires.records in let g = c.well_formed in omega arith

pub bounds-table-place : goal.bounds-table-place
bounds-table-place c = let s = turn_stands c.loop-i.invariant.turn c.loop-i-test.true c.requires.column c.requires.records in omega arith

pub put_number-requires : goal.put_number-requires
put_number-requires c = let p = c.requires in omega arith

pub offset_bounds-table-place-in-loop-i : goal.offset_bounds-table-place-in-loop-i
offset_bounds-table-place-in-loop-i c =
    let s = turn_stands c.loop-i.invariant.turn c.loop-i-test.true c.requires.column c.requires.records in
    let g = c.well_formed in
    omega arith

pub bounds-table-place-in-loop-i : goal.bounds-table-place-in-loop-i
bounds-table-place-in-loop-i c = let s = turn_stands c.loop-i.invariant.turn c.loop-i-test.true c.requires.column c.requires.records in omega arith

pub overflow_add-place : goal.overflow_add-place
overflow_add-place c = let s = turn_stands c.loop-i.invariant.turn c.loop-i-test.true c.requires.column c.requires.records in omega arith

pub overflow_add-end : goal.overflow_add-end
overflow_add-end c = omega arith

pub loop-i-preserved : goal.loop-i-preserved
loop-i-preserved c =
    let v = c.loop-i.invariant in
    let a = c.args in
    let x : ℕ = get_or a.table.now c.loop-i.place 0 in
    let rest : List ℕ = column_left a.table.now a.shape.width x (a.shape.count - (c.loop-i.i + 1)) (c.loop-i.place + a.shape.width) in
    let same : x + (65536 - c.loop-i.above) ≡ x + 65536 - c.loop-i.above = omega (arith, c.loop-i.auto.above-fits) in
    record {
      turn = turn_next v.turn c.loop-i-test.true;
      long = c.put_number.auto.out ∙ v.long;
      left =
          ap (λ (o : List ℕ). sets o (c.loop-i.end + 2) rest) c.put_number.ensures
          ∙ ap (λ (d : ℕ). sets (sets c.loop-i.out c.loop-i.end (two_bytes (d % 65536))) (c.loop-i.end + 2) rest) same
          ∙ column_step a.table.now a.shape.width c.loop-i.above (a.shape.count - c.loop-i.i) (a.shape.count - (c.loop-i.i + 1)) c.loop-i.place (c.loop-i.place + a.shape.width) c.loop-i.out c.loop-i.end (omega arith) refl
          ∙ v.left;
    }

pub shape_of-out : goal.shape_of-out
shape_of-out c = c.loop-i.invariant.long

pub returns : goal.returns
unfolding column
returns c =
    let a = c.args in
    let l = c.loop-i in
    sym (column_done a.table.now a.shape.width l.above (a.shape.count - l.i) l.place l.out l.end (omega arith)) ∙ l.invariant.left

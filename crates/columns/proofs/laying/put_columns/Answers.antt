-- `columns::laying::put_columns` meets its contract. The loop's invariant: the columns that are left, written from here on, make the whole.
-- Assumes nothing.
use mathlib.Core.Path.{◌≡◌, refl, sym, ap₂, ◌∙◌}
use mathlib.Core.List.{List}
use Prim.Native.Nat.{ℕ, ◌+◌, ◌-◌, ◌*◌}
use native.Mathlib.Omega.{arith}
use lib.Seq.{sets}
use Rattle.columns_model.specs.Columns.{columns, laid}
use Rattle.columns.proofs.ColumnsLeft.{column_first, column_next, column_room, columns_left, columns_done, columns_step}
use Rattle.columns.proofs.laying.put_columns.Goals as goal

pub loop-j-init : goal.loop-j-init
loop-j-init c =
    let a = c.args in
    let n : a.shape.width - 0 ≡ a.shape.width = omega arith in
    record {
      long = refl;
      left = ap₂ (λ (i k : ℕ). sets a.out.now i (columns_left a.table.now a.shape.width a.shape.count k 0)) (column_first a.shape.count a.at) n;
    }

pub put_column-requires : goal.put_column-requires
put_column-requires c =
    record {
      records = c.requires.records;
      column = c.loop-j-test.true;
      room = column_room c.args.shape.width c.args.shape.count c.args.at c.loop-j.j _ c.loop-j-test.true (let p = c.requires.room in let l = c.loop-j.invariant.long in omega arith);
    }

pub overflow_mul-j : goal.overflow_mul-j
overflow_mul-j c = let h = column_room _ _ _ _ _ c.loop-j-test.true c.requires.room in omega arith

pub overflow_add-at : goal.overflow_add-at
overflow_add-at c = let h = column_room _ _ _ _ _ c.loop-j-test.true c.requires.room in omega arith

pub loop-j-preserved : goal.loop-j-preserved
loop-j-preserved c =
    let v = c.loop-j.invariant in
    let a = c.args in
    let w : ℕ = a.shape.width in
    let count : ℕ = a.shape.count in
    let j : ℕ = c.loop-j.j in
    let end : ℕ = a.at + 2 * (j * count) in
    record {
      long = c.put_column.auto.out ∙ v.long;
      left =
          ap₂ (λ (o : List ℕ) (i : ℕ). sets o i (columns_left a.table.now w count (w - (j + 1)) (j + 1))) c.put_column.ensures (column_next count a.at j)
          ∙ columns_step a.table.now w count (w - j) (w - (j + 1)) j c.loop-j.out end (omega arith)
          ∙ v.left;
    }

pub shape_of-out : goal.shape_of-out
shape_of-out c = c.loop-j.invariant.long

pub returns : goal.returns
unfolding laid columns
returns c =
    let a = c.args in
    let l = c.loop-j in
    sym (columns_done a.table.now a.shape.width a.shape.count (a.shape.width - l.j) l.j l.out (a.at + 2 * (l.j * a.shape.count)) (omega arith)) ∙ l.invariant.left

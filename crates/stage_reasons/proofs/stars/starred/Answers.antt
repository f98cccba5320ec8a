-- `stage_reasons::stars::starred` meets its contract. The loop's invariant: the row is the starred trigger as far as it came. Assumes nothing.
use mathlib.Core.Path.{sym, ap, ◌∙◌, subst}
use mathlib.Core.List.{List}
use Prim.Native.Nat.{ℕ, ◌+◌}
use native.Mathlib.Omega.{arith}
use lib.ListN.{get_or, set}
use Rattle.stage_reasons.proofs.Starred.{StarredTo, starred_none, starred_all_is, starred_with, starred_without}
use Rattle.stage_reasons.proofs.stars.starred.Goals.{then-contains, else-contains}
use Rattle.stage_reasons.proofs.stars.starred.Goals as goal

pub loop-v-init : goal.loop-v-init
loop-v-init c = starred_none c.args.set c.args.trigger

pub loop-v-preserved : goal.loop-v-preserved
loop-v-preserved c =
    let a = c.args in
    let v = c.loop-v.v in
    elim c.if-contains.branch [
      | then-contains w ↦ subst (λ (row : List ℕ). StarredTo a.set a.trigger row (v + 1)) (sym (w.row-is ∙ ap (λ (k : ℕ). set c.loop-v.row k (get_or a.trigger k 0)) w.from-at.ensures)) (starred_with a.set a.trigger v c.loop-v-test.true c.loop-v.invariant (sym c.contains.ensures ∙ w.if-contains.true))
      | else-contains w ↦ subst (λ (row : List ℕ). StarredTo a.set a.trigger row (v + 1)) (sym w.row-is) (starred_without a.set a.trigger v c.loop-v-test.true c.loop-v.invariant (sym c.contains.ensures ∙ w.if-contains.false))
    ]

pub returns : goal.returns
returns c = starred_all_is c.args.set c.args.trigger c.loop-v.invariant c.loop-v-test.false

pub bounds-row-at : goal.bounds-row-at
bounds-row-at c = omega (arith, c.loop-v.invariant.size, c.from-at.ensures)

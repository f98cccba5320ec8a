-- `outputs::skolem::template` meets its contract. The loop's invariant: the row has the numbers of the variables passed, and the next one's place
-- is behind them. Assumes nothing.
use mathlib.Core.Path.{◌≡◌, sym, ap, ap₂, ◌∙◌}
use mathlib.Core.List.{List}
use Prim.Native.Nat.{ℕ, ◌-◌}
use native.Mathlib.Omega.{arith}
use lib.ListN.{length, set}
use Rattle.facts.specs.Atoms.{value_of}
use Rattle.outputs.proofs.Variables.{elements_length, below_none, below_length, below_one, below_same, filled_up, filled_up_none, filled_up_more, filled_up_same, filled_up_all}
use Rattle.outputs.proofs.skolem.template.Goals as goal

pub overflow_cast-row : goal.overflow_cast-row
overflow_cast-row c =
    let e = c.set_size.ensures in
    let b = elements_length c.args.frontier in
    record { fits = omega arith }

pub loop-v-init : goal.loop-v-init
loop-v-init c =
    let a = c.args in
    (rw c.set_size.ensures (filled_up_none a.frontier (value_of a.numbers)), let e = ap length (below_none a.frontier) in omega arith)

pub bounds-row-place : goal.bounds-row-place
bounds-row-place c =
    let b = below_length c.args.frontier c.loop-v.v in
    omega (arith, c.loop-v.invariant.1)

pub loop-v-preserved : goal.loop-v-preserved
loop-v-preserved c =
    let a = c.args in
    let α : ℕ → ℕ = value_of a.numbers in
    let told = c.contains.ensures in
    let (row, place) = c.loop-v.invariant in (
      elim c.if-contains.branch [
        | goal.then-contains w ↦ (rw w.from.ensures at w.row-is) ∙ ap₂ (λ (xs : List ℕ) (p : ℕ). set xs p (α c.loop-v.v)) row place ∙ filled_up_more a.frontier α c.loop-v.v (omega arith) (sym told ∙ w.if-contains.true)
        | goal.else-contains w ↦ w.row-is ∙ row ∙ filled_up_same a.frontier α c.loop-v.v (sym told ∙ w.if-contains.false)
      ],
      elim c.if-contains.branch [
        | goal.then-contains w ↦ omega (arith, w.place-is, place, below_one a.frontier c.loop-v.v (sym told ∙ w.if-contains.true))
        | goal.else-contains w ↦ omega (arith, w.place-is, place, below_same a.frontier c.loop-v.v (sym told ∙ w.if-contains.false))
      ],
    )

pub returns : goal.returns
returns c =
    let a = c.args in
    let e : c.loop-v.v ≡ 8 = omega arith in
    c.loop-v.invariant.0 ∙ ap (filled_up a.frontier (value_of a.numbers)) e ∙ filled_up_all a.frontier (value_of a.numbers)

pub offset_bounds-row-place : goal.offset_bounds-row-place
offset_bounds-row-place c = let b = below_length c.args.frontier c.loop-v.v in omega (arith, c.loop-v.invariant.1)

pub overflow_add-place : goal.overflow_add-place
overflow_add-place c = let b = below_length c.args.frontier c.loop-v.v in omega (arith, c.loop-v.invariant.1)

-- `outputs::skolem::functions` meets its contract. The loop's invariant: the variables passed have their functions. Assumes nothing.
use mathlib.Core.Path.{sym, ◌∙◌, subst₂}
use mathlib.Core.List.{List}
use Prim.Native.Nat.{ℕ, ◌+◌, ◌-◌}
use native.Mathlib.Omega.{arith}
use Rattle.outputs.proofs.Variables.{below_length, Counted, counted_none, counted_yes, counted_no}
use Rattle.outputs.proofs.skolem.functions.Goals as goal

pub loop-v-init : goal.loop-v-init
loop-v-init c = counted_none c.args.existential c.args.before

pub overflow_add-last : goal.overflow_add-last
overflow_add-last c =
    let few = c.requires in
    let b = below_length c.args.existential c.loop-v.v in
    record { fits = omega (arith, c.loop-v.invariant.up_to) }

pub loop-v-preserved : goal.loop-v-preserved
loop-v-preserved c =
    let a = c.args in
    let told = c.contains.ensures in
    let inv = c.loop-v.invariant in
    elim c.if-contains.branch [
      | goal.then-contains w ↦ subst₂ (λ (xs : List ℕ) (n : ℕ). Counted a.existential a.before xs n (c.loop-v.v + 1)) (sym (rw w.from.ensures at w.numbers-is)) (sym w.last-is)
          (counted_yes a.existential a.before c.loop-v.numbers c.loop-v.last c.loop-v.v inv (omega arith) (sym told ∙ w.if-contains.true))
      | goal.else-contains w ↦ subst₂ (λ (xs : List ℕ) (n : ℕ). Counted a.existential a.before xs n (c.loop-v.v + 1)) (sym w.numbers-is) (sym w.last-is)
          (counted_no a.existential a.before c.loop-v.numbers c.loop-v.last c.loop-v.v inv (sym told ∙ w.if-contains.false))
    ]

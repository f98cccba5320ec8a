-- `stage_large::large::places` meets its contract. The loop's invariant: up to 65 the sum is that of the variables before `v`.
-- Assumes nothing.
use mathlib.Core.Path.{◌≡◌, refl, sym, ap, ◌∙◌, subst}
use Prim.Native.Nat.{ℕ, min}
use native.Mathlib.Omega.{arith}
use lib.ListN.{length, get_or}
use Rattle.tables.specs.Terms.{size_at}
use Rattle.stage_large.specs.Large.{Measured}
use Rattle.stage_large.proofs.Places.{places_before, places_none, places_with, places_without, places_all}
use Rattle.stage_large.proofs.large.places.Goals.{then-contains, else-contains}
use Rattle.stage_large.proofs.large.places.Goals as goal

pub loop-v-init : goal.loop-v-init
loop-v-init c =
    (omega arith, omega arith, omega (arith, places_none c.args.terms.now c.args.set c.args.assignment), c.requires.2, refl)

pub contains-requires : goal.contains-requires
contains-requires c = c.loop-v-test.true

pub size_of-sum-requires : goal.size_of-sum-requires
size_of-sum-requires c = (c.requires.0, omega (arith, c.from.ensures, c.requires.1 c.loop-v.v), c.loop-v.invariant.3)

pub overflow_add-sum : goal.overflow_add-sum
overflow_add-sum c =
    omega (arith, c.loop-v.invariant.0, c.loop-v.invariant.1, c.size_of-sum.ensures.0)

pub loop-v-preserved : goal.loop-v-preserved
loop-v-preserved c =
    let a = c.args in
    let i = c.loop-v.invariant in
    let h = c.loop-v-test.true in
    elim c.if-contains.branch [
      | then-contains w ↦
          let d = w.size_of-sum in
          let size = d.ensures.0 ∙ ap (λ (k : ℕ). min (size_at a.terms.now k) 65) (w.from-term.ensures ∙ ap (λ (v : ℕ). get_or a.assignment v 0) w.from.ensures) in
          let e = places_with a.terms.now a.set a.assignment c.loop-v.v h (sym c.contains.ensures ∙ w.if-contains.true) in (
            omega (arith, h),
            omega (arith, i.1, d.ensures.0, w.sum-is),
            omega (arith, i.2, size, e, w.sum-is),
            subst (Measured a.terms.now) (sym w.sizes-is) d.ensures.1,
            ap length w.sizes-is ∙ d.auto.sizes ∙ i.4,
          )
      | else-contains w ↦
          let e = places_without a.terms.now a.set a.assignment c.loop-v.v h (sym c.contains.ensures ∙ w.if-contains.false) in (
            omega (arith, h),
            omega (arith, i.1, w.sum-is),
            omega (arith, i.2, e, w.sum-is),
            subst (Measured a.terms.now) (sym w.sizes-is) i.3,
            ap length w.sizes-is ∙ i.4,
          )
    ]

pub shape_of-sizes : goal.shape_of-sizes
shape_of-sizes c = c.loop-v.invariant.4

pub returns : goal.returns
returns c =
    let a = c.args in
    let e : c.loop-v.v ≡ 8 = omega (arith, c.loop-v.invariant.0, c.loop-v-test.false) in (
      c.loop-v.invariant.2 ∙ ap (λ (v : ℕ). min (places_before a.terms.now a.set a.assignment v) 65) e ∙ ap (λ (k : ℕ). min k 65) (places_all a.terms.now a.set a.assignment),
      c.loop-v.invariant.3,
    )

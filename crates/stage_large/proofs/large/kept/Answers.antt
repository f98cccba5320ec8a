-- `stage_large::large::kept` meets its contract. The loop's invariant: the places with what was let go, and what is left, are together at most 64.
-- Assumes nothing.
use mathlib.Core.Path.{refl, sym, ap, ◌∙◌}
use Prim.Native.Nat.{ℕ, min, ◌-◌, ◌<◌}
use native.Mathlib.Omega.{arith}
use lib.ListN.{get_or}
use Rattle.tables.specs.Terms.{size_at}
use Rattle.stage_large.proofs.Kept.{all_kept, one_less}
use Rattle.stage_large.proofs.large.kept.Goals.{Then-contains}
use Rattle.stage_large.proofs.large.kept.Goals as goal

pub loop-v-init : goal.loop-v-init
loop-v-init c =
    let a = c.args in
    (omega arith, omega (arith, all_kept a.terms.now a.set a.most a.assignment, c.requires.left), c.requires.measured, refl)

-- the trigger's term at the variable is one of the stage
below : (c : Then-contains) → get_or c.args.assignment (c.loop-v.v - 1) 0 < c.args.count
below c = c.requires.within (c.loop-v.v - 1)

pub size_of-requires : goal.size_of-requires
size_of-requires c = (c.requires.ordered, omega (arith, c.from.ensures, below (goal.at.size_of-requires c).Then-contains), c.loop-v.invariant.2)

pub overflow_sub-cost : goal.overflow_sub-cost
overflow_sub-cost c =
    let b = below (goal.at.overflow_sub-cost c).Then-contains in
    let at = c.from-term.ensures ∙ ap (λ (v : ℕ). get_or c.args.assignment v 0) c.from.ensures in
    omega (arith, c.size_of.ensures.0, c.requires.bounding.1 c.from-term.result (omega (arith, at, b)))

pub loop-v-preserved-then-cost-left : goal.loop-v-preserved-then-cost-left
loop-v-preserved-then-cost-left c =
    let d = c.size_of in
    let l = c.loop-v in
    let a = c.args in
    let b = c.requires.bounding.1 (get_or a.assignment (l.v - 1) 0) (below (goal.at.loop-v-preserved-then-cost-left c).Then-contains) in
    let size = d.ensures.0 ∙ ap (λ (k : ℕ). min (size_at a.terms.now k) 65) (c.from-term.ensures ∙ ap (λ (v : ℕ). get_or a.assignment v 0) c.from.ensures) in (
      omega arith,
      one_less a.terms.now a.set a.most a.assignment l.why (l.v - 1) d.result l.left (omega (arith, l.invariant.0, c.loop-v-test.true))
          (sym c.contains.ensures ∙ c.if-contains.true) size (omega (arith, size, b)) c.if-cost-left.true l.invariant.1,
      d.ensures.1,
      d.auto.sizes ∙ l.invariant.3,
    )

pub loop-v-preserved-else-cost-left : goal.loop-v-preserved-else-cost-left
loop-v-preserved-else-cost-left c =
    let d = c.size_of in
    let l = c.loop-v in
    (omega arith, l.invariant.1, d.ensures.1, d.auto.sizes ∙ l.invariant.3)

pub loop-v-preserved : goal.loop-v-preserved
loop-v-preserved c =
    let l = c.loop-v in
    (omega arith, l.invariant.1, l.invariant.2, l.invariant.3)

pub shape_of-sizes : goal.shape_of-sizes
shape_of-sizes c = c.loop-v.invariant.3

pub returns : goal.returns
returns c =
    let i = c.loop-v.invariant in
    (omega (arith, i.1), i.2)

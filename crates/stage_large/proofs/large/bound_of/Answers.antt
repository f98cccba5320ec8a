-- `stage_large::large::bound_of` meets its contract. The loop's invariant: the sum and the bounds of the arguments that are left make what is asked
-- for. Assumes nothing.
use mathlib.Core.Path.{◌≡◌, ap, ◌∙◌}
use Prim.Native.Nat.{ℕ}
use native.Mathlib.Omega.{arith}
use lib.ListN.{get_or}
use Rattle.tables.specs.Terms.{argument_of}
use Rattle.stage_large.proofs.Bounds.{bounds_more, bounds_end}
use Rattle.stage_large.proofs.large.bound_of.Goals as goal

pub loop-j-init : goal.loop-j-init
loop-j-init c = (c.from-arity.ensures, omega arith, omega arith, omega (arith, c.from-arity.ensures))

pub loop-j-preserved : goal.loop-j-preserved
loop-j-preserved c =
    let a = c.args in
    let l = c.loop-j in
    let e = bounds_more (λ (x : ℕ). get_or a.bounds.now x 0) a.terms.now a.i l.j (omega arith) in
    let own : c.from-sum.result ≡ get_or a.bounds.now (argument_of a.terms.now a.i l.j) 0 = c.from-sum.ensures ∙ ap (λ (x : ℕ). get_or a.bounds.now x 0) c.from.ensures in
    let g = c.type_inv.bounds (argument_of a.terms.now a.i l.j) in
    (l.invariant.0, omega arith, omega (arith, own, g), omega (arith, own, e, l.invariant.3))

pub returns : goal.returns
returns c =
    let a = c.args in
    let e = bounds_end (λ (x : ℕ). get_or a.bounds.now x 0) a.terms.now a.i c.loop-j.j (omega arith) in
    omega (arith, c.min.ensures, e, c.loop-j.invariant.3)

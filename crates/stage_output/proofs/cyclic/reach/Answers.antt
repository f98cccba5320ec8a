-- `stage_output::cyclic::reach` meets its contract. The loop's invariant: the first `j` arguments are below what is reached, and that is no more than
-- they ask for. Assumes nothing.
use mathlib.Core.Path.{◌≡◌}
use Prim.Native.Nat.{ℕ, ◌+◌, ◌<◌}
use native.Mathlib.Omega.{arith}
use borrow.Author.Count.{below_more}
use lib.ListN.{get_or}
use Rattle.stage_output.proofs.cyclic.reach.Goals as goal

pub loop-j-init : goal.loop-j-init
loop-j-init c = (c.from-arity.ensures, omega arith, λ k h. absurd (omega arith), λ n h. omega arith)

pub loop-j-preserved : goal.loop-j-preserved
loop-j-preserved c =
    let f = c.farther-reached in
    let a = c.args in
    let h : c.loop-j.j < get_or a.row 1 0 = omega arith in (
      c.loop-j.invariant.0,
      omega arith,
      below_more (λ (k : ℕ). get_or a.row (k + 2) 0 < f.result) c.loop-j.j (λ k m. omega (arith, c.loop-j.invariant.2 k m, f.ensures.0)) f.ensures.1,
      λ n m. f.ensures.2 n (c.loop-j.invariant.3 n m) (m.within c.loop-j.j h),
    )

pub returns : goal.returns
returns c =
    let a = c.args in
    let e : c.loop-j.j ≡ get_or a.row 1 0 = omega arith in
    (record { few = c.requires; within = λ j h. c.loop-j.invariant.2 j (omega arith) }, c.loop-j.invariant.3)

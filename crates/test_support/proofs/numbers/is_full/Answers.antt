-- `test_support::numbers::is_full` meets its contract: every number passed is the one asked for. Assumes nothing.
use Prim.Native.Nat.{◌-◌}
use native.Mathlib.Omega.{arith}
use borrow.Author.Count.{below_more}
use Rattle.test_support.proofs.Same.{decides_same, decides_other}
use Rattle.test_support.proofs.numbers.is_full.Goals as goal

pub loop-k-init : goal.loop-k-init
loop-k-init c = (omega arith, λ j l. absurd (omega arith))

pub returns-then-list-k : goal.returns-then-list-k
returns-then-list-k c =
    let l = c in
    decides_other l.args.list.now (λ k. l.args.number) l.loop-k.k (omega arith) c.if-list-k.true

pub loop-k-preserved : goal.loop-k-preserved
loop-k-preserved c = (omega arith, below_more _ _ c.loop-k.invariant.1 c.if-list-k.false)

pub returns : goal.returns
returns c =
    let l = c in
    decides_same l.args.list.now (λ k. l.args.number) (λ j h. l.loop-k.invariant.1 j (omega arith))

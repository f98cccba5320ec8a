-- `test_support::column::find` meets its contract: what was passed from i on is not the byte. Assumes nothing.
use Prim.Native.Nat.{◌-◌}
use native.Mathlib.Omega.{arith}
use borrow.Author.Count.{below_more}
use Rattle.test_support.proofs.column.find.Goals as goal

pub loop-k-init : goal.loop-k-init
loop-k-init c = λ j l h e. absurd (omega arith)

pub returns-then-text-k : goal.returns-then-text-k
returns-then-text-k c = record { from = omega arith; within = omega arith; before = c.loop-k.invariant; at = λ h. c.if-text-k.true }

pub loop-k-preserved : goal.loop-k-preserved
loop-k-preserved c = below_more _ _ c.loop-k.invariant (λ h. c.if-text-k.false)

pub returns : goal.returns
returns c = record { from = c.requires; within = omega arith; before = λ k h. c.loop-k.invariant k (omega arith); at = λ h. absurd (omega arith) }

-- `test_support::bytes::is_front` meets its contract: every byte passed is the one asked for, or the mark. Assumes nothing.
use mathlib.Core.Path.{sym, ◌∙◌}
use Prim.Native.Nat.{◌-◌}
use native.Mathlib.Omega.{arith}
use borrow.Author.Count.{below_more}
use lib.ListN.{get_or}
use Rattle.test_support.proofs.Same.{decides_same, decides_other}
use Rattle.test_support.proofs.bytes.is_front.Goals as goal

pub loop-k-init : goal.loop-k-init
loop-k-init c = (omega arith, λ j l. absurd (omega arith))

pub byte_or_mark-requires : goal.byte_or_mark-requires
byte_or_mark-requires c = tt

pub returns-then-list-k : goal.returns-then-list-k
returns-then-list-k c =
    let l = c in
    decides_other l.args.list.now (λ k. get_or l.args.bytes.now k 238) l.loop-k.k (omega arith)
    (λ e. c.if-list-k.true (e ∙ sym c.byte_or_mark.ensures))

pub loop-k-preserved : goal.loop-k-preserved
loop-k-preserved c = (omega arith, below_more _ _ c.loop-k.invariant.1 (c.if-list-k.false ∙ c.byte_or_mark.ensures))

pub returns : goal.returns
returns c =
    let l = c in
    decides_same l.args.list.now (λ k. get_or l.args.bytes.now k 238) (λ j h. l.loop-k.invariant.1 j (omega arith))

-- `text::words::write_numbers` meets its contract. The loop's invariant: the numbers so far are written. Assumes nothing.
use mathlib.Core.List.{◌∷◌}
use Prim.Native.Nat.{ℕ}
use native.Mathlib.Omega.{arith}
use lib.Seq.{take_all}
use Rattle.model.specs.Lists.{collect}
use Rattle.model.specs.Text.{decimal}
use Rattle.text.proofs.Writing.{writes_none, writes_append}
use Rattle.text.proofs.Lines.{collect_more, collect_within}
use Rattle.text.proofs.words.write_numbers.Goals as goal

pub loop-n-init : goal.loop-n-init
unfolding collect
loop-n-init c = writes_none c.args.at c.args.out.now

pub write_number-end-requires : goal.write_number-end-requires
write_number-end-requires c =
    let e = c.loop-n.invariant.next in
    let l = c.loop-n.auto.out in
    let w = collect_within (λ (n : ℕ). 32 ∷ decimal n) c.args.numbers.now c.loop-n.n-index c.loop-n-test.true in
    rw c.from.ensures (omega arith)

pub loop-n-preserved : goal.loop-n-preserved
loop-n-preserved c =
    rw (collect_more (λ (n : ℕ). 32 ∷ decimal n) c.args.numbers.now c.loop-n.n-index c.loop-n-test.true)
    (writes_append c.loop-n.invariant (rw c.from.ensures at c.write_number-end.ensures) (omega arith))

pub returns : goal.returns
returns c = rw (take_all c.loop-n.n-index c.args.numbers.now c.loop-n-test.false) at c.loop-n.invariant

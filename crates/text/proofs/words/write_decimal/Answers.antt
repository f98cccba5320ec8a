-- `text::words::write_decimal` meets its contract. The loop's invariant: the digits from the `i`-th on are written, and `rest` has those before it.
-- Assumes nothing.
use mathlib.Core.Path.{ap}
use Prim.Native.Nat.{ℕ, ◌+◌}
use native.Mathlib.Omega.{arith}
use Rattle.text.proofs.Digits.{spelling_start, spelling_more, spelling_end}
use Rattle.text.proofs.words.write_decimal.Goals as goal

pub loop-i-init : goal.loop-i-init
loop-i-init c = rw c.digit_count-count.ensures (spelling_start c.args.n c.args.at c.args.out.now)

pub loop-i-preserved : goal.loop-i-preserved
loop-i-preserved c = spelling_more c.loop-i.invariant c.requires c.loop-i-test.true

pub returns : goal.returns
returns c =
    record {
      left = spelling_end c.loop-i.invariant (omega arith);
      next = ap (λ (k : ℕ). c.args.at + k) c.digit_count-count.ensures;
    }

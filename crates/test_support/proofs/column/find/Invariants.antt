-- `test_support::column::find` meets its contract: what was passed from i on is not the byte. Assumes nothing.
use mathlib.Core.Path.{◌≡◌}
use Prim.Native.Nat.{ℕ, ◌≤◌, ◌<◌}
use lib.ListN.{get_or}
use Rattle.test_support.proofs.column.find.Given as goal

abbrev pub invariant-loop-k : goal.invariant-loop-k
invariant-loop-k l = (j : ℕ) → j < l.k → l.i ≤ j → get_or l.text j 0 ≡ l.byte → ⊥

-- `test_support::numbers::is_full` meets its contract: every number passed is the one asked for. Assumes nothing.
use mathlib.Core.Path.{◌≡◌}
use Prim.Native.Nat.{ℕ, ◌-◌, ◌≤◌, ◌<◌}
use lib.ListN.{length, get_or}
use Rattle.test_support.proofs.numbers.is_full.Given as goal

abbrev pub invariant-loop-k : goal.invariant-loop-k
invariant-loop-k l = (l.k ≤ length l.list) × ((j : ℕ) → j < l.k → get_or l.list j 0 ≡ l.number)

-- `test_support::bytes::is_front` meets its contract: every byte passed is the one asked for, or the mark. Assumes nothing.
use mathlib.Core.Path.{◌≡◌}
use Prim.Native.Nat.{ℕ, ◌-◌, ◌≤◌, ◌<◌}
use lib.ListN.{length, get_or}
use Rattle.test_support.proofs.bytes.is_front.Given as goal

abbrev pub invariant-loop-k : goal.invariant-loop-k
invariant-loop-k l = (l.k ≤ length l.list) × ((j : ℕ) → j < l.k → get_or l.list j 0 ≡ get_or l.bytes j 238)

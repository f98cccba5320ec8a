-- `stage_output::full::none_full_behind` meets its contract. The loop's invariant: no term is full for one of the first `k` functions.
-- Assumes nothing.
use mathlib.Core.Path.{◌≡◌}
use mathlib.Core.Bool.{true}
use Prim.Native.Nat.{ℕ, suc, ◌+◌, ◌-◌, ◌<◌}
use Rattle.laws_skipping.specs.Full.{none_full_of}
use Rattle.stage_output.specs.Cyclic.{ground_in}
use Rattle.stage_output.proofs.full.none_full_behind.Given as goal

abbrev pub invariant-loop-k : goal.invariant-loop-k
invariant-loop-k l = (x : ℕ) → x < l.k → none_full_of (ground_in l.left l.terms) (suc l.before + x) ≡ true

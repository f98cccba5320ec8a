-- `stage_large::large::greatest` meets its contract. The loop's invariant: the terms so far are measured, and the greatest size is known.
-- Assumes nothing.
use mathlib.Core.Path.{◌≡◌}
use Prim.Native.Nat.{◌-◌, ◌≤◌}
use lib.ListN.{length}
use Rattle.stage_large.proofs.Bounds.{Bounds}
use Rattle.stage_large.proofs.large.greatest.Given as goal

abbrev pub invariant-loop-i : goal.invariant-loop-i
invariant-loop-i l = (l.i ≤ l.n) × (l.most ≤ 65) × (length l.bounds ≡ 512) × Bounds l.terms l.bounds l.i l.most

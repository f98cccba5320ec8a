-- `stage_large::large::kept` meets its contract. The loop's invariant: the places with what was let go, and what is left, are together at most 64.
-- Assumes nothing.
use mathlib.Core.Path.{◌≡◌}
use Prim.Native.Nat.{◌+◌, ◌≤◌}
use lib.ListN.{length}
use Rattle.stage_large.specs.Large.{places_at_most, Measured}
use Rattle.stage_large.proofs.large.kept.Given as goal

abbrev pub invariant-loop-v : goal.invariant-loop-v
invariant-loop-v l =
    (l.v ≤ 8) × (places_at_most l.terms l.set l.why l.most l.assignment + l.left ≤ 64) × Measured l.terms l.sizes × (length l.sizes ≡ length l.initial.sizes)

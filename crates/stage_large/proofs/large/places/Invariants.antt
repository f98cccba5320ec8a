-- `stage_large::large::places` meets its contract. The loop's invariant: up to 65 the sum is that of the variables before `v`.
-- Assumes nothing.
use mathlib.Core.Path.{◌≡◌}
use Prim.Native.Nat.{min, ◌*◌, ◌-◌, ◌≤◌}
use lib.ListN.{length}
use Rattle.stage_large.specs.Large.{Measured}
use Rattle.stage_large.proofs.Places.{places_before}
use Rattle.stage_large.proofs.large.places.Given as goal

abbrev pub invariant-loop-v : goal.invariant-loop-v
invariant-loop-v l =
    (l.v ≤ 8) × (l.sum ≤ l.v * 65) × (min l.sum 65 ≡ min (places_before l.terms l.set l.assignment l.v) 65) × Measured l.terms l.sizes × (length l.sizes ≡ length l.initial.sizes)

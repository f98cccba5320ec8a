-- `stage_output::cyclic::reach` meets its contract. The loop's invariant: the first `j` arguments are below what is reached, and that is no more than
-- they ask for. Assumes nothing.
use mathlib.Core.Path.{◌≡◌}
use Prim.Native.Nat.{ℕ, ◌+◌, ◌-◌, ◌≤◌, ◌<◌}
use lib.ListN.{get_or}
use Rattle.stage_output.specs.Cyclic.{Arguments}
use Rattle.stage_output.proofs.cyclic.reach.Given as goal

abbrev pub invariant-loop-j : goal.invariant-loop-j
invariant-loop-j l =
    (l.arity ≡ get_or l.row 1 0) × (l.j ≤ l.arity) × ((k : ℕ) → k < l.j → get_or l.row (k + 2) 0 < l.reached) × ((n : ℕ) → Arguments n l.row → l.reached ≤ n)

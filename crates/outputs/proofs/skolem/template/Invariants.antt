-- `outputs::skolem::template` meets its contract. The loop's invariant: the row has the numbers of the variables passed, and the next one's place
-- is behind them. Assumes nothing.
use mathlib.Core.Path.{◌≡◌}
use Prim.Native.Nat.{◌+◌, ◌-◌}
use lib.ListN.{length}
use Rattle.facts.specs.Atoms.{value_of}
use Rattle.outputs.proofs.Variables.{below, filled_up}
use Rattle.outputs.proofs.skolem.template.Given as goal

abbrev pub invariant-loop-v : goal.invariant-loop-v
invariant-loop-v l = (l.row ≡ filled_up l.frontier (value_of l.numbers) l.v) × (l.place ≡ 2 + length (below l.frontier l.v))

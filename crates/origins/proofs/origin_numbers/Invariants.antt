-- `origins::origin_numbers` meets its contract. The loop's invariant: the variables passed have their numbers. Assumes nothing.
use lib.ListN.{length, get_or}
use mathlib.Core.Path.{◌≡◌}
use Prim.Native.Nat.{ℕ, ◌-◌, ◌<◌}
use Rattle.model.specs.Lists.{row}
use Rattle.rows.specs.Copies.{arguments_in}
use Rattle.origins.specs.Origin.{origin_number}
use Rattle.origins.proofs.origin_numbers.Given as goal

abbrev pub invariant-loop-v : goal.invariant-loop-v
invariant-loop-v l = (length l.names ≡ 8) × ((w : ℕ) → w < l.v → get_or l.names w 0 ≡ origin_number l.frontier l.others (arguments_in (row 10 l.j l.table)) l.base w)

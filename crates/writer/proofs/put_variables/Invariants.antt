-- `writer::put_variables` meets its contract: between turns the loop is as `Writing` says. Assumes nothing.
use mathlib.Core.Path.{◌≡◌}
use Prim.Native.Nat.{◌≤◌, ◌-◌, ◌+◌}
use lib.ListN.{length}
use Rattle.model.specs.Lists.{numbers_from}
use Rattle.model.specs.Format.{variable}
use Rattle.form_variables.specs.Sets.{set_of}
use Rattle.writer.proofs.Writing.{Writing}
use Rattle.writer.proofs.put_variables.Given as goal

abbrev pub invariant-loop-k : goal.invariant-loop-k
invariant-loop-k l =
    (l.end ≤ l.i + l.k) × (length l.out ≡ length l.initial.out)
    × Writing (λ bs. variable bs) (λ vs s. set_of vs ≡ s) l.n l.i (numbers_from l.form l.at l.n) l.initial.out l.k l.end l.set (numbers_from l.form (l.at + l.k) (l.n - l.k)) l.out

-- `writer::put_many_atoms` meets its contract: between turns the loop is as `Turns` says. Assumes nothing.
use mathlib.Core.Path.{◌≡◌}
use Prim.Native.Nat.{◌-◌, ◌+◌}
use Rattle.model.specs.Limits.{fact_width}
use Rattle.model.specs.Rules.{wide}
use Rattle.model.specs.Format.{signed, atom, atom_bytes}
use Rattle.model.specs.Form.{atom_at}
use Rattle.parsing.specs.Step.{atoms_set}
use Rattle.writer.specs.Writes.{arities_in, atom_room}
use Rattle.writer.proofs.Turns.{Turns}
use Rattle.writer.proofs.put_many_atoms.Given as goal

abbrev pub invariant-loop-k : goal.invariant-loop-k
invariant-loop-k l =
    Turns (λ bs. atom bs (signed l.version (arities_in l.form l.n))) (λ as' s. atoms_set as' ≡ s) (atom_at l.form (arities_in l.form l.n)) (atom_bytes (wide l.version)) fact_width atom_room (l.group + 1) l.count l.i l.initial.out l.k l.end l.set l.out

-- `writer::put_many_disjuncts` meets its contract: between turns the loop is as `Turns` says. Assumes nothing.
use Prim.Native.Nat.{◌-◌, ◌+◌}
use Rattle.model.specs.Rules.{wide}
use Rattle.model.specs.Format.{signed, atoms, atoms_bytes}
use Rattle.model.specs.Form.{group_width, group_at}
use Rattle.parsing.proofs.Heads.{Keeps}
use Rattle.writer.specs.Writes.{arities_in, group_room}
use Rattle.writer.proofs.Turns.{Turns}
use Rattle.writer.proofs.put_many_disjuncts.Given as goal

abbrev pub invariant-loop-k : goal.invariant-loop-k
invariant-loop-k l =
    Turns (λ bs. atoms bs (signed l.version (arities_in l.form l.n))) (Keeps l.body) (group_at l.form (arities_in l.form l.n)) (atoms_bytes (wide l.version)) group_width group_room (l.rule + 22) l.count l.i l.initial.out l.k l.end l.heads l.out

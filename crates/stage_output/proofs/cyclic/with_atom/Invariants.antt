-- `stage_output::cyclic::with_atom` meets its contract. The loop's invariant: the first `p` variables have been looked at, and the row of the function
-- tested last makes no difference. Assumes nothing.
use Prim.Native.Nat.{◌-◌, ◌≤◌}
use Rattle.model.specs.Lists.{numbers_from}
use Rattle.stage_output.specs.Cyclic.{rows_with, Looked}
use Rattle.stage_output.proofs.cyclic.with_atom.Given as goal

abbrev pub invariant-loop-p : goal.invariant-loop-p
invariant-loop-p l =
    (l.p ≤ l.arity) × Looked l.ground l.terms l.template (rows_with l.functions l.template (numbers_from l.atom 1 l.p)) l.initial.so_far l.so_far

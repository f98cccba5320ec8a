-- `stage_output::full::none_full` meets its contract. The loop's invariant: no term is full for a function of the first `d` disjuncts.
-- Assumes nothing.
use mathlib.Core.Path.{◌≡◌}
use mathlib.Core.Bool.{true}
use Prim.Native.Nat.{ℕ, ◌-◌, ◌<◌}
use Rattle.model.specs.Lists.{all}
use Rattle.laws_skipping.specs.Full.{none_full_of, functions_of}
use Rattle.form_functions.specs.Functions.{numbered_of}
use Rattle.stage_output.specs.Cyclic.{ground_in}
use Rattle.stage_output.proofs.full.none_full.Given as goal

abbrev pub invariant-loop-d : goal.invariant-loop-d
invariant-loop-d l = (x : ℕ) → x < l.d → all (none_full_of (ground_in l.left l.terms)) (functions_of (numbered_of l.form l.i x)) ≡ true

-- `form_functions::number_functions` meets its contract. The loop's invariant: the first `j` places are written, and the total is what the
-- next one gets. Assumes nothing.
use mathlib.Core.Path.{◌≡◌}
use mathlib.Core.List.{◌++◌}
use Prim.Native.Nat.{◌*◌, ◌≤◌}
use lib.ListN.{length, drop}
use Rattle.model.specs.Limits.{rule_limit}
use Rattle.form_functions.specs.Functions.{places, functions_before, numbering}
use Rattle.form_functions.proofs.number_functions.Given as goal

abbrev pub invariant-loop-j : goal.invariant-loop-j
invariant-loop-j l = record {
  all : l.n ≡ places l.form;
  few : l.n ≤ 4 * rule_limit;
  total : l.total ≡ functions_before l.form l.j;
  fits : l.total ≤ 8 * l.j;
  written : l.before ≡ numbering l.form l.j ++ drop l.j l.initial.before;
  room : length l.before ≡ length l.initial.before;
}

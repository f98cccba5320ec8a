-- `form::atoms::row_at` meets its contract. The loop's invariant: the row has the predicate and the first `k` variables.
-- Assumes nothing.
use mathlib.Core.Path.{◌≡◌}
use mathlib.Core.List.{◌∷◌}
use Prim.Native.Nat.{◌+◌, ◌≤◌}
use lib.ListN.{get_or}
use Rattle.model.specs.Limits.{fact_width}
use Rattle.model.specs.Lists.{numbers_from}
use Rattle.form.specs.Places.{filled}
use Rattle.form.proofs.atoms.row_at.Given as goal

abbrev pub invariant-loop-k : goal.invariant-loop-k
invariant-loop-k l = record {
  few : l.k-end ≤ 4;
  front : l.row ≡ filled fact_width 0 (get_or l.form l.at 0 ∷ numbers_from l.form (l.at + 1) l.k);
}

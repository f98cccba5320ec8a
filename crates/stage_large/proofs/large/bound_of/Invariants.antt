-- `stage_large::large::bound_of` meets its contract. The loop's invariant: the sum and the bounds of the arguments that are left make what is asked
-- for. Assumes nothing.
use mathlib.Core.Path.{◌≡◌}
use Prim.Native.Nat.{ℕ, suc, ◌+◌, ◌*◌, ◌-◌, ◌≤◌}
use lib.ListN.{get_or, drop}
use Rattle.tables.specs.Terms.{arity_of, arguments_of, total}
use Rattle.stage_large.proofs.large.bound_of.Given as goal

abbrev pub invariant-loop-j : goal.invariant-loop-j
invariant-loop-j l =
    (l.arity ≡ arity_of l.terms l.i) × (l.j ≤ l.arity) × (l.sum ≤ 1 + l.j * 65535)
    × (suc (total (λ (x : ℕ). get_or l.bounds x 0) (arguments_of l.terms l.i)) ≡ l.sum + total (λ (x : ℕ). get_or l.bounds x 0) (drop l.j (arguments_of l.terms l.i)))

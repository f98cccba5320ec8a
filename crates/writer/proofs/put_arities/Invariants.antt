-- `writer::put_arities` meets its contract: between turns the loop is as `Writing` says. Assumes nothing.
use mathlib.Core.Path.{◌≡◌}
use Prim.Native.Nat.{ℕ, ◌≤◌, ◌<◌, ◌-◌, ◌+◌}
use lib.ListN.{length, get_or}
use Rattle.model.specs.Lists.{numbers_from}
use Rattle.model.specs.Format.{byte}
use Rattle.model.specs.Form.{arities_place}
use Rattle.parsing.proofs.Many.{Anything}
use Rattle.writer.proofs.Writing.{Writing}
use Rattle.writer.proofs.put_arities.Given as goal

abbrev pub invariant-loop-k : goal.invariant-loop-k
invariant-loop-k l =
    (l.end ≤ l.i + l.k) × (length l.out ≡ length l.initial.out) × ((p : ℕ) → p < l.k → get_or l.form (arities_place + p) 0 ≤ 4)
    × Writing (λ bs. byte bs 1 4 4) Anything l.n l.i (numbers_from l.form arities_place l.n) l.initial.out l.k l.end tt (numbers_from l.form (arities_place + l.k) (l.n - l.k)) l.out

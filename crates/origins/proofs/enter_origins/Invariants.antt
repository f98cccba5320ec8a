-- `origins::enter_origins` meets its contract. The loop's invariant: the rows that are gone through stay, and the origins of those that are left
-- give what is to be given. Assumes nothing.
use mathlib.Core.Path.{◌≡◌}
use Prim.Native.Nat.{◌-◌}
use lib.ListN.{length, drop}
use Rattle.tables.specs.Rows.{rows}
use Rattle.tables.specs.TermHash.{KeptTerms}
use Rattle.facts.specs.Hashed.{Kept}
use Rattle.outputs.specs.Naming.{held, cut}
use Rattle.rows.specs.Origins.{enter_origins}
use Rattle.origins.specs.Origin.{disjuncts_in, origins_in}
use Rattle.origins.proofs.Origins.{Stays}
use Rattle.origins.proofs.enter_origins.Given as goal

abbrev pub invariant-loop-j : goal.invariant-loop-j
invariant-loop-j l =
    Kept l.facts l.b l.limit
    × (length l.table ≡ length l.initial.table)
    × (length l.facts ≡ length l.initial.facts)
    × Stays (rows 10 l.n l.initial.table) l.table l.a
    × (cut l.limit (enter_origins (disjuncts_in l.form) (drop l.j (rows 10 l.n l.initial.table)) (held l.table l.a l.facts l.b)) ≡ cut l.limit (origins_in l.form l.initial.table l.n l.initial.facts l.m))
    × KeptTerms l.table l.a

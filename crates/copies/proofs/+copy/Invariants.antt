-- The measures and the invariant of `copies::copy`. The term number falls from a term to its arguments. The loop's invariant: the arguments passed
-- are copied, and the row has their numbers. Assumes nothing.
use mathlib.Core.Path.{◌≡◌}
use Prim.Native.Nat.{◌-◌, ◌≤◌}
use lib.ListN.{length}
use Rattle.tables.specs.Rows.{rows}
use Rattle.tables.specs.Terms.{copied_arity}
use Rattle.tables.specs.TermHash.{KeptTerms}
use Rattle.copies.proofs.Copies.{Copied}
use Rattle.copies.proofs.+copy.Given as goal

abbrev pub decreases-copy : goal.decreases-copy
decreases-copy l = l.i

abbrev pub invariant-loop-j : goal.invariant-loop-j
invariant-loop-j l =
    (l.arity ≡ copied_arity l.terms l.i) × (l.arity ≤ 8) × (length l.table ≡ length l.initial.table) × Copied l.count l.terms l.i (rows 10 l.n l.initial.table) l.table l.row l.m l.j × KeptTerms l.table l.m

-- `origins::add_constants` meets its contract. The loop's invariant: so many rows are written. Assumes nothing.
use mathlib.Core.List.{◌++◌}
use mathlib.Core.Path.{◌≡◌}
use Prim.Native.Nat.{◌+◌, ◌-◌}
use lib.ListN.{length, replicate}
use Rattle.tables.specs.Rows.{rows}
use Rattle.tables.specs.TermHash.{KeptTerms}
use Rattle.rows.specs.Copies.{constant_row}
use Rattle.origins.proofs.add_constants.Given as goal

abbrev pub invariant-loop-i : goal.invariant-loop-i
invariant-loop-i l = (length l.table ≡ length l.initial.table) × (rows 10 l.m l.table ≡ rows 10 l.n l.initial.table ++ replicate l.i constant_row) × KeptTerms l.table l.m

-- `copies::copy_terms` meets its contract. The loop's invariant: the terms of the variables passed are copied, and their numbers are known.
-- Assumes nothing.
use Rattle.copies.proofs.Chosen.{chosen}
use mathlib.Core.Path.{◌≡◌}
use Prim.Native.Nat.{ℕ, ◌-◌, ◌<◌}
use lib.ListN.{length, get_or}
use Rattle.rows.specs.Triggers.{numbers as numbers_of}
use Rattle.tables.specs.Rows.{rows}
use Rattle.tables.specs.TermHash.{KeptTerms}
use Rattle.facts.specs.Atoms.{value_of}
use Rattle.outputs.proofs.Variables.{below}
use Rattle.copies.proofs.copy_terms.Given as goal

abbrev pub invariant-loop-v : goal.invariant-loop-v
invariant-loop-v l = (length l.table ≡ length l.initial.table) × (length l.numbers ≡ 8) × (rows 10 l.n l.table ≡ (chosen (rows 10 l.count l.terms) l.count l.variables (value_of l.assignment) l.v).terms) × ((w : ℕ) → w < 8 → get_or l.numbers w 0 ≡ numbers_of (below l.variables l.v) (chosen (rows 10 l.count l.terms) l.count l.variables (value_of l.assignment) l.v).numbers w) × KeptTerms l.table l.n

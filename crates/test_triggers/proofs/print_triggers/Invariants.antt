-- `test_triggers::print_triggers` is safe and ends: less is ahead each turn. Assumes nothing.
use Rattle.new_triggers.specs.Walk.{Walks, cursor_of}
use Rattle.new_triggers.specs.Steps.{ahead_in}
use Rattle.test_triggers.proofs.print_triggers.Given as goal

abbrev pub invariant-loop-trigger : goal.invariant-loop-trigger
invariant-loop-trigger l = Walks l.plan l.over l.walk l.facts l.index

abbrev pub decreases-loop-trigger : goal.decreases-loop-trigger
decreases-loop-trigger l = ahead_in l.over.terms (cursor_of l.walk).streams

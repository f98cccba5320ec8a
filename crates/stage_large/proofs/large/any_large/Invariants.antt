-- `stage_large::large::any_large` meets its contract. The loop's invariant: what is left of the triggers decides, what agrees with one that was
-- given at the variables of its reason is not large, and the sizes were found. Each turn less is ahead. Assumes nothing.
use mathlib.Core.Path.{◌≡◌}
use lib.ListN.{length, replicate}
use Rattle.model.specs.Lists.{any}
use Rattle.triggers.specs.Search.{body_of}
use Rattle.new_triggers.specs.Unhandled.{unhandled_from}
use Rattle.new_triggers.specs.Walk.{Four, cursor_of}
use Rattle.new_triggers.specs.Steps.{ahead_in}
use Rattle.stage_large.specs.Large.{large, Measured}
use Rattle.stage_large.proofs.Steps.{Seeking}
use Rattle.stage_large.proofs.large.any_large.Given as goal

abbrev pub invariant-loop-next : goal.invariant-loop-next
invariant-loop-next l =
    Seeking (body_of l.plan) l.plan.near l.over l.facts (large l.terms l.set) (any (large l.terms l.set) (unhandled_from (body_of l.plan) l.facts l.over.facts l.over.old l.over.terms (replicate 8 0)))
    (cursor_of l.walk)
    × Measured l.terms l.sizes
    × (length l.sizes ≡ length l.initial.sizes)
    × Four l.walk

abbrev pub decreases-loop-next : goal.decreases-loop-next
decreases-loop-next l = ahead_in l.over.terms (cursor_of l.walk).streams

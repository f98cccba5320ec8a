-- `stage_large::large::next_in_question` meets its contract. The loop's invariant: no rule that was passed over is in question.
-- Assumes nothing.
use mathlib.Core.Path.{◌≡◌}
use mathlib.Core.Bool.{false}
use Prim.Native.Nat.{ℕ, ◌-◌, ◌≤◌, ◌<◌}
use lib.ListN.{length}
use Rattle.form.specs.Places.{rules_of, rule_of}
use Rattle.stage_large.specs.Large.{in_question}
use Rattle.stage_large.proofs.large.next_in_question.Given as goal

abbrev pub invariant-loop-i : goal.invariant-loop-i
invariant-loop-i l =
    (l.from ≤ l.i) × (l.i ≤ l.rules) × (l.rules ≡ length (rules_of l.form)) × ((k : ℕ) → l.from ≤ k → k < l.i → in_question (rule_of l.form k) l.facts l.counts ≡ false)

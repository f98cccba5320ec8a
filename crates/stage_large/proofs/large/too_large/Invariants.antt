-- `stage_large::large::too_large` meets its contract. The loop's invariant: the rules that are left decide, the first of them
-- is blockable, and the sizes were found. A rule that is passed over has no large trigger. Assumes nothing.
use mathlib.Core.Path.{◌≡◌}
use mathlib.Core.Bool.{true}
use Prim.Native.Nat.{◌-◌, ◌≤◌, ◌<◌}
use lib.ListN.{length, drop}
use Rattle.model.specs.Lists.{any}
use Rattle.model.specs.Rules.{blockable, entries}
use Rattle.model.specs.Form.{decoded}
use Rattle.form.specs.Places.{rules_of, rule_of}
use Rattle.rows.specs.Judging.{too_large_at}
use Rattle.stage_large.specs.Large.{Measured}
use Rattle.stage_large.specs.Stage.{tables}
use Rattle.stage_large.proofs.Sizes.{large_rule}
use Rattle.stage_large.proofs.large.too_large.Given as goal

abbrev pub invariant-loop-i : goal.invariant-loop-i
invariant-loop-i l =
    (l.i ≤ l.rules) × (l.rules ≡ length (rules_of l.form)) × (too_large_at (entries (decoded l.form)) (tables l.terms l.counts.terms l.facts l.counts.facts) ≡ any (large_rule (tables l.terms l.counts.terms l.facts l.counts.facts)) (drop l.i (rules_of l.form)))
    × (l.i < length (rules_of l.form) → blockable (rule_of l.form l.i) ≡ true)
    × Measured l.terms l.sizes
    × (length l.sizes ≡ 512)

abbrev pub decreases-loop-i : goal.decreases-loop-i
decreases-loop-i l = l.rules - l.i

-- `form::counts::rule_count` meets its contract. Assumes nothing.
use mathlib.Core.Path.{sym, ◌∙◌}
use Rattle.form.proofs.Places.{count_rules}
use Rattle.form.proofs.counts.rule_count.Goals as goal

pub returns : goal.returns
returns c = c.from.ensures ∙ sym (count_rules c.args.form.now)

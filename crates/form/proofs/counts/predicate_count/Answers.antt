-- `form::counts::predicate_count` meets its contract. Assumes nothing.
use mathlib.Core.Path.{sym, ◌∙◌}
use Rattle.form.proofs.Places.{count_predicates}
use Rattle.form.proofs.counts.predicate_count.Goals as goal

pub returns : goal.returns
returns c = c.from.ensures ∙ sym (count_predicates c.args.form.now)

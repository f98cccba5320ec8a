-- `form::counts::group_count` meets its contract. Assumes nothing.
use mathlib.Core.Path.{sym, ◌∙◌}
use Rattle.form.proofs.Places.{count_atoms}
use Rattle.form.proofs.counts.group_count.Goals as goal

pub returns : goal.returns
returns c = c.from.ensures ∙ sym (count_atoms c.args.form.now c.args.at)

-- `parsing::number` meets its contract: the number of one byte or of two. Assumes nothing.
use mathlib.Core.Path.{sym, ◌∙◌}
use mathlib.Core.Bool.{false}
use Rattle.model.specs.Format as format
use Rattle.parsing.proofs.Numbers.{number_of}
use Rattle.parsing.proofs.number.Goals as goal

pub returns : goal.returns
unfolding format.number
returns c = c.narrow_number.ensures ∙ number_of false _ _ _ _ _ _ (sym c.is_wide.ensures ∙ c.if-is_wide.false)

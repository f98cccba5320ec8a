-- `parsing::most_predicates` meets its contract: each way out is a case of the definition. Assumes nothing.
use mathlib.Core.Path.{sym, ◌∙◌}
use mathlib.Core.Bool.{true, false}
use Rattle.parsing.proofs.Numbers.{most_of}
use Rattle.parsing.proofs.most_predicates.Goals as goal

pub returns-then-is_wide : goal.returns-then-is_wide
returns-then-is_wide c = most_of true _ (sym c.is_wide.ensures ∙ c.if-is_wide.true)

pub returns : goal.returns
returns c = most_of false _ (sym c.is_wide.ensures ∙ c.if-is_wide.false)

-- `converter::opening` meets its contract: the version's byte, and then the count. Assumes nothing.
use mathlib.Core.Path.{sym, ◌∙◌}
use Rattle.parsing.proofs.Parsing.{handed_on}
use Rattle.converter_model.specs.Converter.{opening}
use Rattle.converter_model.proofs.Converting.{parts_good, parts_bad}
use Rattle.converter.proofs.opening.Goals as goal

pub returns-in_err-i : goal.returns-in_err-i
unfolding opening
returns-in_err-i c = rw (handed_on c.from_residual.ensures.1) (sym (parts_bad _ _ _ _ (sym c.in_err-i.ensures)))

pub returns : goal.returns
unfolding opening
returns c = c.number.ensures ∙ sym (parts_good _ _ _ _ (sym c.in_ok-i.ensures))

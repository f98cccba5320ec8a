-- `parsing::narrow_number` meets its contract: the byte that stands there, if it is in the range. Assumes nothing.
use mathlib.Core.Path.{sym, ◌∙◌}
use Rattle.parsing.proofs.Parsing.{handed_on, and_then_good, and_then_bad}
use Rattle.parsing.proofs.Numbers.{ranged_same, byte_through}
use Rattle.parsing.proofs.narrow_number.Goals as goal

pub returns-in_err-only : goal.returns-in_err-only
returns-in_err-only c =
    rw (handed_on c.from_residual.ensures.1)
    (sym (byte_through _ _ _ _ _ (λ k. (c.type_inv.bytes k).fits) ∙ and_then_bad _ _ _ _ (sym c.in_err-only.ensures)))

pub returns : goal.returns
returns c =
    c.within.ensures ∙ ranged_same _ _ _ _ _ _ _ c.from.ensures
    ∙ sym (byte_through _ _ _ _ _ (λ k. (c.type_inv.bytes k).fits) ∙ and_then_good _ _ _ _ (sym c.in_ok-only.ensures))

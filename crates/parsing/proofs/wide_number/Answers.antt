-- `parsing::wide_number` meets its contract: the two bytes that stand there, if there are two and they are in the range. Assumes nothing.
use mathlib.Core.Path.{sym, ◌∙◌}
use Rattle.parsing.proofs.Parsing.{handed_on, and_then_good, and_then_bad}
use Rattle.parsing.proofs.Numbers.{ranged_same, pair_through}
use Rattle.parsing.proofs.wide_number.Goals as goal

pub returns-in_err-first : goal.returns-in_err-first
returns-in_err-first c =
    rw (handed_on c.from_residual.ensures.1)
    (sym (pair_through _ _ _ _ _ (λ k. (c.type_inv.bytes k).fits) ∙ and_then_bad _ _ _ _ (sym c.in_err-first.ensures)))

pub returns-in_err-second : goal.returns-in_err-second
returns-in_err-second c =
    rw (handed_on c.from_residual-in_err-second.ensures.1)
    (sym (pair_through _ _ _ _ _ (λ k. (c.type_inv.bytes k).fits)
    ∙ and_then_good _ _ _ _ (sym c.in_ok-first.ensures)
    ∙ and_then_bad _ _ _ _ (sym c.in_err-second.ensures)))

pub returns : goal.returns
returns c =
    c.within.ensures ∙ ranged_same _ _ _ _ _ _ _ c.from_be_bytes-value.ensures
    ∙ sym (pair_through _ _ _ _ _ (λ k. (c.type_inv.bytes k).fits)
    ∙ and_then_good _ _ _ _ (sym c.in_ok-first.ensures)
    ∙ and_then_good _ _ _ _ (sym c.in_ok-second.ensures))

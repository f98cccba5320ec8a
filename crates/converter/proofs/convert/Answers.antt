-- `converter::convert` meets its contract: the refusals in their order, and then what was written. Assumes nothing.
use mathlib.Core.Path.{◌≡◌, sym, ◌∙◌}
use mathlib.Core.Bool.{true}
use Rattle.model.specs.Format.{whole}
use Rattle.parsing.proofs.Parsing.{handed_on}
use Rattle.converter_model.proofs.Converting.{parts_bad, convertible_whole, convertible_cut, converting_short, converting_bad}
use Rattle.converter.proofs.Rewriting.{rewriting_converts}
use Rattle.converter.proofs.convert.Goals.{Else-not-is_whole}
use Rattle.converter.proofs.convert.Goals as goal

-- past the test of the length
wholly : (c : Else-not-is_whole) → whole c.args.bytes.now ≡ true
wholly c = sym c.is_whole.ensures ∙ c.if-not-is_whole.false

pub returns-then-out-lt-BYTES_LIMIT : goal.returns-then-out-lt-BYTES_LIMIT
returns-then-out-lt-BYTES_LIMIT c = converting_short _ _ _ _ c.if-out-lt-BYTES_LIMIT.true

pub returns-then-not-is_whole : goal.returns-then-not-is_whole
returns-then-not-is_whole c =
    converting_bad _ _ _ _ c.if-out-lt-BYTES_LIMIT.false _ _ (convertible_cut _ _ (sym c.is_whole.ensures ∙ c.if-not-is_whole.true))

pub returns-in_err-opening : goal.returns-in_err-opening
returns-in_err-opening c =
    let w = wholly (goal.at.returns-in_err-opening c).Else-not-is_whole in
    rw (handed_on c.from_residual.ensures.1)
    (converting_bad _ _ _ _ c.if-out-lt-BYTES_LIMIT.false _ _ (convertible_whole _ _ w ∙ parts_bad _ _ _ _ (sym c.in_err-opening.ensures)))

pub returns : goal.returns
returns c =
    let w = wholly (goal.at.returns c).Else-not-is_whole in
    rewriting_converts _ _ _ _ c.requires c.if-out-lt-BYTES_LIMIT.false w _ _ (sym c.in_ok-opening.ensures) ∙ c.rewrite.ensures

-- `reader::read_afresh` meets its contract: the refusals in their order, and the form that was filled. Assumes nothing.
use mathlib.Core.Path.{◌≡◌, sym, ap, ◌∙◌}
use mathlib.Core.List.{List}
use Prim.Native.Nat.{ℕ}
use Rattle.model.specs.Format.{rule_set, read}
use Rattle.model.specs.Form.{done}
use Rattle.parsing.specs.Step.{none}
use Rattle.parsing.proofs.Parsing.{Parses, handed_on, step_good, step_bad}
use Rattle.reader.proofs.Reading.{read_cut, read_whole, afresh_bad, afresh_good}
use Rattle.reader.proofs.read_afresh.Goals as goal
use Rattle.reader.proofs.read_afresh.Goals.{Else-not-is_whole, In_ok-rule_set}

-- past the test of the length
whole : (c : Else-not-is_whole) → read c.args.bytes.now ≡ rule_set c.args.bytes.now
whole c = read_whole _ (sym c.is_whole.ensures ∙ c.if-not-is_whole.false)

parsed : (c : In_ok-rule_set) → Parses none (rule_set c.args.bytes.now) c.in_ok-rule_set.field-0.value c.in_ok-rule_set.field-0.next
parsed c = step_good none _ _ _ c.in_ok-rule_set.ensures.answer

pub returns-then-not-is_whole : goal.returns-then-not-is_whole
returns-then-not-is_whole c = afresh_bad _ _ _ (read_cut _ (sym c.is_whole.ensures ∙ c.if-not-is_whole.true))

pub returns-in_err-rule_set : goal.returns-in_err-rule_set
returns-in_err-rule_set c =
    rw (handed_on c.from_residual.ensures.1)
    (afresh_bad _ _ _ (whole (goal.at.returns-in_err-rule_set c).Else-not-is_whole ∙ step_bad none _ _ _ c.in_err-rule_set.ensures.answer))

pub returns : goal.returns
returns c =
    let p = parsed (goal.at.returns c).In_ok-rule_set in
    afresh_good _ _ _ (whole (goal.at.returns c).Else-not-is_whole ∙ p.parse)
    ∙ ap (λ (xs : List ℕ). record { answer = done c.in_ok-rule_set.field-0.next; form = xs }) (sym (c.in_ok-rule_set.ensures.stored _ _ p.parse))

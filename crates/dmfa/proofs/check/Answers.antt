-- `dmfa::check` meets its contract: the refusals in their order, then the answer on the form that was read. Assumes nothing.
use mathlib.Core.Path.{refl, sym, ◌∙◌}
use mathlib.Core.Logic.{inl, inr, ⊎_elim}
use native.Mathlib.Omega.{arith}
use Rattle.model.specs.Form.{form_length}
use Rattle.reader.proofs.Reading.{zeros_long}
use Rattle.parsing.specs.Step.{zeros}
use Rattle.laws_tables.specs.Lent.{Fronts}
use Rattle.laws_tables.proofs.Courses.{checked_short, checked_shallow}
use Rattle.dmfa.proofs.Checking.{depth_told, no_depth_told, checked_refused, form_held, checked_left}
use Rattle.dmfa.proofs.check.Goals as goal

pub returns-then-terms-lt-TERMS_FRONT : goal.returns-then-terms-lt-TERMS_FRONT
returns-then-terms-lt-TERMS_FRONT c =
    let a = c.args in
    rw c.from.ensures (checked_short a.depth a.bytes.now a.terms.now a.facts.now (⊎_elim inl (λ h. inr h.1) c.then-terms-lt-TERMS_FRONT.either))

pub returns-then-not-is_depth : goal.returns-then-not-is_depth
returns-then-not-is_depth c =
    let d = c.is_depth in
    let a = c.args in
    rw c.from-then-not-is_depth.ensures
    (checked_shallow a.depth a.bytes.now a.terms.now a.facts.now (record { terms = c.if-terms-lt-TERMS_FRONT.false; facts = c.if-facts-lt-FACTS_FRONT.false })
    (no_depth_told a.depth (sym d.ensures ∙ c.if-not-is_depth.true)))

pub read_afresh-requires : goal.read_afresh-requires
unfolding zeros
read_afresh-requires c = refl

pub overflow_cast-depth : goal.overflow_cast-depth
overflow_cast-depth c =
    let d = depth_told c.args.depth (sym c.is_depth.ensures ∙ c.if-not-is_depth.false) in
    omega (arith, d.1)

pub check_form-requires : goal.check_form-requires
check_form-requires c =
    let a = c.args in
    let h : Fronts a.terms.now a.facts.now = record { terms = c.if-terms-lt-TERMS_FRONT.false; facts = c.if-facts-lt-FACTS_FRONT.false } in
    let d = depth_told c.args.depth (sym c.is_depth.ensures ∙ c.if-not-is_depth.false) in
    (d.0, form_held a.depth a.bytes.now (zeros form_length) a.terms.now a.facts.now zeros_long h d _ _ c.in-Ok.ensures, h.terms, h.facts)

pub returns-in-Ok : goal.returns-in-Ok
returns-in-Ok c =
    let a = c.args in
    let h : Fronts a.terms.now a.facts.now = record { terms = c.if-terms-lt-TERMS_FRONT.false; facts = c.if-facts-lt-FACTS_FRONT.false } in
    let d = depth_told c.args.depth (sym c.is_depth.ensures ∙ c.if-not-is_depth.false) in
    checked_left a.depth a.bytes.now (zeros form_length) a.terms.now a.facts.now zeros_long h d _ _ c.in-Ok.ensures ∙ sym c.check_form.ensures

pub returns-in-Err : goal.returns-in-Err
returns-in-Err c =
    let a = c.args in
    let h : Fronts a.terms.now a.facts.now = record { terms = c.if-terms-lt-TERMS_FRONT.false; facts = c.if-facts-lt-FACTS_FRONT.false } in
    let d = depth_told c.args.depth (sym c.is_depth.ensures ∙ c.if-not-is_depth.false) in
    rw c.from-in-Err.ensures (checked_refused a.depth a.bytes.now (zeros form_length) a.terms.now a.facts.now zeros_long h d _ _ c.in-Err.ensures)

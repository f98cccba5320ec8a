-- `stage_large::large::in_question` meets its contract: by the two tests. Assumes nothing.
use mathlib.Core.Path.{sym, ap, ◌∙◌}
use mathlib.Core.Bool.{Bool, not, ◌&&◌}
use Rattle.form.specs.Places.{rule_of}
use Rattle.stage_large.specs.Idle.{idle}
use Rattle.stage_large.proofs.large.in_question.Goals as goal

pub returns-then-is_blockable : goal.returns-then-is_blockable
returns-then-is_blockable c =
    let a = c.args in
    let r = rule_of a.form.now a.i in
    ap not c.is_idle.ensures
    ∙ ap (λ (b : Bool). b && not (idle r a.facts.now a.counts.facts a.counts.old)) (sym (sym c.is_blockable.ensures ∙ c.if-is_blockable.true))

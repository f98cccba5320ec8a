-- `stage_reasons::reason::blocked_for_disjunct` meets its contract: one disjunct after the other. Assumes nothing.
use mathlib.Core.Path.{sym, ◌∙◌}
use native.Mathlib.Omega.{arith}
use Rattle.tables.specs.Rows.{rows}
use Rattle.form.proofs.Rows.{next_turn, first_disjunct}
use Rattle.stage_reasons.proofs.Blocked.{free_blocked}
use Rattle.stage_reasons.proofs.Known.{for_some, for_none}
use Rattle.stage_reasons.proofs.reason.blocked_for_disjunct.Goals as goal

pub disjunct_count-count-requires : goal.disjunct_count-count-requires
disjunct_count-count-requires c = let r = c.requires.0.rule.rule in (r.held, r.within)

pub loop-d-init : goal.loop-d-init
loop-d-init c = let r = c.requires.0.rule.rule in first_disjunct (r.held, r.within) c.disjunct_count-count.ensures

pub own_variables-own-requires : goal.own_variables-own-requires
own_variables-own-requires c =
    let p = c.requires.0 in
    (p.rule.rule, omega (arith, c.loop-d.invariant.count), p.frontier_is)

pub blocked_outside-requires : goal.blocked_outside-requires
blocked_outside-requires c =
    let p = c.requires.0 in
    (p.rule, p.ordered, p.testing c.own_variables-own.result)

pub returns-then-blocked_outside : goal.returns-then-blocked_outside
returns-then-blocked_outside c =
    let a = c.args in
    for_some _ c.own_variables-own.result
    (free_blocked a.form.now a.i (rows 10 a.left.terms a.terms.now) a.trigger c.own_variables-own.result (sym c.blocked_outside.ensures ∙ c.if-blocked_outside.true) c.requires.1)

pub loop-d-preserved : goal.loop-d-preserved
loop-d-preserved c = next_turn c.loop-d.invariant (omega arith)

pub returns : goal.returns
returns c = for_none _

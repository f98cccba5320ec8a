-- `stage_reasons::reason::blocked_for` meets its contract, by what its steps ensure. Assumes nothing.
use mathlib.Core.Path.{sym, ◌∙◌}
use Rattle.tables.specs.Rows.{rows}
use Rattle.stage_reasons.proofs.Blocked.{frontier_blocked}
use Rattle.stage_reasons.proofs.Known.{for_then_some}
use Rattle.stage_reasons.proofs.reason.blocked_for.Goals as goal

pub is_existential_free-requires : goal.is_existential_free-requires
is_existential_free-requires c = c.requires.rule.rule

pub blocked_for_disjunct-own-requires : goal.blocked_for_disjunct-own-requires
blocked_for_disjunct-own-requires c = (c.requires, sym c.is_existential_free.ensures ∙ c.if-is_existential_free.true)

pub blocked_outside-requires : goal.blocked_outside-requires
blocked_outside-requires c = let p = c.requires in (p.rule, p.ordered, p.testing c.args.whole)

pub returns : goal.returns
returns c =
    let a = c.args in
    rw (c.then_some.ensures)
    (for_then_some _ c.blocked_outside.result a.whole
    (λ e. frontier_blocked a.form.now a.i (rows 10 a.left.terms a.terms.now) a.trigger a.whole (sym c.blocked_outside.ensures ∙ e) c.requires.frontier_is))

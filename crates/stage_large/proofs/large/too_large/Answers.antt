-- `stage_large::large::too_large` meets its contract. The loop's invariant: the rules that are left decide, the first of them
-- is blockable, and the sizes were found. A rule that is passed over has no large trigger. Assumes nothing.
use mathlib.Core.Path.{refl, sym, ap, ◌∙◌, subst}
use mathlib.Core.Bool.{true}
use mathlib.Core.List.{[]}
use Prim.Native.Nat.{◌<◌}
use native.Mathlib.Omega.{arith}
use lib.ListN.{length}
use Rattle.form.specs.Places.{rules_of, rule_of}
use Rattle.form.proofs.Lists.{any_found, any_passed, any_end}
use Rattle.stage_large.specs.Large.{Measured}
use Rattle.stage_large.specs.Stage.{tables}
use Rattle.stage_large.proofs.Sizes.{large_rule, too_large_at_rules, given_searchable, given_apart, large_rule_is, no_large}
use Rattle.stage_large.proofs.Places.{measured_none}
use Rattle.stage_large.proofs.Bounds.{most_bounding, bounded_not_large}
use Rattle.stage_large.proofs.Oversize.{given_large}
use Rattle.stage_large.proofs.Question.{next_blockable, next_decides}
use Rattle.stage_large.proofs.large.too_large.Goals.{then-can_be_large+else-any_large, else-can_be_large}
use Rattle.stage_large.proofs.large.too_large.Goals as goal

pub rule_count-rules-requires : goal.rule_count-rules-requires
rule_count-rules-requires c = c.requires.0.tabled.held

pub next_in_question-i-requires : goal.next_in_question-i-requires
next_in_question-i-requires c =
    (c.requires.0.tabled.held, omega arith, c.requires.0.indexed, c.requires.0.tabled.room)

pub returns-then-i-rules : goal.returns-then-i-rules
returns-then-i-rules c =
    let a = c.args in
    let t = tables a.terms.now a.counts.terms a.facts.now a.counts.facts in
    sym
    (too_large_at_rules a.form.now t
    ∙ next_decides c.next_in_question-i.ensures a.terms.now c.requires.0.tabled c.requires.1
    ∙ any_end (large_rule t) (rules_of a.form.now) c.next_in_question-i.result (omega (arith, c.rule_count-rules.ensures, c.if-i-rules.true)))

pub greatest-most-requires : goal.greatest-most-requires
greatest-most-requires c = c.requires.0.tabled.ordered

pub loop-i-init : goal.loop-i-init
loop-i-init c =
    let a = c.args in
    let next = c.next_in_question-i.ensures in
    let rules = c.rule_count-rules.ensures in (
      omega (arith, next.within, rules),
      rules,
      too_large_at_rules a.form.now (tables a.terms.now a.counts.terms a.facts.now a.counts.facts) ∙ next_decides next a.terms.now c.requires.0.tabled c.requires.1,
      next_blockable next,
      measured_none a.terms.now 512,
      refl,
    )

pub can_be_large-requires : goal.can_be_large-requires
can_be_large-requires c =
    (c.requires.0.tabled.held, omega arith, (most_bounding c.args.terms.now c.args.counts.terms c.greatest-most.ensures).0)

pub body-body-requires : goal.body-body-requires
body-body-requires c =
    (c.requires.0.tabled.held, omega arith)

pub body_set-set-requires : goal.body_set-set-requires
body_set-set-requires c =
    (c.requires.0.tabled.held, omega arith)

pub slice_bounds-any_large-end : goal.slice_bounds-any_large-end
slice_bounds-any_large-end c = sym c.loop-i.invariant.5

pub any_large-requires : goal.any_large-requires
any_large-requires c =
    let a = c.args in
    let h : c.loop-i.i < length (rules_of a.form.now) = omega (arith, c.loop-i.invariant.1, c.loop-i-test.true) in
    record {
      searchable = given_searchable a.form.now a.terms.now a.counts.terms a.facts.now a.counts.facts c.requires.0.tabled c.loop-i.i h c.body-body.result c.body-body.ensures;
      ordered = c.requires.0.tabled.ordered;
      few = c.requires.0.tabled.few;
      indexed = c.requires.0.indexed;
      apart = given_apart a.form.now a.terms.now a.counts.terms a.facts.now a.counts.facts c.requires.0.tabled c.loop-i.i h c.body-body.result c.body-body.ensures
          c.requires.1.once a.counts.old;
      bounding = most_bounding a.terms.now a.counts.terms c.greatest-most.ensures;
      measured = c.loop-i.invariant.4;
    }

pub returns-then-any_large : goal.returns-then-any_large
unfolding rule_of
returns-then-any_large c =
    let a = c.args in
    let t = tables a.terms.now a.counts.terms a.facts.now a.counts.facts in
    let h : c.loop-i.i < length (rules_of a.form.now) = omega (arith, c.loop-i.invariant.1, c.loop-i-test.true) in
    let k = c.loop-i.invariant.3 h in
    sym
    (c.loop-i.invariant.2
    ∙ any_found (large_rule t) (rules_of a.form.now) c.loop-i.i (record { body = []; head = [] }) h
    (large_rule_is t (rule_of a.form.now c.loop-i.i) k
    (sym (given_large a.form.now a.terms.now a.counts.terms a.facts.now a.counts.facts a.counts.old a.counts.depth c.requires.0.tabled c.requires.1 c.loop-i.i h c.body-body.result c.body_set-set.result c.body-body.ensures
    c.body_set-set.ensures k)
    ∙ sym c.any_large.ensures.0
    ∙ c.if-any_large.true)))

pub next_in_question-i-requires-in-loop-i : goal.next_in_question-i-requires-in-loop-i
next_in_question-i-requires-in-loop-i c =
    (c.requires.0.tabled.held, omega arith, c.requires.0.indexed, c.requires.0.tabled.room)

pub loop-i-smaller : goal.loop-i-smaller
loop-i-smaller c = omega (arith, c.next_in_question-i-in-loop-i.ensures.onward)

pub loop-i-preserved : goal.loop-i-preserved
unfolding rule_of
loop-i-preserved c =
    let a = c.args in
    let t = tables a.terms.now a.counts.terms a.facts.now a.counts.facts in
    let h : c.loop-i.i < length (rules_of a.form.now) = omega arith in
    let next = c.next_in_question-i-in-loop-i.ensures in
    let passed = any_passed (large_rule t) (rules_of a.form.now) c.loop-i.i (record { body = []; head = [] }) h in
    let behind = next_decides next a.terms.now c.requires.0.tabled c.requires.1 in
    elim c.if-can_be_large.branch [
      | then-can_be_large+else-any_large w ↦ (
        omega (arith, next.within, c.loop-i.invariant.1),
        c.loop-i.invariant.1,
        c.loop-i.invariant.2
            ∙ passed
            (no_large t (rule_of a.form.now c.loop-i.i)
            (sym (given_large a.form.now a.terms.now a.counts.terms a.facts.now a.counts.facts a.counts.old a.counts.depth c.requires.0.tabled c.requires.1 c.loop-i.i h w.body-body.result w.body_set-set.result
            w.body-body.ensures w.body_set-set.ensures (c.loop-i.invariant.3 h))
            ∙ sym w.any_large.ensures.0
            ∙ w.if-any_large.false))
            ∙ behind,
        next_blockable next,
        subst (Measured a.terms.now) (sym w.sizes-is) w.any_large.ensures.1,
        ap length w.sizes-is ∙ w.any_large.auto.sizes ∙ c.loop-i.invariant.5,
      )
      | else-can_be_large w ↦ (
        omega (arith, next.within, c.loop-i.invariant.1),
        c.loop-i.invariant.1,
        c.loop-i.invariant.2
            ∙ passed
            (bounded_not_large a.form.now a.terms.now a.counts.terms a.facts.now a.counts.facts c.requires.0.tabled c.greatest-most.result (most_bounding a.terms.now a.counts.terms c.greatest-most.ensures)
            (rule_of a.form.now c.loop-i.i) (sym c.can_be_large.ensures ∙ w.if-can_be_large.false))
            ∙ behind,
        next_blockable next,
        subst (Measured a.terms.now) (sym w.sizes-is) c.loop-i.invariant.4,
        ap length w.sizes-is ∙ c.loop-i.invariant.5,
      )
    ]

pub returns : goal.returns
returns c =
    let a = c.args in
    sym (c.loop-i.invariant.2 ∙ any_end (large_rule (tables a.terms.now a.counts.terms a.facts.now a.counts.facts)) (rules_of a.form.now) c.loop-i.i (omega arith))

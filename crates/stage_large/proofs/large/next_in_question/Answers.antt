-- `stage_large::large::next_in_question` meets its contract. The loop's invariant: no rule that was passed over is in question.
-- Assumes nothing.
use mathlib.Core.Path.{◌≡◌, sym, ◌∙◌}
use mathlib.Core.Bool.{false}
use Prim.Native.Nat.{ℕ}
use native.Mathlib.Omega.{arith}
use Rattle.form.specs.Places.{rule_of}
use Rattle.stage_large.specs.Large.{in_question}
use Rattle.stage_large.proofs.Question.{one_more}
use Rattle.stage_large.proofs.large.next_in_question.Goals as goal

pub rule_count-rules-requires : goal.rule_count-rules-requires
rule_count-rules-requires c = c.requires.0

pub loop-i-init : goal.loop-i-init
loop-i-init c = (omega arith, omega (arith, c.requires.1, c.rule_count-rules.ensures), c.rule_count-rules.ensures, λ k a b. absurd (omega arith))

pub in_question-requires : goal.in_question-requires
in_question-requires c =
    (c.requires.0, omega (arith, c.loop-i.invariant.2), c.requires.2, c.requires.3)

pub returns-then-in_question : goal.returns-then-in_question
returns-then-in_question c =
    record {
      onward = c.loop-i.invariant.0;
      within = omega (arith, c.loop-i.invariant.1, c.loop-i.invariant.2);
      passed = c.loop-i.invariant.3;
      found = λ h. sym c.in_question.ensures ∙ c.if-in_question.true;
    }

pub loop-i-preserved : goal.loop-i-preserved
loop-i-preserved c =
    let a = c.args in (
      omega (arith, c.loop-i.invariant.0),
      omega arith,
      c.loop-i.invariant.2,
      one_more (λ (k : ℕ). in_question (rule_of a.form.now k) a.facts.now a.counts ≡ false) a.from c.loop-i.i c.loop-i.invariant.3 (sym c.in_question.ensures ∙ c.if-in_question.false),
    )

pub returns : goal.returns
returns c =
    let rules = c.loop-i.invariant.2 in
    record {
      onward = omega (arith, c.requires.1, rules);
      within = omega (arith, rules);
      passed = λ k a b. c.loop-i.invariant.3 k a (omega (arith, b, c.loop-i-test.false));
      found = λ h. absurd (omega (arith, h, rules));
    }

-- `reader::many_rules` meets its contract: between turns the loop is as `Rows` says. Assumes nothing.
use mathlib.Core.Path.{refl}
use native.Mathlib.Omega.{arith}
use Rattle.parsing.specs.Step.{none}
use Rattle.parsing.proofs.Parsing.{handed_on}
use Rattle.parsing.proofs.Many.{rows_begun, rows_lent, rows_more, rows_failed, rows_finished}
use Rattle.reader.proofs.many_rules.Goals as goal

pub loop-k-init : goal.loop-k-init
loop-k-init c = rows_begun c.requires.n_le_rule_limit.1 tt

pub rule-requires-clause-row_value : goal.rule-requires-clause-row_value
rule-requires-clause-row_value c = rows_lent c.loop-k.invariant c.requires.n_le_rule_limit.1 (omega arith)

pub loop-k-preserved : goal.loop-k-preserved
loop-k-preserved c =
    rows_more c.loop-k.invariant c.requires.n_le_rule_limit.1 _ c.rule.auto.row none _ tt (omega arith) (omega arith) c.in_ok-at.ensures
    (λ r e rs m. tt)

pub returns-in_err-at : goal.returns-in_err-at
returns-in_err-at c =
    rw (handed_on c.from_residual.ensures.1) (rows_failed c.loop-k.invariant c.requires.n_le_rule_limit.1 none _ _ _ _ _ (omega arith) c.in_err-at.ensures)

pub returns : goal.returns
returns c = rows_finished c.loop-k.invariant c.requires.n_le_rule_limit.1 _ _ (λ rs m. refl) (omega arith)

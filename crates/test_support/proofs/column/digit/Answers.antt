-- `test_support::column::digit` meets its contract, case by case. Assumes nothing.
use mathlib.Core.Path.{sym, ◌∙◌}
use native.Mathlib.Omega.{arith}
use Rattle.test_support.proofs.Columns.{digit_missing, digit_below, digit_above, digit_within}
use Rattle.test_support.proofs.column.digit.Goals as goal

pub returns-then-line-i : goal.returns-then-line-i
returns-then-line-i c = (sym (digit_missing c.args.line.now c.args.i (omega arith)), omega arith)

pub returns-then-b-lt48 : goal.returns-then-b-lt48
returns-then-b-lt48 c = (sym (digit_below c.args.line.now c.args.i (omega arith)), omega arith)

pub returns-then-b-gt57 : goal.returns-then-b-gt57
returns-then-b-gt57 c = (sym (digit_above c.args.line.now c.args.i (omega arith)), omega arith)

pub returns : goal.returns
returns c = (c.from.ensures ∙ sym (digit_within c.args.line.now c.args.i (omega arith) (omega arith)), omega (arith, c.from.ensures))

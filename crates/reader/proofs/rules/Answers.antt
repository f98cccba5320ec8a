-- `reader::rules` meets its contract: the count, and then the rules, into one row. Assumes nothing.
use mathlib.Core.Path.{sym}
use Prim.Native.Nat.{◌≤◌}
use native.Mathlib.Omega.{arith}
use lib.ListN.{length-set}
use Rattle.parsing.specs.Step.{parsed_rules}
use Rattle.parsing.proofs.Lists.{tail_zeros, zeros_length}
use Rattle.parsing.proofs.Parsing.{handed_on, byte_good, refuses}
use Rattle.reader.proofs.RuleRow.{rules_filled}
use Rattle.reader.proofs.rules.Goals as goal
use Rattle.reader.proofs.rules.Goals.{In_ok-n}

few : (c : In_ok-n) → c.in_ok-n.n.value ≤ 64
few c = (byte_good _ _ _ _ _ _ _ (sym c.in_ok-n.ensures)).most

pub returns-in_err-n : goal.returns-in_err-n
unfolding parsed_rules
returns-in_err-n c = rw (handed_on c.from_residual.ensures.1) (refuses _ _ _ _ _ _ (sym c.in_err-n.ensures))

pub bounds-row-0 : goal.bounds-row-0
bounds-row-0 c = omega (arith, zeros_length 6785 _ c.requires.row_value)

pub slice_bounds-many_rules-count : goal.slice_bounds-many_rules-count
slice_bounds-many_rules-count c = simp length-set (omega (arith, zeros_length 6785 _ c.requires.row_value))

pub slice_bounds-many_rules-start : goal.slice_bounds-many_rules-start
slice_bounds-many_rules-start c = simp length-set (omega (arith, zeros_length 6785 _ c.requires.row_value))

pub many_rules-requires-clause-n_le_rule_limit : goal.many_rules-requires-clause-n_le_rule_limit
many_rules-requires-clause-n_le_rule_limit c =
    (rw c.from-2.ensures (few (goal.at.many_rules-requires-clause-n_le_rule_limit c).In_ok-n), tail_zeros 6784 _ _ c.requires.row_value)

pub returns : goal.returns
returns c =
    rw c.from.ensures (rules_filled _ _ _ _ _ _ _ _ (sym c.in_ok-n.ensures) c.requires.row_value (rw c.from-2.ensures at c.many_rules.ensures))

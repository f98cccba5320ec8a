-- `reader::rule_set` meets its contract: version and count of predicates, and then what follows them. Assumes nothing.
use mathlib.Core.Path.{sym}
use native.Mathlib.Omega.{arith}
use Rattle.laws.proofs.WellFormed.{most_few}
use Rattle.parsing.proofs.Parsing.{handed_on, refuses, continues}
use Rattle.parsing.proofs.Numbers.{number_good}
use Rattle.reader.proofs.FormRow.{rule_set_parts}
use Rattle.reader.proofs.rule_set.Goals as goal

pub returns-in_err-version : goal.returns-in_err-version
returns-in_err-version c = rw (rule_set_parts _, handed_on c.from_residual.ensures.1) (refuses _ _ _ _ _ _ (sym c.in_err-version.ensures))

pub returns-in_err-n : goal.returns-in_err-n
returns-in_err-n c =
    rw (rule_set_parts _, handed_on c.from_residual-in_err-n.ensures.1)
    (continues _ _ _ _ _ _ _ _ (sym c.in_ok-version.ensures) (refuses _ _ _ _ _ _ (rw c.most_predicates-most.ensures at (sym c.in_err-n.ensures))))

pub after_count-requires : goal.after_count-requires
after_count-requires c =
    let h = number_good _ _ _ _ _ _ _ _ (rw c.most_predicates-most.ensures at (sym c.in_ok-n.ensures)) in
    (omega (arith, h.least), omega (arith, h.most, most_few c.in_ok-version.version.value), c.requires)

pub returns : goal.returns
returns c =
    rw (rule_set_parts _)
    (continues _ _ _ _ _ _ _ _ (sym c.in_ok-version.ensures)
    (continues _ _ _ _ _ _ _ _ (rw c.most_predicates-most.ensures at (sym c.in_ok-n.ensures)) (rw c.from.ensures at c.after_count.ensures)))

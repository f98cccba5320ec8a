-- `reader::many_disjuncts` meets its contract: between turns the loop is as `Rows` says. Assumes nothing.
use mathlib.Core.Path.{sym, ◌∙◌}
use native.Mathlib.Omega.{arith}
use Rattle.parsing.specs.Step.{atoms_set}
use Rattle.parsing.proofs.Parsing.{handed_on}
use Rattle.parsing.proofs.Many.{rows_begun, rows_lent, rows_more, rows_failed, rows_finished}
use Rattle.parsing.proofs.Heads.{keeps_none, keeps_more, fault_is}
use Rattle.reader.proofs.many_disjuncts.Goals as goal

pub loop-k-init : goal.loop-k-init
loop-k-init c = rows_begun c.requires.n_bound.1 (keeps_none _ _ c.none-heads.ensures)

pub atoms-requires-clause-row_value : goal.atoms-requires-clause-row_value
atoms-requires-clause-row_value c = rows_lent c.loop-k.invariant c.requires.n_bound.1 (omega arith)

pub loop-k-preserved : goal.loop-k-preserved
loop-k-preserved c =
    rows_more c.loop-k.invariant c.requires.n_bound.1 _ c.atoms.auto.row atoms_set _ _ (omega arith) (omega arith) c.in_ok-set.ensures
    (keeps_more _ _ _ _ c.ranges.body.fits c.with-heads.ensures)

pub returns-in_err-set : goal.returns-in_err-set
returns-in_err-set c b e =
    rw (handed_on c.from_residual.ensures.1) (rows_failed c.loop-k.invariant c.requires.n_bound.1 atoms_set _ _ _ _ _ (omega arith) c.in_err-set.ensures)

pub returns : goal.returns
returns c b e =
    rows_finished c.loop-k.invariant c.requires.n_bound.1 _ _ (λ ds m. fault_is b ds _ _ _ (m b e) ∙ sym c.refusal.ensures) (omega arith)

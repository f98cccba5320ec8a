-- `reader::many_atoms` meets its contract: between turns the loop is as `Rows` says. Assumes nothing.
use mathlib.Core.Path.{refl}
use native.Mathlib.Omega.{arith}
use Rattle.model.specs.Rules.{variables_of}
use Rattle.model.specs.Lists.{collect}
use Rattle.form_variables.specs.Sets.{set_of}
use Rattle.parsing.proofs.Parsing.{handed_on}
use Rattle.parsing.proofs.Many.{rows_begun, rows_lent, rows_more, rows_failed, rows_finished}
use Rattle.reader.specs.Parts.{grown_by_atom}
use Rattle.reader.proofs.Kept.{kept_afresh}
use Rattle.reader.proofs.many_atoms.Goals as goal

pub loop-k-init : goal.loop-k-init
unfolding set_of variables_of collect
loop-k-init c = rows_begun c.requires.n_bound.1 refl

pub atom-requires-clause-row_value : goal.atom-requires-clause-row_value
atom-requires-clause-row_value c = rows_lent c.loop-k.invariant c.requires.n_bound.1 (omega arith)

pub loop-k-preserved : goal.loop-k-preserved
loop-k-preserved c =
    rows_more c.loop-k.invariant c.requires.n_bound.1 _ c.atom.auto.row (grown_by_atom c.loop-k.set) _ _ (omega arith) (omega arith) c.in_ok-grown.ensures
    (kept_afresh c.loop-k.set _)

pub returns-in_err-grown : goal.returns-in_err-grown
returns-in_err-grown c =
    rw (handed_on c.from_residual.ensures.1)
    (rows_failed c.loop-k.invariant c.requires.n_bound.1 (grown_by_atom c.loop-k.set) _ _ _ _ _ (omega arith) c.in_err-grown.ensures)

pub returns : goal.returns
returns c = rows_finished c.loop-k.invariant c.requires.n_bound.1 _ _ (λ as' e. e) (omega arith)

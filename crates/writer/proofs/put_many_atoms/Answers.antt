-- `writer::put_many_atoms` meets its contract: between turns the loop is as `Turns` says. Assumes nothing.
use mathlib.Core.Path.{refl}
use native.Mathlib.Omega.{arith}
use Rattle.model.specs.Lists.{collect}
use Rattle.model.specs.Rules.{variables_of}
use Rattle.form_variables.specs.Sets.{set_of}
use Rattle.parsing.specs.Step.{atom_set}
use Rattle.parsing.proofs.Heads.{atoms_set_more}
use Rattle.parsing.proofs.Parsing.{handed_on}
use Rattle.writer.proofs.Turns.{turns_begun, turns_more, turns_refused, turns_ended}
use Rattle.writer.proofs.put_many_atoms.Goals as goal

pub loop-k-init : goal.loop-k-init
unfolding set_of variables_of collect
loop-k-init c = turns_begun refl

pub loop-k-preserved : goal.loop-k-preserved
loop-k-preserved c =
    let e = c.atom_place.ensures in
    let a = c.in_ok-atom.ensures in
    turns_more c.loop-k.invariant atom_set _ _ (omega arith) (omega arith) _ _ a.written a.end c.put_atom.auto.out (atoms_set_more _ _)

pub returns-in_err-atom-clause-written : goal.returns-in_err-atom-clause-written
returns-in_err-atom-clause-written c =
    let e = c.atom_place.ensures in
    rw (handed_on c.from_residual.ensures.1) (turns_refused c.loop-k.invariant atom_set _ _ (omega arith) (omega arith) _ _ _ c.in_err-atom.ensures.written)

pub returns-clause-written : goal.returns-clause-written
returns-clause-written c = turns_ended c.loop-k.invariant _ _ (λ as' e. e) (omega arith)

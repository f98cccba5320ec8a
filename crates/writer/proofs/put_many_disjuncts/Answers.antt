-- `writer::put_many_disjuncts` meets its contract: between turns the loop is as `Turns` says. Assumes nothing.
use mathlib.Core.Path.{sym, ◌∙◌}
use native.Mathlib.Omega.{arith}
use Rattle.parsing.specs.Step.{atoms_set}
use Rattle.parsing.proofs.Heads.{keeps_none, keeps_more, fault_is}
use Rattle.parsing.proofs.Parsing.{handed_on}
use Rattle.writer.proofs.Turns.{turns_begun, turns_more, turns_refused, turns_ended}
use Rattle.writer.proofs.put_many_disjuncts.Goals as goal

pub loop-k-init : goal.loop-k-init
loop-k-init c = turns_begun (keeps_none _ _ c.none-heads.ensures)

pub loop-k-preserved : goal.loop-k-preserved
loop-k-preserved c =
    let e = c.group_place.ensures in
    let d = c.in_ok-disjunct.ensures in
    turns_more c.loop-k.invariant atoms_set _ _ (omega arith) (omega arith) _ _ d.written d.end c.put_atoms.auto.out
    (keeps_more _ _ _ _ c.ranges.body.fits c.with-heads.ensures)

pub returns-in_err-disjunct-clause-written : goal.returns-in_err-disjunct-clause-written
returns-in_err-disjunct-clause-written c b x =
    let e = c.group_place.ensures in
    rw (handed_on c.from_residual.ensures.1) (turns_refused c.loop-k.invariant atoms_set _ _ (omega arith) (omega arith) _ _ _ c.in_err-disjunct.ensures.written)

pub returns-clause-written : goal.returns-clause-written
returns-clause-written c b x = turns_ended c.loop-k.invariant _ _ (λ ds m. fault_is b ds _ _ _ (m b x) ∙ sym c.refusal.ensures) (omega arith)

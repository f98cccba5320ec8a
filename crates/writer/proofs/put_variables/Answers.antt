-- `writer::put_variables` meets its contract: between turns the loop is as `Writing` says. Assumes nothing.
use mathlib.Core.Path.{refl, ◌∙◌}
use Prim.Native.Nat.{◌≤◌}
use native.Mathlib.Omega.{arith}
use Rattle.model.specs.Format.{variable}
use Rattle.form_variables.specs.Sets.{set_of}
use Rattle.form_variables.proofs.Sets.{set_of_more}
use Rattle.parsing.proofs.Parsing.{handed_on}
use Rattle.writer.specs.Writes.{value}
use Rattle.writer.proofs.Spelling.{numbers_next, numbers_none, numbers_whole}
use Rattle.writer.proofs.Writing.{writing_begun, writing_more, writing_refused, writing_ended}
use Rattle.writer.proofs.put_variables.Goals as goal

pub loop-k-init : goal.loop-k-init
unfolding set_of
loop-k-init c = (omega arith, refl, writing_begun _ _ _ _ _ _ _ _ (numbers_whole _ _ _) refl)

pub loop-k-preserved : goal.loop-k-preserved
unfolding variable
loop-k-preserved c =
    let h = c.loop-k.invariant in
    let (same, small, next) = c.in_ok-variable.ensures.taken in
    let seven : c.in_ok-variable.variable.value ≤ 7 = omega arith in
    (omega arith, c.put.auto.out ∙ h.1, writing_more _ _ _ _ _ _ _ _ _ _ _ h.2 value _ _ _ _ _ (omega arith) (numbers_next _ _ _ _ _ (omega arith) c.number.ensures) c.in_ok-variable.ensures.written (λ v f vs m. rw f (set_of_more vs _ _ seven m)))

pub returns-in_err-variable-clause-written : goal.returns-in_err-variable-clause-written
unfolding variable
returns-in_err-variable-clause-written c =
    rw (handed_on c.from_residual.ensures.1)
    (writing_refused _ _ _ _ _ _ _ _ _ _ _ c.loop-k.invariant.2 value _ _ _ _ _ _ (omega arith) (numbers_next _ _ _ _ _ (omega arith) c.number.ensures) c.in_err-variable.ensures.written)

pub returns-clause-written : goal.returns-clause-written
returns-clause-written c = writing_ended _ _ _ _ _ _ _ _ _ _ _ c.loop-k.invariant.2 _ _ (λ vs e. e) (omega arith) (numbers_none _ _ _ _ (omega arith))

-- `writer::put_arities` meets its contract: between turns the loop is as `Writing` says. Assumes nothing.
use mathlib.Core.Path.{◌≡◌, refl, ap, ◌∙◌}
use Prim.Native.Nat.{ℕ, ◌+◌}
use native.Mathlib.Omega.{arith}
use lib.ListN.{get_or}
use Rattle.model.specs.Form.{arities_place}
use Rattle.parsing.proofs.Parsing.{handed_on}
use Rattle.writer.specs.Writes.{value}
use Rattle.writer.proofs.Spelling.{numbers_next, numbers_none, numbers_whole, numbers_small, small_more}
use Rattle.writer.proofs.Writing.{writing_begun, writing_more, writing_refused, writing_ended}
use Rattle.writer.proofs.put_arities.Goals.{After-number-arity}
use Rattle.writer.proofs.put_arities.Goals as goal

pub loop-k-init : goal.loop-k-init
loop-k-init c = (omega arith, refl, (λ p l. absurd (omega arith)), writing_begun _ _ _ _ _ _ tt _ (numbers_whole _ _ _) tt)

-- the arity that a turn writes
here : (c : After-number-arity) → c.number-arity.result ≡ get_or c.args.form.now (arities_place + c.loop-k.k) 0
here c = c.number-arity.ensures ∙ ap (λ (x : ℕ). get_or c.args.form.now x 0) c.arity_place.ensures

pub put-requires : goal.put-requires
put-requires c = let h = c.loop-k.invariant in omega arith

pub loop-k-preserved : goal.loop-k-preserved
loop-k-preserved c =
    let h = c.loop-k.invariant in
    let (same, small, next) = c.in_ok-end.ensures.taken in
    let z = here (goal.at.loop-k-preserved c).After-number-arity in
    (omega arith, c.put.auto.out ∙ h.1, small_more c.args.form.now arities_place c.loop-k.k 4 h.2 (omega arith), writing_more _ _ _ _ _ _ _ _ _ _ _ h.3 value _ _ _ _ tt (omega arith) (numbers_next _ _ _ _ _ (omega arith) z) c.in_ok-end.ensures.written (λ v f vs m. tt))

pub returns-in_err-end-clause-written : goal.returns-in_err-end-clause-written
returns-in_err-end-clause-written c =
    rw (handed_on c.from_residual.ensures.1)
    (writing_refused _ _ _ _ _ _ _ _ _ _ _ c.loop-k.invariant.3 value _ _ _ _ _ _ (omega arith) (numbers_next _ _ _ _ _ (omega arith) (here (goal.at.returns-in_err-end-clause-written c).After-number-arity)) c.in_err-end.ensures.written)

pub returns-clause-written : goal.returns-clause-written
returns-clause-written c = writing_ended _ _ _ _ _ _ _ _ _ _ _ c.loop-k.invariant.3 _ _ (λ vs e. refl) (omega arith) (numbers_none _ _ _ _ (omega arith))

pub returns-clause-taken : goal.returns-clause-taken
returns-clause-taken c = let h = c.loop-k.invariant in (omega arith, numbers_small _ _ _ 4 (λ p l. h.2 p (omega arith)))

-- `writer::put_many_rules` meets its contract: between turns the loop is as `Turns` says. Assumes nothing.
use mathlib.Core.Path.{refl}
use native.Mathlib.Omega.{arith}
use Rattle.parsing.specs.Step.{none}
use Rattle.parsing.proofs.Parsing.{handed_on}
use Rattle.writer.proofs.Turns.{turns_begun, turns_more, turns_refused, turns_ended}
use Rattle.writer.proofs.put_many_rules.Goals as goal

pub loop-k-init : goal.loop-k-init
loop-k-init c = turns_begun tt

pub put_rule-requires-clause-fits : goal.put_rule-requires-clause-fits
put_rule-requires-clause-fits c =
    let e = c.rule_place.ensures in
    let h = c.loop-k.invariant.most in
    let p = c.requires.rules_room_in_bounds in
    record { within = omega arith; room = omega arith }

pub loop-k-preserved : goal.loop-k-preserved
loop-k-preserved c =
    let e = c.rule_place.ensures in
    let r = c.in_ok-end.ensures in
    turns_more c.loop-k.invariant none _ _ (omega arith) (omega arith) _ _ r.written r.end c.put_rule.auto.out (λ r f rs m. tt)

pub returns-in_err-end-clause-written : goal.returns-in_err-end-clause-written
returns-in_err-end-clause-written c =
    let e = c.rule_place.ensures in
    rw (handed_on c.from_residual.ensures.1) (turns_refused c.loop-k.invariant none _ _ (omega arith) (omega arith) _ _ _ c.in_err-end.ensures.written)

pub returns-clause-written : goal.returns-clause-written
returns-clause-written c = turns_ended c.loop-k.invariant _ _ (λ rs m. refl) (omega arith)

pub returns-clause-end : goal.returns-clause-end
returns-clause-end c = let h = c.loop-k.invariant.most in let p = c.requires.rules_room_in_bounds in omega arith

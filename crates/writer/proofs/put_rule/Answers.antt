-- `writer::put_rule` meets its contract: body, count and disjuncts, and then the whole rule tested. Assumes nothing.
use mathlib.Core.Path.{refl}
use native.Mathlib.Omega.{arith}
use Rattle.parsing.proofs.Parsing.{handed_on}
use Rattle.writer.proofs.RuleWriting.{heads_refused, heads_sound, heads_unsound, body_refused, count_refused, rule_written}
use Rattle.writer.proofs.put_rule.Goals as goal

pub returns-in_err-body-clause-written : goal.returns-in_err-body-clause-written
returns-in_err-body-clause-written c =
    let e = c.group_place.ensures in
    rw (handed_on c.from_residual.ensures.1) (body_refused _ _ _ _ _ _ _ _ refl _ (omega arith) _ _ c.in_err-body.ensures.written)

pub returns-in_err-count-clause-written : goal.returns-in_err-count-clause-written
returns-in_err-count-clause-written c =
    let e = c.group_place.ensures in
    rw (handed_on c.from_residual-in_err-count.ensures.1)
    (count_refused _ _ _ _ _ _ _ _ c.number.ensures _ (omega arith) _ c.in_ok-body.ensures.written _ _ _ c.in_err-count.ensures.written)

pub returns-in_err-head-clause-written : goal.returns-in_err-head-clause-written
returns-in_err-head-clause-written c =
    let e = c.group_place.ensures in
    let n = c.in_ok-count.ensures in
    let head = rw c.from.ensures at c.in_err-head.ensures.written in
    rw (handed_on c.from_residual-in_err-head.ensures.1)
    (rule_written _ _ _ _ _ _ _ _ c.number.ensures _ (omega arith) _ c.in_ok-body.ensures.written _ _ _ _ n.written n.taken.0 (λ b x. heads_refused b _ _ _ _ _ _ _ _ (head b x)))

pub returns-in-Some-clause-written : goal.returns-in-Some-clause-written
returns-in-Some-clause-written c =
    let e = c.group_place.ensures in
    let n = c.in_ok-count.ensures in
    let head = rw c.from.ensures at c.in_ok-head.ensures.written in
    rule_written _ _ _ _ _ _ _ _ c.number.ensures _ (omega arith) _ c.in_ok-body.ensures.written _ _ _ _ n.written n.taken.0 (λ b x. heads_unsound b _ _ _ _ _ _ _ (head b x) _ _ c.in-Some.is)

pub returns-in-None-clause-written : goal.returns-in-None-clause-written
returns-in-None-clause-written c =
    let e = c.group_place.ensures in
    let n = c.in_ok-count.ensures in
    let head = rw c.from.ensures at c.in_ok-head.ensures.written in
    rule_written _ _ _ _ _ _ _ _ c.number.ensures _ (omega arith) _ c.in_ok-body.ensures.written _ _ _ _ n.written n.taken.0 (λ b x. heads_sound b _ _ _ _ _ _ _ (head b x) c.in-None.is)

-- `writer::put_declared` meets its contract: the count of predicates, arities and rules. Assumes nothing.
use Prim.Native.Nat.{◌≤◌}
use native.Mathlib.Omega.{arith}
use Rattle.std.proofs.lemmas.Result.{IfOk-weaker}
use Rattle.laws.proofs.Places.{length_numbers_from}
use Rattle.laws.proofs.WellFormed.{most_few}
use Rattle.parsing.proofs.Parsing.{handed_on}
use Rattle.writer.proofs.ContentWriting.{predicates_refused, arities_refused, declared_written}
use Rattle.writer.proofs.put_declared.Goals as goal

pub returns-in_err-first-clause-written : goal.returns-in_err-first-clause-written
returns-in_err-first-clause-written c =
    rw (handed_on c.from_residual.ensures.1)
    (predicates_refused _ _ _ _ c.number-count.ensures _ c.most_predicates-most.ensures _ _ _ _ c.in_err-first.ensures.written)

pub put_arities-requires : goal.put_arities-requires
put_arities-requires c =
    let p = c.in_ok-first.ensures.taken in
    let l = c.put_number.auto.out in
    let e = c.from-n.ensures in
    let m = c.most_predicates-most.ensures in
    let room = c.requires in
    let few : c.from-n.result ≤ 1024 = omega (arith, most_few c.args.version) in
    (omega arith, few)

pub returns-in_err-arities-clause-written : goal.returns-in_err-arities-clause-written
returns-in_err-arities-clause-written c =
    let listed = rw c.from-n.ensures at c.in_err-arities.ensures.written in
    rw (handed_on c.from_residual-in_err-arities.ensures.1)
    (arities_refused _ _ _ _ c.number-count.ensures _ c.most_predicates-most.ensures _ _ _ c.in_ok-first.ensures.written _ _ _ listed)

pub put_rules-requires-clause-declared : goal.put_rules-requires-clause-declared
put_rules-requires-clause-declared c =
    let p = c.in_ok-first.ensures.taken in
    let e = c.from-n.ensures in
    let m = c.most_predicates-most.ensures in
    let n = length_numbers_from c.args.form.now 6786 c.from-n.result in
    let few : c.from-n.result ≤ 1024 = omega (arith, most_few c.args.version) in
    record { arities = record { some = omega arith; few = omega arith; small = c.in_ok-arities.ensures.taken.1 }; few = omega arith }

pub put_rules-requires-clause-rules_room_in_bounds : goal.put_rules-requires-clause-rules_room_in_bounds
put_rules-requires-clause-rules_room_in_bounds c =
    let p = c.in_ok-first.ensures.taken in
    let k = c.in_ok-arities.ensures.taken.0 in
    let e = c.from-n.ensures in
    let m = c.most_predicates-most.ensures in
    let l = c.put_number.auto.out in
    let o = c.put_arities.auto.out in
    let room = c.requires in
    let few : c.from-n.result ≤ 1024 = omega (arith, most_few c.args.version) in
    omega arith

pub returns-clause-written : goal.returns-clause-written
returns-clause-written c =
    let listed = rw c.from-n.ensures at c.in_ok-arities.ensures.written in
    let ruled = rw c.from-n.ensures at c.put_rules.ensures.written in
    declared_written _ _ _ _ c.number-count.ensures _ c.most_predicates-most.ensures _ _ _ c.in_ok-first.ensures.written _ _ _ _ listed ruled

pub returns-clause-end : goal.returns-clause-end
returns-clause-end c =
    let p = c.in_ok-first.ensures.taken in
    let k = c.in_ok-arities.ensures.taken.0 in
    let e = c.from-n.ensures in
    let m = c.most_predicates-most.ensures in
    let few : c.from-n.result ≤ 1024 = omega (arith, most_few c.args.version) in
    IfOk-weaker c.put_rules.result _ _ (λ x f. omega arith) c.put_rules.ensures.end

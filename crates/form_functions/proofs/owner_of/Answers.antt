-- `form_functions::owner_of` meets its contract. Assumes nothing.
use Prim.Native.Nat.{◌<◌}
use native.Mathlib.Omega.{arith}
use Rattle.form_functions.specs.Functions.{places}
use Rattle.form_functions.proofs.Numbering.{owner_place, first_before, some_places, next_before}
use Rattle.form.proofs.Places.{few_rules}
use Rattle.form_functions.proofs.owner_of.Goals as goal

pub rule_count-requires : goal.rule_count-requires
rule_count-requires c = c.requires.0

pub overflow_mul-rule_count : goal.overflow_mul-rule_count
overflow_mul-rule_count c =
    let h = few_rules c.args.form.now c.requires.0 in
    let n = c.rule_count.ensures in
    omega arith

pub place_of-j-requires : goal.place_of-j-requires
place_of-j-requires c =
    let f = c.args.form.now in
    let n = c.rule_count.ensures in
    let some : 0 < places f = some_places f c.args.f c.requires.2 c.requires.3 in
    let r = c.requires.1.room in
    let a = c.requires.2 in
    (omega arith, omega arith, omega (arith, c.requires.1.each 0 some, first_before f))

pub returns : goal.returns
returns c =
    let f = c.args.form.now in
    let j = c.place_of-j.result in
    let n = c.rule_count.ensures in
    let e = c.place_of-j.ensures in
    owner_place f c.requires.0 c.args.f j (omega arith) (omega (arith, c.requires.1.each j (omega arith)))
    (next_before f c.args.before.now c.requires.1 c.args.f j (omega arith) (λ l. e.2 (omega arith)) c.requires.3)

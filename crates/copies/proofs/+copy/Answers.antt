-- `copies::copy` meets its contract. The term number falls from a term to its arguments. The loop's invariant: the arguments passed are copied,
-- and the row has their numbers. Assumes nothing.
use mathlib.Core.Path.{◌≡◌, refl, ◌∙◌}
use Prim.Native.Nat.{◌-◌, ◌<◌}
use native.Mathlib.Numerals.{add-one}
use native.Mathlib.Omega.{arith}
use Rattle.tables.specs.Terms.{copied_arity}
use Rattle.terms.proofs.Kept.{term_appended}
use Rattle.copies.proofs.Copies.{copied_arity_le, copied_none, copied_more, copied_room, copied_number, copied_length, copied_all, copied_last}
use Rattle.facts.proofs.Rows.{room_same}
use Rattle.copies.proofs.+copy.Goals as goal

pub loop-j-init : goal.loop-j-init
loop-j-init t c =
    let a = c.args in
    let b = copied_arity_le a.terms.now a.i in
    let e = c.copied_arity-arity.ensures in
    (e, omega (arith, e, c.requires.0.arity a.i c.requires.1), refl, rw (c.function.ensures, e) (copied_none a.count a.terms.now a.i a.n a.table.now), c.requires.2.kept)

pub argument-requires : goal.argument-requires
argument-requires t c =
    let e = c.loop-j.invariant.0 in
    let b = copied_arity_le c.args.terms.now c.args.i in
    (c.requires.0, c.requires.1, omega arith)

pub copy-m-requires : goal.copy-m-requires
copy-m-requires t c =
    let e = c.loop-j.invariant.0 in
    let q = c.argument.ensures in
    let m : c.args.i ≡ t = c.decreases in
    let b = copied_arity_le c.args.terms.now c.args.i in
    let k : c.loop-j.j < copied_arity c.args.terms.now c.args.i = omega arith in
    let below = c.requires.0.before c.args.i c.loop-j.j c.requires.1 (omega arith) in
    let room = copied_room c.requires.0 c.args.i c.requires.1 c.loop-j.invariant.3 (room_same c.loop-j.table c.loop-j.invariant.2 c.requires.2.room) k in
    (omega arith, (c.requires.0, omega arith, rw q (record { kept = c.loop-j.invariant.4; room = room })))

pub overflow_sub-row : goal.overflow_sub-row
overflow_sub-row t c =
    let e = c.loop-j.invariant.0 in
    let k : c.loop-j.j < copied_arity c.args.terms.now c.args.i = omega arith in
    (copied_number c.requires.0 c.args.i c.requires.1 c.loop-j.invariant.3 c.requires.2.room k c.copy-m.result c.copy-m.new.table (rw c.argument.ensures at c.copy-m.ensures.rows)).0

pub loop-j-preserved : goal.loop-j-preserved
loop-j-preserved t c =
    let e = c.loop-j.invariant.0 in
    let k : c.loop-j.j < copied_arity c.args.terms.now c.args.i = omega arith in (
      e,
      c.loop-j.invariant.1,
      c.copy-m.auto.table ∙ c.loop-j.invariant.2,
      copied_more c.requires.0 c.args.i c.requires.1 c.loop-j.invariant.3 c.copy-m.new.table c.copy-m.result k (rw c.argument.ensures at c.copy-m.ensures.rows),
      c.copy-m.ensures.kept,
    )

pub append_term-requires : goal.append_term-requires
append_term-requires t c =
    let e = c.loop-j.invariant.0 in
    let w = c.loop-j.invariant.3.within in
    let k : c.loop-j.j ≡ copied_arity c.args.terms.now c.args.i = omega arith in
    let (fits, few) = copied_last c.requires.0 c.args.i c.requires.1 c.loop-j.invariant.3 (room_same c.loop-j.table c.loop-j.invariant.2 c.requires.2.room) k in
    (c.loop-j.invariant.4, fits, few, copied_length c.requires.0 c.args.i c.requires.1 c.loop-j.invariant.3)

pub returns : goal.returns
returns t c =
    let e = c.loop-j.invariant.0 in
    let w = c.loop-j.invariant.3.within in
    let k : c.loop-j.j ≡ copied_arity c.args.terms.now c.args.i = omega arith in
    let (fits, few) = copied_last c.requires.0 c.args.i c.requires.1 c.loop-j.invariant.3 (room_same c.loop-j.table c.loop-j.invariant.2 c.requires.2.room) k in
    let d = term_appended c.loop-j.invariant.4 fits c.loop-j.row (copied_length c.requires.0 c.args.i c.requires.1 c.loop-j.invariant.3) few c.append_term.ensures in
    rw (add-one c.loop-j.m) (record { rows = d.0 ∙ copied_all c.requires.0 c.args.i c.requires.1 c.loop-j.invariant.3 k; kept = d.1 })

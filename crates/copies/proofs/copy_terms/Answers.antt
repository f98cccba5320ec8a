-- `copies::copy_terms` meets its contract. The loop's invariant: the terms of the variables passed are copied, and their numbers are known.
-- Assumes nothing.
use Rattle.tables.proofs.Tables.{rows_length}
use Rattle.facts.specs.Room.{Room}
use Rattle.facts.proofs.Rows.{room_same}
use Rattle.rows.specs.Copies.{Copies}
use Rattle.copies.proofs.Chosen.{chosen_none, chosen_all, chosen_held, chosen_room, chosen_each, chosen_start, chosen_done, chosen}
use mathlib.Core.Path.{◌≡◌, refl, sym, ap, ◌∙◌, subst}
use mathlib.Core.List.{List}
use Prim.Native.Nat.{ℕ, ◌-◌, ◌<◌}
use native.Mathlib.Omega.{arith}
use lib.ListN.{length, get_or}
use Rattle.tables.specs.Rows.{rows}
use Rattle.facts.specs.Atoms.{value_of}
use Rattle.copies.proofs.copy_terms.Goals as goal

pub loop-v-init : goal.loop-v-init
unfolding rows
loop-v-init c =
    let a = c.args in
    (refl, refl, ap (λ (d : Copies). d.terms) (sym (chosen_none (rows 10 a.count a.terms.now) a.count a.variables (value_of a.assignment))), λ w h. chosen_start (rows 10 a.count a.terms.now) a.count a.variables (value_of a.assignment) w h, c.requires.2.kept)

pub copy_variable-copied-requires : goal.copy_variable-copied-requires
copy_variable-copied-requires c =
    let a = c.args in
    let h : c.loop-v.v < 8 = omega arith in
    let all = subst (λ (d : Copies). Room 12 a.table.now d.terms) (sym (chosen_all (rows 10 a.count a.terms.now) a.count a.variables (value_of a.assignment) (rows_length 10 a.count a.terms.now))) c.requires.2.room in
    rw (c.from-in-loop-v.ensures, c.from.ensures) (c.requires.0, h, λ e. c.requires.1 c.loop-v.v h e, record { kept = c.loop-v.invariant.4; room = room_same c.loop-v.table c.loop-v.invariant.0 (chosen_room (rows 10 a.count a.terms.now) a.count a.variables (value_of a.assignment) c.loop-v.v h (rows 10 c.loop-v.n c.loop-v.table) c.loop-v.invariant.2 all) })

pub loop-v-preserved : goal.loop-v-preserved
loop-v-preserved c =
    let a = c.args in
    let t = c.loop-v-test.true in
    let d = c.copy_variable-copied in
    let h : c.loop-v.v < 8 = omega arith in
    let held = (rw (c.from-in-loop-v.ensures, c.from.ensures) at d.ensures.0.rows) ∙ chosen_held (rows 10 a.count a.terms.now) a.count a.variables (value_of a.assignment) c.loop-v.v (rows 10 c.loop-v.n c.loop-v.table) c.loop-v.invariant.2 in
    let each = chosen_each (rows 10 a.count a.terms.now) a.count a.variables (value_of a.assignment) c.loop-v.v h c.loop-v.numbers d.result.count c.loop-v.invariant.1 (sym (rows_length 10 d.result.count d.new.table) ∙ ap length held) c.loop-v.invariant.3 in (
      d.auto.table ∙ c.loop-v.invariant.0,
      ap length d.ensures.1 ∙ each.0,
      held,
      λ w k. ap (λ (r : List ℕ). get_or r w 0) d.ensures.1 ∙ each.1 w k,
      d.ensures.0.kept,
    )

pub returns : goal.returns
returns c =
    let a = c.args in
    let e : c.loop-v.v ≡ 8 = omega arith in
    let size = rows_length 10 a.count a.terms.now in
    record {
      held = c.loop-v.invariant.2 ∙ ap (λ (k : ℕ). (chosen (rows 10 a.count a.terms.now) a.count a.variables (value_of a.assignment) k).terms) e ∙ ap (λ (d : Copies). d.terms) (chosen_all (rows 10 a.count a.terms.now) a.count a.variables (value_of a.assignment) size);
      found = c.loop-v.invariant.4;
      each = λ w h. c.loop-v.invariant.3 w h ∙ chosen_done (rows 10 a.count a.terms.now) a.count a.variables (value_of a.assignment) size c.loop-v.v e w;
    }

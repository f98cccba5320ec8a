-- `origins::add_constants` meets its contract. The loop's invariant: so many rows are written. Assumes nothing.
use mathlib.Core.List.{List, [], ◌∷◌, ◌++◌}
use Rattle.facts.proofs.Rows.{room_same}
use Rattle.origins.proofs.Template.{constants_room, constants_more}
use mathlib.Core.Path.{refl, ap, ◌∙◌}
use Prim.Native.Nat.{ℕ, ◌+◌, ◌-◌}
use native.Mathlib.Numerals.{add-one}
use Rattle.tables.specs.Rows.{rows}
use Rattle.terms.proofs.Kept.{term_appended}
use Rattle.rows.specs.Copies.{constant_row}
use Rattle.origins.proofs.add_constants.Goals as goal

pub append_term-requires : goal.append_term-requires
append_term-requires c =
    let a = c.args in
    let h = c.loop-i-test.true in
    let q = c.loop-i.invariant.0 in
    let (fits, few) = constants_room a.n a.table.now a.k c.loop-i.table (room_same c.loop-i.table q c.requires.room) c.loop-i.m c.loop-i.table c.loop-i.i c.loop-i.invariant.1 h in
    (c.loop-i.invariant.2, fits, few, refl)

pub loop-i-preserved : goal.loop-i-preserved
loop-i-preserved c =
    let a = c.args in
    let h = c.loop-i-test.true in
    let q = c.loop-i.invariant.0 in
    let d = c.append_term in
    let (fits, few) = constants_room a.n a.table.now a.k c.loop-i.table (room_same c.loop-i.table q c.requires.room) c.loop-i.m c.loop-i.table c.loop-i.i c.loop-i.invariant.1 h in
    let more = term_appended c.loop-i.invariant.2 fits constant_row refl few d.ensures in (
      d.auto.terms ∙ q,
      rw (add-one c.loop-i.m) (more.0
          ∙ ap (λ (ts : List (List ℕ)). ts ++ (constant_row ∷ [])) c.loop-i.invariant.1
          ∙ constants_more c.loop-i.i (rows 10 a.n a.table.now)),
      rw (add-one c.loop-i.m) more.1,
    )

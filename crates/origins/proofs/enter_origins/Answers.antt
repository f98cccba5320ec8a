-- `origins::enter_origins` meets its contract. The loop's invariant: the rows that are gone through stay, and the origins of those that are left
-- give what is to be given. Assumes nothing.
use mathlib.Core.Path.{refl, sym, ap, ◌∙◌, subst}
use mathlib.Core.List.{List, []}
use Prim.Native.Nat.{ℕ, ◌-◌, ◌≤◌, ◌<◌}
use native.Mathlib.Omega.{arith}
use lib.ListN.{length, get_or}
use Rattle.model.specs.Lists.{row}
use Rattle.rows.specs.Tables.{Rows}
use Rattle.tables.specs.Rows.{rows}
use Rattle.tables.proofs.Tables.{rows_length}
use Rattle.form_functions.specs.Functions.{places, functions_before}
use Rattle.facts.specs.Room.{Room}
use Rattle.outputs.specs.Skolem.{number_limit}
use Rattle.outputs.specs.Naming.{held, cut}
use Rattle.facts.proofs.Rows.{room_same}
use Rattle.facts.proofs.Kept.{kept_within}
use Rattle.origins.specs.Origin.{origin_step, disjuncts_in, origins_in}
use Rattle.origins.proofs.Origins.{stays_row, stays_more, stays_function, origins_more, origins_none, origins_room}
use Rattle.origins.proofs.enter_origins.Goals as goal

pub origin_of-entered-requires : goal.origin_of-entered-requires
origin_of-entered-requires c =
    let a = c.args in
    let h = c.loop-j-test.true in
    let size = rows_length 10 a.n a.table.now in
    let k : c.loop-j.j < length (rows 10 a.n a.table.now) = subst (λ (x : ℕ). c.loop-j.j < x) (sym size) h in
    let there = stays_row c.loop-j.invariant.3 c.loop-j.j k in
    let room : Room 12 a.table.now (origin_step (disjuncts_in a.form.now) (get_or (rows 10 a.n a.table.now) c.loop-j.j []) (held c.loop-j.table c.loop-j.a c.loop-j.facts c.loop-j.b)).terms × (length (rows 10 c.loop-j.a c.loop-j.table) ≤ length (origins_in a.form.now a.table.now a.n a.facts.now a.m).terms) =
    origins_room a.limit (disjuncts_in a.form.now) (rows 10 a.n a.table.now) c.loop-j.j k (held c.loop-j.table c.loop-j.a c.loop-j.facts c.loop-j.b) (origins_in a.form.now a.table.now a.n a.facts.now a.m) c.loop-j.invariant.4 c.requires.2.room.room in
    let count = rows_length 10 c.loop-j.a c.loop-j.table in
    let most : length (origins_in a.form.now a.table.now a.n a.facts.now a.m).terms < number_limit = c.requires.1 in
    let less : c.loop-j.a < number_limit = let b = room.1 in omega arith in (
      record {
        held = c.requires.0.held;
        numbered = c.requires.0.numbered;
        within = there.1;
        few = less;
        function = subst (λ (x : ℕ). x ≤ functions_before a.form.now (places a.form.now)) (sym (stays_function a.n a.table.now c.loop-j.invariant.3 c.loop-j.j h)) (c.requires.0.functions c.loop-j.j h);
      },
      record {
        room = record { kept = c.loop-j.invariant.5; room = room_same c.loop-j.table c.loop-j.invariant.1 (subst (λ (r : List ℕ). Room 12 a.table.now (origin_step (disjuncts_in a.form.now) r (held c.loop-j.table c.loop-j.a c.loop-j.facts c.loop-j.b)).terms) (sym there.0) room.0) };
        kept = c.loop-j.invariant.0;
      },
    )

pub loop-j-preserved : goal.loop-j-preserved
loop-j-preserved c =
    let a = c.args in
    let h = c.loop-j-test.true in
    let d = c.origin_of-entered in
    let k : c.loop-j.j < length (rows 10 a.n a.table.now) = subst (λ (x : ℕ). c.loop-j.j < x) (sym (rows_length 10 a.n a.table.now)) h in
    let there = stays_row c.loop-j.invariant.3 c.loop-j.j k in (
      d.ensures.kept,
      d.auto.table ∙ c.loop-j.invariant.1,
      d.auto.facts ∙ c.loop-j.invariant.2,
      stays_more c.loop-j.invariant.3 a.limit (disjuncts_in a.form.now) (row 10 c.loop-j.j c.loop-j.table) (held c.loop-j.table c.loop-j.a c.loop-j.facts c.loop-j.b) refl d.new.table d.result.terms (ap (λ (r : Rows). r.terms) d.ensures.rows),
      origins_more a.limit (disjuncts_in a.form.now) (rows 10 a.n a.table.now) c.loop-j.j k (held c.loop-j.table c.loop-j.a c.loop-j.facts c.loop-j.b) (held d.new.table d.result.terms d.new.facts d.result.facts) (d.ensures.rows ∙ ap (λ (r : List ℕ). cut a.limit (origin_step (disjuncts_in a.form.now) r (held c.loop-j.table c.loop-j.a c.loop-j.facts c.loop-j.b))) there.0)
          ∙ c.loop-j.invariant.4,
      d.ensures.found,
    )

pub returns : goal.returns
returns c =
    let a = c.args in
    let size = rows_length 10 a.n a.table.now in
    let z = rows_length 5 c.loop-j.b c.loop-j.facts in
    let w = kept_within c.loop-j.invariant.0 in
    let e = c.loop-j-test.false in
    record { rows = origins_none a.limit (disjuncts_in a.form.now) (rows 10 a.n a.table.now) c.loop-j.j (omega arith) (held c.loop-j.table c.loop-j.a c.loop-j.facts c.loop-j.b) (omega arith) ∙ c.loop-j.invariant.4; found = c.loop-j.invariant.5; kept = c.loop-j.invariant.0 }

-- `origins::enter_origin` meets its contract: by what its steps ensure. Assumes nothing.
use mathlib.Core.Path.{sym, ◌∙◌, subst}
use Rattle.model.specs.Lists.{row}
use Rattle.rows.specs.Tables.{Rows}
use Rattle.tables.specs.Rows.{rows}
use Rattle.tables.proofs.Tables.{rows_length}
use Rattle.form.proofs.Places.{rule_well_formed}
use Rattle.facts.specs.Room.{Room}
use Rattle.outputs.specs.Naming.{held}
use Rattle.facts.proofs.Rows.{room_same}
use Rattle.rows.specs.Copies.{arguments_in}
use Rattle.disjuncts.proofs.Decoded.{atoms_sound}
use Rattle.origins.proofs.Entering.{origin_entered, origin_room}
use Rattle.origins.proofs.enter_origin.Goals as goal

pub add_constants-added-requires : goal.add_constants-added-requires
add_constants-added-requires c =
    let a = c.args in
    record {
      kept = c.requires.3.room.kept;
      room = origin_room c.requires.0 (arguments_in (row 10 a.j a.table.now)) (held a.table.now a.n a.facts.now a.m) c.requires.3.room.room c.others_set-others.ensures c.set_size.ensures;
    }

pub enter_facts-entered-requires : goal.enter_facts-entered-requires
enter_facts-entered-requires c =
    let r = c.requires.0.entry.rule in
    (rw c.body-atoms.ensures (atoms_sound r.held (rule_well_formed c.args.form.now r.held c.args.i r.within).body), c.requires.3.kept)

pub enter_disjunct-requires : goal.enter_disjunct-requires
enter_disjunct-requires c =
    let a = c.args in
    let entered =
    origin_entered c.requires.0 a.limit (arguments_in (row 10 a.j a.table.now)) (held a.table.now a.n a.facts.now a.m) (rows_length 10 a.n a.table.now) c.frontier_set.ensures c.others_set-others.ensures c.set_size.ensures c.origin_numbers-names.result c.origin_numbers-names.ensures c.body-atoms.ensures c.add_constants-added.ensures.rows c.enter_facts-entered.ensures.0 in (
      c.requires.0,
      record {
        room = record {
          kept = c.add_constants-added.ensures.kept;
          room = room_same c.add_constants-added.new.table c.add_constants-added.auto.table (subst (λ (x : Rows). Room 12 a.table.now x.terms) (sym entered) c.requires.3.room.room);
        };
        kept = c.enter_facts-entered.ensures.1;
      },
    )

pub returns : goal.returns
returns c =
    let a = c.args in
    let entered =
    origin_entered c.requires.0 a.limit (arguments_in (row 10 a.j a.table.now)) (held a.table.now a.n a.facts.now a.m) (rows_length 10 a.n a.table.now) c.frontier_set.ensures c.others_set-others.ensures c.set_size.ensures c.origin_numbers-names.result c.origin_numbers-names.ensures c.body-atoms.ensures c.add_constants-added.ensures.rows c.enter_facts-entered.ensures.0 in
    record { rows = c.enter_disjunct.ensures.rows ∙ entered; found = c.enter_disjunct.ensures.found; kept = c.enter_disjunct.ensures.kept }

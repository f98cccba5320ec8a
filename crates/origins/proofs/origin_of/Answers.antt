-- `origins::origin_of` meets its contract: by the owner of the term's Skolem function. Assumes nothing.
use mathlib.Core.Path.{sym, ap, ◌∙◌, subst}
use native.Mathlib.Omega.{arith}
use Rattle.rows.specs.Tables.{Rows}
use Rattle.tables.specs.Rows.{rows}
use Rattle.tables.proofs.Tables.{rows_length}
use Rattle.facts.specs.Room.{TakesTerms}
use Rattle.outputs.specs.Naming.{held, cut}
use Rattle.facts.proofs.Kept.{kept_within}
use Rattle.origins.specs.Origin.{disjuncts_in}
use Rattle.origins.proofs.Origins.{cut_twice, step_none, step_owned}
use Rattle.origins.proofs.origin_of.Goals as goal

pub returns-then-f-eq0 : goal.returns-then-f-eq0
returns-then-f-eq0 c =
    let a = c.args in
    let w = kept_within c.requires.1.kept in
    let l = rows_length 5 a.m a.facts.now in
    record {
      rows =
          cut_twice a.limit (held a.table.now a.n a.facts.now a.m) (omega arith)
          ∙ ap (cut a.limit) (sym (step_none (disjuncts_in a.form.now) a.table.now a.j (held a.table.now a.n a.facts.now a.m) c.if-f-eq0.true));
      found = c.requires.1.room.kept;
      kept = c.requires.1.kept;
    }

pub enter_origin-requires : goal.enter_origin-requires
enter_origin-requires c =
    let a = c.args in
    let o = c.owner_of-owner in (
      record { entry = record { rule = record { held = c.requires.0.held; within = o.ensures.rule }; numbered = c.requires.0.numbered }; within = o.ensures.disjunct },
      c.requires.0.within,
      c.requires.0.few,
      record { room = subst (λ (x : Rows). TakesTerms a.table.now a.n x.terms) (step_owned c.requires.0.held a.table.now a.j o.result.rule o.result.disjunct (held a.table.now a.n a.facts.now a.m) o.ensures) c.requires.1.room; kept = c.requires.1.kept },
    )

pub returns : goal.returns
returns c =
    let a = c.args in
    let o = c.owner_of-owner in
    let e = c.enter_origin.ensures in
    record { rows = e.rows ∙ ap (cut a.limit) (sym (step_owned c.requires.0.held a.table.now a.j o.result.rule o.result.disjunct (held a.table.now a.n a.facts.now a.m) o.ensures)); found = e.found; kept = e.kept }

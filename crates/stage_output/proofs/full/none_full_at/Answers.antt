-- `stage_output::full::none_full_at` meets its contract. Assumes nothing.
use mathlib.Core.Path.{ap, ◌∙◌}
use native.Mathlib.Omega.{arith}
use Rattle.model.specs.Lists.{all}
use Rattle.laws.proofs.Rules.{existential_few}
use Rattle.laws_skipping.specs.Full.{none_full_of}
use Rattle.form.specs.Places.{rule_of, disjunct_of}
use Rattle.stage_output.specs.Cyclic.{ground_in}
use Rattle.stage_output.proofs.FullTerms.{functions_numbered}
use Rattle.stage_output.proofs.Placed.{place_small, before_is, before_room, before_few}
use Rattle.stage_output.proofs.full.none_full_at.Goals as goal

pub overflow_add-i : goal.overflow_add-i
overflow_add-i c =
    let a = c.args in
    omega (arith, place_small a.form.now a.before.now c.requires.0.held c.requires.0.numbered a.i a.d c.requires.0.there c.requires.1)

pub offset_bounds-before-i : goal.offset_bounds-before-i
offset_bounds-before-i c =
    let a = c.args in
    omega (arith, place_small a.form.now a.before.now c.requires.0.held c.requires.0.numbered a.i a.d c.requires.0.there c.requires.1)

pub bounds-before-i : goal.bounds-before-i
bounds-before-i c =
    let a = c.args in
    before_room a.form.now a.before.now c.requires.0.held c.requires.0.numbered a.i a.d c.requires.0.there c.requires.1

pub none_full_behind-requires : goal.none_full_behind-requires
none_full_behind-requires c =
    let a = c.args in (
      c.requires.2,
      before_few a.form.now a.before.now c.requires.0.held c.requires.0.numbered a.i a.d c.requires.0.there c.requires.1,
      omega (arith, c.skolem_count-count.ensures, existential_few (rule_of a.form.now a.i) (disjunct_of a.form.now a.i a.d)),
    )

pub returns : goal.returns
returns c =
    let a = c.args in
    let p = before_is a.form.now a.before.now c.requires.0.held c.requires.0.numbered a.i a.d c.requires.0.there c.requires.1 in
    c.none_full_behind.ensures
    ∙ ap (all (none_full_of (ground_in a.left a.terms.now))) (functions_numbered a.form.now a.i c.requires.0.there c.requires.0.held a.d c.requires.1 p c.skolem_count-count.ensures)

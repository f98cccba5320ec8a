-- `stage_reasons::reason::own_variables` meets its contract: by what its steps ensure. Assumes nothing.
use mathlib.Core.Path.{sym, ap, ◌∙◌}
use mathlib.Core.List.{List}
use Prim.Native.Nat.{ℕ}
use lib.Dec.{eqb}
use borrow.Author.Tests.{eq-eqb, ne_eqb}
use Rattle.model.specs.Rules.{Atom, variables_of, existential_free}
use Rattle.form.specs.Places.{rule_of, disjunct_of}
use Rattle.form_variables.specs.Sets.{set_of}
use Rattle.stage_output.proofs.Placed.{disjunct_sound, disjunct_back}
use Rattle.stage_reasons.proofs.Disjuncts.{decisive_free, decisive_other}
use Rattle.stage_reasons.proofs.reason.own_variables.Goals as goal

pub returns-then-skolem_count-ne0 : goal.returns-then-skolem_count-ne0
unfolding existential_free
returns-then-skolem_count-ne0 c =
    let k = c.skolem_count in
    let a = c.args in
    c.requires.2
    ∙ ap set_of
    (sym (decisive_other (rule_of a.form.now a.i) (disjunct_of a.form.now a.i a.d) (ap (λ (n : ℕ). eqb n 0) (sym k.ensures) ∙ ne_eqb k.result 0 c.if-skolem_count-ne0.true)))

pub all_variables-requires : goal.all_variables-requires
all_variables-requires c =
    let r = c.requires.0 in
    disjunct_sound c.args.form.now c.args.i c.args.d c.disjunct.ensures r.held r.within c.requires.1

pub returns : goal.returns
unfolding existential_free
returns c =
    let a = c.args in
    let n = c.skolem_count in
    let d = disjunct_of a.form.now a.i a.d in
    c.all_variables.ensures
    ∙ ap (λ (as' : List Atom). set_of (variables_of as')) (disjunct_back a.form.now a.i a.d c.disjunct.ensures)
    ∙ ap set_of (sym (decisive_free (rule_of a.form.now a.i) d (ap (λ (k : ℕ). eqb k 0) (sym n.ensures) ∙ eq-eqb n.result 0 c.if-skolem_count-ne0.false)))

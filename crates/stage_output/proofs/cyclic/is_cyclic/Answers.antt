-- `stage_output::cyclic::is_cyclic` meets its contract: the arguments are marked once, and nothing else. Assumes nothing.
use mathlib.Core.Path.{◌≡◌, sym, ap, ◌∙◌}
use native.Mathlib.Omega.{arith}
use borrow.Author.Rules.{rules}
use lib.ListN.{length, get_or, replicate, get_or-replicate}
use Rattle.tables.specs.Marks.{nests_marked}
use Rattle.stage_output.proofs.CyclicRows.{ordered_front, argument_first, cyclic_marked}
use Rattle.stage_output.proofs.cyclic.is_cyclic.Goals as goal

pub raise_arguments-requires : goal.raise_arguments-requires
raise_arguments-requires c =
    let h = c.requires.1 in
    let few = c.requires.0.few in
    (omega arith, h.few, λ j l. omega (arith, argument_first c.args.row j, h.within j l))

pub nests_in_marked-requires : goal.nests_in_marked-requires
nests_in_marked-requires c =
    let r = c.reach-count in
    let h = r.ensures.1 c.args.ground.terms c.requires.1 in
    let few = c.requires.0.few in
    (ordered_front r.result h c.requires.0.ordered, omega arith)

pub returns : goal.returns
returns c =
    let found = c.nests_in_marked in
    let r = c.reach-count in
    let marks = c.raise_arguments in
    let a = c.args in
    let h = r.ensures.1 a.ground.terms c.requires.1 in
    let few = c.requires.0.few in
    let long : length a.row ≡ 10 = search rules in
    found.ensures.0
    ∙ ap (nests_marked a.terms.now (get_or a.row 0 0) a.ground.depth r.result) marks.ensures
    ∙ sym (cyclic_marked c.requires.0 h long r.ensures.0 (replicate 512 0) (omega arith) (λ x l. get_or-replicate 512 x 0 0 (omega arith)))

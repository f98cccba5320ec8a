-- `stage_output::full::none_full_of` meets its contract: every term is marked once. Assumes nothing.
use mathlib.Core.Path.{ap, ◌∙◌}
use mathlib.Core.Bool.{not}
use native.Mathlib.Omega.{arith}
use lib.ListN.{get_or-replicate}
use Rattle.stage_output.proofs.FullTerms.{full_marked}
use Rattle.stage_output.proofs.full.none_full_of.Goals as goal

pub returns : goal.returns
returns c =
    let n = c.nests_in_marked in
    let few = c.requires.few in
    ap not n.ensures.0 ∙ full_marked c.requires c.args.f _ (λ k l. get_or-replicate 512 k 1 0 (omega arith))

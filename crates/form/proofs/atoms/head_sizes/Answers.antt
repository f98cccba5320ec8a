-- `form::atoms::head_sizes` meets its contract. Assumes nothing.
use Rattle.std.proofs.Common.{rules}
use lib.ListN.{length, replicate}
use Rattle.form.specs.Places.{atom_arities, head_arities, head_counts}
use Rattle.form.proofs.Rows.{disjuncts_returned, sizes_are}
use Rattle.form.proofs.atoms.head_sizes.Goals as goal

pub returns : goal.returns
unfolding head_arities head_counts
returns c =
    sizes_are (disjuncts_returned atom_arities (replicate 4 0) c.requires c.each_disjunct-arities.ensures (λ lent p x by. by))
    (disjuncts_returned length 0 c.requires c.each_disjunct-counts.ensures (λ lent p x by. search rules)) c.disjunct_count.ensures

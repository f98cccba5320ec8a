-- `form::atoms::head` meets its contract. Assumes nothing.
use lib.ListN.{replicate}
use Rattle.form.specs.Places.{no_row, atom_rows, head_rows}
use Rattle.form.proofs.Rows.{disjuncts_returned}
use Rattle.form.proofs.atoms.head.Goals as goal

pub returns : goal.returns
unfolding head_rows
returns c = disjuncts_returned atom_rows (replicate 4 no_row) c.requires c.each_disjunct.ensures (λ lent p x by. by)

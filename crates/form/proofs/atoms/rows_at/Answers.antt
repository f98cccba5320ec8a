-- `form::atoms::rows_at` meets its contract. Assumes nothing.
use Rattle.model.specs.Form.{atom_row}
use Rattle.form.specs.Places.{no_row, atom_rows}
use Rattle.form.proofs.Rows.{atoms_returned}
use Rattle.form.proofs.atoms.rows_at.Goals as goal

pub returns : goal.returns
unfolding atom_rows
returns c = atoms_returned atom_row no_row c.requires c.each_atom.ensures (λ lent p x by. by)

-- `form::atoms::arities_at` meets its contract. Assumes nothing.
use lib.ListN.{length}
use Rattle.model.specs.Rules.{Atom}
use Rattle.form.specs.Places.{atom_arities}
use Rattle.form.proofs.Rows.{atoms_returned}
use Rattle.form.proofs.atoms.arities_at.Goals as goal

pub returns : goal.returns
unfolding atom_arities
returns c = atoms_returned (λ (a : Atom). length a.variables) 0 c.requires c.each_atom.ensures (λ lent p x by. by)

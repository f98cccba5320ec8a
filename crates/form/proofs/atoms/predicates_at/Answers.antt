-- `form::atoms::predicates_at` meets its contract. Assumes nothing.
use Rattle.model.specs.Rules.{Atom}
use Rattle.form.specs.Places.{atom_predicates}
use Rattle.form.proofs.Rows.{atoms_returned}
use Rattle.form.proofs.atoms.predicates_at.Goals as goal

pub returns : goal.returns
unfolding atom_predicates
returns c = atoms_returned (λ (a : Atom). a.predicate) 0 c.requires c.each_atom.ensures (λ lent p x by. by)

-- `form::atoms::each_atom` meets its contract. The loop's invariant: what is given for the first `k` atoms is there. Assumes nothing.
use native.Mathlib.Omega.{arith}
use Rattle.form.proofs.Places.{atom_stands}
use Rattle.form.proofs.atoms.each_atom.Goals as goal

pub of-requires : goal.of-requires
of-requires g c = c.requires.takes c.atom_place.result (atom_stands c.requires.group c.loop-k.k (omega arith) c.atom_place.ensures)

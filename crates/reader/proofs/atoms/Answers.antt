-- `reader::atoms` meets its contract: the count, and then the atoms, into one row. Assumes nothing.
use mathlib.Core.Path.{sym}
use Prim.Native.Nat.{◌≤◌}
use native.Mathlib.Omega.{arith}
use lib.ListN.{length-set}
use Rattle.model.specs.Format.{atoms}
use Rattle.parsing.proofs.Lists.{tail_zeros, zeros_length}
use Rattle.parsing.proofs.Parsing.{handed_on, byte_good, refuses}
use Rattle.reader.proofs.Rows.{atoms_filled}
use Rattle.reader.proofs.atoms.Goals as goal
use Rattle.reader.proofs.atoms.Goals.{In_ok-n}

few : (c : In_ok-n) → c.in_ok-n.n.value ≤ 4
few c = (byte_good _ _ _ _ _ _ _ (sym c.in_ok-n.ensures)).most

pub returns-in_err-n : goal.returns-in_err-n
unfolding atoms
returns-in_err-n c = rw (handed_on c.from_residual.ensures.1) (refuses _ _ _ _ _ _ (sym c.in_err-n.ensures))

pub bounds-row-0 : goal.bounds-row-0
bounds-row-0 c = omega (arith, zeros_length 21 _ c.requires.row_value)

pub slice_bounds-many_atoms-count : goal.slice_bounds-many_atoms-count
slice_bounds-many_atoms-count c = simp length-set (omega (arith, zeros_length 21 _ c.requires.row_value))

pub slice_bounds-many_atoms-start : goal.slice_bounds-many_atoms-start
slice_bounds-many_atoms-start c = simp length-set (omega (arith, zeros_length 21 _ c.requires.row_value))

pub many_atoms-requires-clause-n_bound : goal.many_atoms-requires-clause-n_bound
many_atoms-requires-clause-n_bound c =
    (rw c.from-2.ensures (few (goal.at.many_atoms-requires-clause-n_bound c).In_ok-n), tail_zeros 20 _ _ c.requires.row_value)

pub returns : goal.returns
returns c =
    rw c.from.ensures (atoms_filled _ _ _ _ _ _ _ _ (sym c.in_ok-n.ensures) c.requires.row_value (rw c.from-2.ensures at c.many_atoms.ensures))

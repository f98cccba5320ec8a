-- `writer::put_atoms` meets its contract: the count, and so many atoms. Assumes nothing.
use Rattle.parsing.proofs.Parsing.{handed_on}
use Rattle.writer.proofs.AtomWriting.{atoms_refused, atoms_written}
use Rattle.writer.proofs.put_atoms.Goals as goal

pub returns-in_err-count-clause-written : goal.returns-in_err-count-clause-written
returns-in_err-count-clause-written c = rw (handed_on c.from_residual.ensures.1) (atoms_refused _ _ _ _ _ _ _ _ c.number.ensures _ _ c.in_err-count.ensures.written)

pub returns-clause-written : goal.returns-clause-written
returns-clause-written c =
    let n = c.in_ok-count.ensures in
    atoms_written _ _ _ _ _ _ _ _ c.number.ensures _ _ _ n.written n.taken.0 (rw c.from.ensures at c.put_many_atoms.ensures.written)

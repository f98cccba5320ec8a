-- `reader::many_atoms` meets its contract: between turns the loop is as `Rows` says. Assumes nothing.
use Prim.Native.Nat.{◌*◌}
use Rattle.model.specs.Limits.{fact_width}
use Rattle.model.specs.Format.{signed, atom}
use Rattle.model.specs.Form.{atom_row}
use Rattle.parsing.proofs.Many.{Rows}
use Rattle.reader.specs.Parts.{Afresh}
use Rattle.reader.proofs.many_atoms.Given as goal

abbrev pub invariant-loop-k : goal.invariant-loop-k
invariant-loop-k l =
    Rows (atom l.bytes (signed l.version l.arities)) Afresh atom_row fact_width (4 * fact_width) l.n l.i l.initial.rows l.k l.at l.set l.rows

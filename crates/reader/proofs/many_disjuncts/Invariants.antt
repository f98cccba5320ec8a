-- `reader::many_disjuncts` meets its contract: between turns the loop is as `Rows` says. Assumes nothing.
use Prim.Native.Nat.{◌*◌}
use Rattle.model.specs.Format.{signed, atoms}
use Rattle.model.specs.Form.{group_width, group}
use Rattle.parsing.proofs.Many.{Rows}
use Rattle.parsing.proofs.Heads.{Keeps}
use Rattle.reader.proofs.many_disjuncts.Given as goal

abbrev pub invariant-loop-k : goal.invariant-loop-k
invariant-loop-k l =
    Rows (atoms l.bytes (signed l.version l.arities)) (Keeps l.body) group group_width (4 * group_width) l.n l.i l.initial.rows l.k l.at l.heads l.rows

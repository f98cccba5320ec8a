-- The term number falls from a term to its arguments, and the arguments of a term come one after the other: the measure is ten times the
-- number, and what is left of the row.
use Prim.Native.Nat.{◌+◌, ◌-◌, ◌*◌}
use Rattle.tables.proofs.+size_size_of_arguments.Given as goal

abbrev pub decreases-size : goal.decreases-size
decreases-size l = l.i * 10 + 9

abbrev pub decreases-size_of_arguments : goal.decreases-size_of_arguments
decreases-size_of_arguments l = l.i * 10 + (8 - l.j)

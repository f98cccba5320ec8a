-- `reader::many_arities` meets its contract: between turns the loop is as `Progress` says. Assumes nothing.
use Rattle.model.specs.Format.{byte}
use Rattle.parsing.proofs.Lists.{single}
use Rattle.parsing.proofs.Many.{Anything, Progress}
use Rattle.reader.proofs.many_arities.Given as goal

abbrev pub invariant-loop-k : goal.invariant-loop-k
invariant-loop-k l = Progress (byte l.bytes 1 4 4) Anything single l.n l.i l.initial.row l.k l.at l.k tt l.row

-- `reader::variables` meets its contract: between turns the loop is as `Progress` says. Assumes nothing.
use mathlib.Core.Path.{◌≡◌}
use Rattle.model.specs.Format.{variable}
use Rattle.parsing.proofs.Lists.{single}
use Rattle.parsing.proofs.Many.{Progress}
use Rattle.reader.specs.Parts.{grown_by}
use Rattle.reader.proofs.variables.Given as goal

abbrev pub invariant-loop-k : goal.invariant-loop-k
invariant-loop-k l = Progress (variable l.bytes) (λ vs s. grown_by l.kept vs ≡ s) single l.n l.i l.initial.row l.k l.at l.k l.set l.row

-- `dmfa::is_depth` meets its contract. Assumes nothing.
use borrow.Author.Rules.{rules}
use Rattle.model.specs.Tables.{is_depth}
use Rattle.dmfa.proofs.is_depth.Goals as goal

pub returns : goal.returns
unfolding is_depth
returns c = search rules

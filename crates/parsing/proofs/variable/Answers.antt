-- `parsing::variable` meets its contract: the definition is this call. Assumes nothing.
use Rattle.model.specs.Format.{variable}
use Rattle.parsing.proofs.variable.Goals as goal

pub returns : goal.returns
unfolding variable
returns c = c.byte.ensures

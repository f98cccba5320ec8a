-- `parsing::is_wide` meets its contract: the definition is this test. Assumes nothing.
use mathlib.Core.Path.{refl}
use Rattle.model.specs.Rules.{wide}
use Rattle.parsing.proofs.is_wide.Goals as goal

pub returns : goal.returns
unfolding wide
returns c = refl

-- `parsing::within` meets its contract: each way out is a case of the definition. Assumes nothing.
use mathlib.Core.Path.{sym}
use native.Mathlib.Omega.{arith}
use Rattle.parsing.proofs.Numbers.{ranged_outside, ranged_within}
use Rattle.parsing.proofs.within.Goals as goal

pub returns-then-value-low : goal.returns-then-value-low
returns-then-value-low c = sym (ranged_outside _ _ _ _ _ _ c.then-value-low.either)

pub returns : goal.returns
returns c = sym (ranged_within _ _ _ _ _ _ (omega arith) (omega arith))

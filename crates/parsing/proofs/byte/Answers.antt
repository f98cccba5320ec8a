-- `parsing::byte` meets its contract: each way out is a case of the definition. Assumes nothing.
use mathlib.Core.Path.{sym}
use native.Mathlib.Omega.{arith}
use Rattle.parsing.proofs.Parsing.{byte_ended, byte_outside, byte_within}
use Rattle.parsing.proofs.byte.Goals as goal

pub returns-then-bytes-i : goal.returns-then-bytes-i
returns-then-bytes-i c = sym (byte_ended _ _ _ _ _ c.if-bytes-i.true)

pub returns-then-value-low : goal.returns-then-value-low
returns-then-value-low c = sym (byte_outside _ _ _ _ _ c.if-bytes-i.false c.then-value-low.either)

pub returns : goal.returns
returns c = sym (byte_within _ _ _ _ _ (omega arith) (omega arith) (omega arith))

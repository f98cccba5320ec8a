-- `test_support::bytes::byte_or_mark` meets its contract. Assumes nothing.
use mathlib.Core.Path.{sym}
use native.Mathlib.Omega.{arith}
use lib.ListN.{get_or-eq_default}
use Rattle.test_support.proofs.Same.{get_or_within}
use Rattle.test_support.proofs.bytes.byte_or_mark.Goals as goal

pub returns-then-k-bytes : goal.returns-then-k-bytes
returns-then-k-bytes c = get_or_within c.args.bytes.now c.args.k 0 238 (omega arith)

pub returns : goal.returns
returns c = sym (get_or-eq_default c.args.bytes.now 238 (omega arith))

-- `writer::put` meets its contract: each way out is a case of the definition. Assumes nothing.
use native.Mathlib.Omega.{arith}
use Rattle.writer.proofs.Writing.{writes_below, writes_above, writes_within}
use Rattle.writer.proofs.put.Goals.{then-v-from-via-then-v-from, then-v-from-via-else-v-from+then-from-v}
use Rattle.writer.proofs.put.Goals as goal

pub returns-then-v-from-clause-written : goal.returns-then-v-from-clause-written
returns-then-v-from-clause-written c =
    elim c.then-v-from.branch [
      | then-v-from-via-then-v-from w ↦ writes_below _ _ _ _ _ _ (omega arith) _
      | then-v-from-via-else-v-from+then-from-v w ↦ writes_above _ _ _ _ _ _ (omega arith) (omega arith) _
    ]

pub returns-clause-written : goal.returns-clause-written
returns-clause-written c = writes_within _ _ _ c.args.refusal _ _ (omega arith) (omega arith) c.requires

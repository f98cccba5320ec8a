-- `stage_reasons::reason::blocked_for_disjunct` meets its contract: one disjunct after the other. Assumes nothing.
use Prim.Native.Nat.{◌-◌}
use Rattle.form.specs.Places.{rule_of}
use Rattle.form.proofs.Rows.{Turn}
use Rattle.stage_reasons.proofs.reason.blocked_for_disjunct.Given as goal

abbrev pub invariant-loop-d : goal.invariant-loop-d
invariant-loop-d l = Turn (rule_of l.form l.i).head l.count l.d

-- `stage_reasons::stars::starred` meets its contract. The loop's invariant: the row is the starred trigger as far as it came. Assumes nothing.
use Prim.Native.Nat.{◌-◌}
use Rattle.stage_reasons.proofs.Starred.{StarredTo}
use Rattle.stage_reasons.proofs.stars.starred.Given as goal

abbrev pub invariant-loop-v : goal.invariant-loop-v
invariant-loop-v l = StarredTo l.set l.trigger l.row l.v

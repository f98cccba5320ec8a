-- `reader::variables` meets its contract: between turns the loop is as `Progress` says. Assumes nothing.
use Prim.Native.Nat.{◌≤◌}
use mathlib.Core.Path.{sym}
use native.Mathlib.Omega.{arith}
use Rattle.model.specs.Format.{variable}
use Rattle.parsing.proofs.Parsing.{handed_on, variable_good}
use Rattle.parsing.proofs.Many.{begun, more_single, finished_single, failed}
use Rattle.reader.proofs.Kept.{grown_none, grown_more}
use Rattle.reader.proofs.variables.Goals as goal
use Rattle.reader.proofs.variables.Goals.{In_ok-v}

pub loop-k-init : goal.loop-k-init
loop-k-init c = begun _ _ _ _ _ _ _ (grown_none _)

-- the variable that a turn reads
read_small : (c : In_ok-v) → c.in_ok-v.v.value ≤ 7
read_small c = (variable_good _ _ _ _ (sym c.in_ok-v.ensures)).most

pub overflow_shl-set : goal.overflow_shl-set
overflow_shl-set c = omega (arith, read_small (goal.at.overflow_shl-set c).In_ok-v)

pub loop-k-preserved : goal.loop-k-preserved
loop-k-preserved c =
    rw c.from.ensures
    (more_single _ _ _ _ _ _ _ _ _ c.loop-k.invariant _ _ _ (omega arith) (omega arith) (sym c.in_ok-v.ensures) (λ vs e. grown_more c.args.kept vs _ _ (read_small (goal.at.loop-k-preserved c).In_ok-v) e))

pub returns-in_err-v : goal.returns-in_err-v
returns-in_err-v c =
    rw (handed_on c.from_residual.ensures.1)
    (failed _ _ _ _ _ _ _ _ _ _ _ c.loop-k.invariant _ _ _ _ (omega arith) (sym c.in_err-v.ensures))

pub returns : goal.returns
returns c = finished_single _ _ _ _ _ _ _ _ _ c.loop-k.invariant _ _ _ (λ vs e. e) (omega arith) c.requires.1

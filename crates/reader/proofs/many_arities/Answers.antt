-- `reader::many_arities` meets its contract: between turns the loop is as `Progress` says. Assumes nothing.
use mathlib.Core.Path.{refl, sym}
use native.Mathlib.Omega.{arith}
use Rattle.parsing.proofs.Parsing.{handed_on}
use Rattle.parsing.proofs.Many.{begun, more_single, finished_single, failed}
use Rattle.reader.proofs.many_arities.Goals as goal

pub loop-k-init : goal.loop-k-init
loop-k-init c = begun _ _ _ _ _ _ tt tt

pub loop-k-preserved : goal.loop-k-preserved
loop-k-preserved c =
    rw c.from.ensures (more_single _ _ _ _ _ _ _ _ _ c.loop-k.invariant _ _ tt (omega arith) (omega arith) (sym c.in_ok-arity.ensures) (λ vs m. tt))

pub returns-in_err-arity : goal.returns-in_err-arity
returns-in_err-arity c =
    rw (handed_on c.from_residual.ensures.1)
    (failed _ _ _ _ _ _ _ _ _ _ _ c.loop-k.invariant _ _ _ _ (omega arith) (sym c.in_err-arity.ensures))

pub returns : goal.returns
returns c = finished_single _ _ _ _ _ _ _ _ _ c.loop-k.invariant _ _ _ (λ vs m. refl) (omega arith) c.requires.1

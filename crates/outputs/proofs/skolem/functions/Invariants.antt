-- `outputs::skolem::functions` meets its contract. The loop's invariant: the variables passed have their functions. Assumes nothing.
use Prim.Native.Nat.{◌-◌}
use Rattle.outputs.proofs.Variables.{Counted}
use Rattle.outputs.proofs.skolem.functions.Given as goal

abbrev pub invariant-loop-v : goal.invariant-loop-v
invariant-loop-v l = Counted l.existential l.before l.numbers l.last l.v

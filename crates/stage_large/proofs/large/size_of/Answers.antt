-- `stage_large::large::size_of` meets its contract: what stands in the table was found earlier, and what is found is put down there.
-- Assumes nothing.
use mathlib.Core.Path.{◌∙◌}
use native.Mathlib.Omega.{arith}
use Rattle.stage_large.proofs.Places.{measured_with}
use Rattle.stage_large.proofs.large.size_of.Goals as goal

pub returns-then-known-gt0 : goal.returns-then-known-gt0
returns-then-known-gt0 c =
    let known = c.from-known.ensures in
    (known ∙ c.requires.2 c.args.i (omega (arith, known, c.if-known-gt0.true)), c.requires.2)

pub returns : goal.returns
returns c =
    let a = c.args in
    (c.size-size.ensures, measured_with a.terms.now a.sizes.now a.i c.size-size.result (omega arith) c.size-size.ensures c.requires.2)

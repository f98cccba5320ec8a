-- `stage_large::large::can_be_large` meets its contract: a set has at most eight variables. Assumes nothing.
use mathlib.Core.Path.{ap, ◌∙◌}
use Prim.Native.Nat.{ℕ, ◌*◌, ◌≤◌}
use native.Mathlib.Nat.{mul-le-mul_left}
use native.Mathlib.Omega.{arith}
use lib.Dec.{ltb}
use lib.ListN.{length}
use Rattle.form_variables.specs.Sets.{elements}
use Rattle.outputs.proofs.Variables.{elements_length}
use Rattle.stage_large.proofs.large.can_be_large.Goals as goal

pub overflow_mul-result : goal.overflow_mul-result
overflow_mul-result c =
    let e = elements_length c.body_set-set.result in
    let f : c.set_size.result ≤ 8 = omega (arith, c.set_size.ensures, e) in
    let m = mul-le-mul_left c.args.most f in
    omega (arith, m)

pub returns : goal.returns
returns c =
    ap (λ (x : ℕ). ltb 64 (c.args.most * x)) (c.set_size.ensures ∙ ap (λ (x : ℕ). length (elements x)) c.body_set-set.ensures)

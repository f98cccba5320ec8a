-- `origins::others_set` meets its contract, by the law of sets. Assumes nothing.
use mathlib.Core.Path.{ap₂, ◌∙◌}
use Prim.Native.Nat.{ℕ, ◌-◌}
use lib.Bits.{bit_and}
use Rattle.form.specs.Places.{rule_of}
use Rattle.origins.proofs.Template.{others_set}
use Rattle.origins.proofs.others_set.Goals as goal

pub returns : goal.returns
returns c =
    ap₂ (λ (x y : ℕ). bit_and x (256 - 1 - y)) c.body_set.ensures c.frontier_set.ensures ∙ others_set (rule_of c.args.form.now c.args.i)

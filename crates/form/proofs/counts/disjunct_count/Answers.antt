-- `form::counts::disjunct_count` meets its contract. Assumes nothing.
use mathlib.Core.Path.{sym, ap, ◌∙◌}
use Prim.Native.Nat.{ℕ}
use native.Mathlib.Omega.{arith}
use lib.ListN.{get_or}
use Rattle.form.proofs.Places.{count_disjuncts, rule_below}
use Rattle.form.proofs.counts.disjunct_count.Goals as goal

pub rule_place-requires : goal.rule_place-requires
rule_place-requires c = omega (arith, rule_below c.requires)

pub offset_bounds-form-rule_place : goal.offset_bounds-form-rule_place
offset_bounds-form-rule_place c = omega (arith, rule_below c.requires)

pub bounds-form-rule_place : goal.bounds-form-rule_place
bounds-form-rule_place c = omega (arith, rule_below c.requires)

pub returns : goal.returns
returns c =
    let form = c.args.form.now in
    c.from.ensures ∙ ap (λ (p : ℕ). get_or form p 0) c.rule_place.ensures ∙ sym (count_disjuncts form c.args.i c.requires.1)

-- `form::counts::arity` meets its contract. Assumes nothing.
use mathlib.Core.Path.{sym, ap, ◌∙◌}
use Prim.Native.Nat.{ℕ}
use native.Mathlib.Omega.{arith}
use lib.ListN.{get_or}
use Rattle.form.proofs.Places.{arity_place_is, few_predicates}
use Rattle.form.proofs.counts.arity.Goals as goal

pub arity_place-requires : goal.arity_place-requires
arity_place-requires c = omega (arith, few_predicates c.args.form.now c.requires.0)

pub offset_bounds-form-arity_place : goal.offset_bounds-form-arity_place
offset_bounds-form-arity_place c = omega (arith, few_predicates c.args.form.now c.requires.0)

pub bounds-form-arity_place : goal.bounds-form-arity_place
bounds-form-arity_place c = omega (arith, few_predicates c.args.form.now c.requires.0)

pub returns : goal.returns
returns c =
    let form = c.args.form.now in
    c.from.ensures ∙ ap (λ (p : ℕ). get_or form p 0) c.arity_place.ensures ∙ sym (arity_place_is form c.args.p c.requires.1)

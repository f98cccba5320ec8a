-- `form::atoms::arity_at` meets its contract. Assumes nothing.
use mathlib.Core.Path.{sym, ap, ◌∙◌}
use Prim.Native.Nat.{ℕ}
use native.Mathlib.Omega.{arith}
use lib.ListN.{get_or}
use Rattle.form.specs.Places.{arities_of}
use Rattle.form.proofs.Places.{count_variables, atom_declared}
use Rattle.form.proofs.atoms.arity_at.Goals as goal

pub arity-requires : goal.arity-requires
arity-requires c = (c.requires.held, omega (arith, c.from.ensures, atom_declared c.args.form.now c.args.at c.requires))

pub returns : goal.returns
returns c =
    let form = c.args.form.now in
    c.arity.ensures ∙ ap (λ (p : ℕ). get_or (arities_of form) p 0) c.from.ensures ∙ sym (count_variables form c.args.at)

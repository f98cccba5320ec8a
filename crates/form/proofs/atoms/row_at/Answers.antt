-- `form::atoms::row_at` meets its contract. The loop's invariant: the row has the predicate and the first `k` variables.
-- Assumes nothing.
use mathlib.Core.Path.{◌≡◌, ap, ◌∙◌}
use mathlib.Core.List.{List}
use Prim.Native.Nat.{ℕ, ◌+◌}
use native.Mathlib.Omega.{arith}
use lib.ListN.{get_or, set}
use Rattle.form.specs.Places.{arities_of}
use Rattle.form.proofs.Rows.{row_first, row_more, row_last}
use Rattle.form.proofs.Places.{count_variables, few_variables}
use Rattle.form.proofs.atoms.row_at.Goals as goal

pub loop-k-init : goal.loop-k-init
loop-k-init c =
    let form = c.args.form.now in
    let at = c.args.at in
    record { few = omega (arith, c.arity_at-k-end.ensures, few_variables form at c.requires); front = row_first form (at + 1) (get_or form at 0) }

pub loop-k-preserved : goal.loop-k-preserved
loop-k-preserved c =
    let l = c.loop-k in
    let form = c.args.form.now in
    let at = c.args.at in
    record {
      few = l.invariant.few;
      front =
          ap (λ (row : List ℕ). set row (l.k + 1) (get_or form (at + 1 + l.k) 0)) l.invariant.front
          ∙ row_more form (at + 1) l.k (get_or form at 0) (omega arith);
    }

pub returns : goal.returns
returns c =
    let form = c.args.form.now in
    let all : c.loop-k.k ≡ get_or (arities_of form) (get_or form c.args.at 0) 0 = omega (arith, c.arity_at-k-end.ensures, count_variables form c.args.at) in
    c.loop-k.invariant.front ∙ row_last form c.args.at c.loop-k.k all

-- `stage_output::cyclic::with_atom` meets its contract. The loop's invariant: the first `p` variables have been looked at, and the row of the function
-- tested last makes no difference. Assumes nothing.
use mathlib.Core.Path.{◌≡◌, sym, ap, ◌∙◌}
use mathlib.Core.List.{List}
use Prim.Native.Nat.{ℕ, ◌+◌}
use native.Mathlib.Omega.{arith}
use lib.ListN.{get_or}
use Rattle.std.specs.Prelude.{option_to_list}
use Rattle.model.specs.Lists.{numbers_from}
use Rattle.rows.specs.Making.{first_cyclic}
use Rattle.stage_output.specs.Cyclic.{ground_in, row_with, rows_with}
use Rattle.stage_output.proofs.CyclicRows.{first_none, first_append, rows_with_none, rows_with_more}
use Rattle.stage_output.proofs.cyclic.with_atom.Goals as goal

pub loop-p-init : goal.loop-p-init
loop-p-init c =
    let a = c.args in
    let g = ground_in a.ground a.terms.now in (
      omega arith,
      record {
        first = sym (ap (first_cyclic g (option_to_list a.before.cyclic)) (rows_with_none a.functions a.template a.atom) ∙ first_none g (option_to_list a.before.cyclic));
        unchanging = c.requires.1.unchanging;
      },
    )

pub offset_bounds-functions-from : goal.offset_bounds-functions-from
offset_bounds-functions-from c = omega (arith, c.from.ensures, c.requires.0.variables c.loop-p.p c.loop-p-test.true)

pub bounds-functions-from : goal.bounds-functions-from
bounds-functions-from c = omega (arith, c.from.ensures, c.requires.0.variables c.loop-p.p c.loop-p-test.true)

pub with_variable-so_far-requires : goal.with_variable-so_far-requires
with_variable-so_far-requires c =
    let p = c.requires.1 in
    record { standing = p.standing; arguments = p.arguments; unchanging = c.loop-p.invariant.1.unchanging }

pub loop-p-preserved : goal.loop-p-preserved
loop-p-preserved c =
    let w = c.with_variable-so_far.ensures in
    let a = c.args in
    let g = ground_in a.ground a.terms.now in
    let row = λ (v : ℕ). row_with (get_or a.functions v 0) a.template in
    let seen = rows_with a.functions a.template (numbers_from a.atom 1 c.loop-p.p) in (
      omega arith,
      record {
        first = w.first
            ∙ ap (λ (ls : List (List ℕ)). first_cyclic g ls (row c.from.result)) c.loop-p.invariant.1.first
            ∙ ap (λ (v : ℕ). first_cyclic g (first_cyclic g (option_to_list a.before.cyclic) seen) (row v)) c.from.ensures
            ∙ sym (first_append g (option_to_list a.before.cyclic) seen (row (get_or a.atom (c.loop-p.p + 1) 0)))
            ∙ ap (first_cyclic g (option_to_list a.before.cyclic)) (sym (rows_with_more a.functions a.template a.atom c.loop-p.p));
        unchanging = w.unchanging;
      },
    )

pub returns : goal.returns
returns c =
    let a = c.args in
    let e : c.loop-p.p ≡ a.arity = omega arith in
    record {
      first = c.loop-p.invariant.1.first
          ∙ ap (λ (k : ℕ). first_cyclic (ground_in a.ground a.terms.now) (option_to_list a.before.cyclic) (rows_with a.functions a.template (numbers_from a.atom 1 k))) e;
      unchanging = c.loop-p.invariant.1.unchanging;
    }

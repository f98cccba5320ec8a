-- `stage_output::cyclic::with_variable` meets its contract. Assumes nothing.
use mathlib.Core.Path.{◌∙◌, sym, ap}
use Prim.Native.Nat.{ℕ}
use Rattle.std.specs.Prelude.{option_to_list}
use Rattle.rows.specs.Making.{first_cyclic}
use Rattle.stage_output.specs.Cyclic.{ground_in, row_with}
use Rattle.stage_output.proofs.CyclicRows.{arguments_set, first_old, first_without, first_test, unchanging_again}
use Rattle.stage_output.proofs.cyclic.with_variable.Goals as goal
use Rattle.stage_output.proofs.cyclic.with_variable.Goals.{then-is_some-via-then-is_some, then-is_some-via-else-is_some+then-function-eq0, then-is_some-via-else-is_some+else-function-eq0+then-function-before}

pub returns-then-is_some : goal.returns-then-is_some
returns-then-is_some c =
    let a = c.args in
    let g = ground_in a.ground a.terms.now in
    let row = λ (f : ℕ). row_with f a.template in
    record {
      first =
          elim c.then-is_some.branch [
            | then-is_some-via-then-is_some w ↦ first_old g a.before.cyclic (row a.function) (sym c.is_some.ensures ∙ w.if-is_some.true)
            | then-is_some-via-else-is_some+then-function-eq0 w ↦ first_without g a.before.cyclic a.function a.template w.if-function-eq0.true
            | then-is_some-via-else-is_some+else-function-eq0+then-function-before w ↦
                c.requires.unchanging ∙ ap (λ (f : ℕ). first_cyclic g (option_to_list a.before.cyclic) (row f)) (sym w.if-function-before.true)
          ];
      unchanging = c.requires.unchanging;
    }

pub is_cyclic-requires : goal.is_cyclic-requires
is_cyclic-requires c = (c.requires.standing, arguments_set c.args.function c.requires.arguments)

pub returns : goal.returns
returns c =
    let a = c.args in
    let g = ground_in a.ground a.terms.now in
    let f = c.is_cyclic in
    rw (c.then_some.ensures)
    (record {
      first = first_test g a.function a.template c.if-function-eq0.false f.result f.ensures a.before.cyclic (sym c.is_some.ensures ∙ c.if-is_some.false);
      unchanging = unchanging_again g a.function a.template c.if-function-eq0.false f.result f.ensures;
    })

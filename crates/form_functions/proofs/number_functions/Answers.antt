-- `form_functions::number_functions` meets its contract. The loop's invariant: the first `j` places are written, and the total is what the
-- next one gets. Assumes nothing.
use mathlib.Core.Path.{◌≡◌, refl, ap, ◌∙◌}
use mathlib.Core.List.{List, ◌++◌}
use Prim.Native.Nat.{ℕ, ◌-◌}
use native.Mathlib.Omega.{arith}
use lib.ListN.{set, drop, length-set}
use Rattle.form_functions.specs.Functions.{places, functions_before, numbering}
use Rattle.form_functions.proofs.Numbering.{numbering_more, few_functions, before_more}
use Rattle.model.specs.Form.{spaced}
use Rattle.form.proofs.Places.{few_rules}
use Rattle.form_functions.proofs.number_functions.Goals as goal

pub overflow_mul-n : goal.overflow_mul-n
overflow_mul-n c = omega (arith, c.rule_count-n.ensures, few_rules c.args.form.now c.requires.0)

pub loop-j-init : goal.loop-j-init
unfolding functions_before numbering spaced
loop-j-init c =
    let n = c.rule_count-n.ensures in
    record { all = omega arith; few = omega (arith, few_rules c.args.form.now c.requires.0); total = refl; fits = omega arith; written = refl; room = refl }

pub functions_at-total-requires : goal.functions_at-total-requires
functions_at-total-requires c = (c.requires.0, omega (arith, c.loop-j.invariant.all))

pub overflow_add-total : goal.overflow_add-total
overflow_add-total c = omega (arith, c.functions_at-total.ensures, few_functions c.args.form.now c.loop-j.j)

pub loop-j-preserved : goal.loop-j-preserved
loop-j-preserved c =
    let form = c.args.form.now in
    let l = c.loop-j in
    let i = l.invariant in
    let e = c.functions_at-total.ensures in
    record {
      all = i.all;
      few = i.few;
      total = omega (arith, before_more form l.j);
      fits = omega (arith, few_functions form l.j);
      written = ap (λ (t : List ℕ). set t l.j l.total) i.written ∙ numbering_more form l.j c.args.before.now l.total (omega arith) i.total;
      room = simp length-set i.room;
    }

pub returns : goal.returns
returns c =
    let form = c.args.form.now in
    let i = c.loop-j.invariant in
    let e : c.loop-j.j ≡ places form = omega (arith, i.all) in
    (i.total ∙ ap (functions_before form) e, i.written ∙ ap (λ (m : ℕ). numbering form m ++ drop m c.args.before.now) e)

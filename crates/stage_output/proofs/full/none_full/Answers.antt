-- `stage_output::full::none_full` meets its contract. The loop's invariant: no term is full for a function of the first `d` disjuncts.
-- Assumes nothing.
use mathlib.Core.Path.{◌≡◌, sym, ◌∙◌}
use mathlib.Core.Bool.{true}
use Prim.Native.Nat.{ℕ, ◌<◌}
use native.Mathlib.Omega.{arith}
use borrow.Author.Count.{below_more}
use lib.ListN.{length}
use Rattle.model.specs.Lists.{all}
use Rattle.laws_skipping.specs.Full.{none_full_of, functions_of}
use Rattle.form.specs.Places.{rule_of}
use Rattle.form_functions.specs.Functions.{numbered_of}
use Rattle.stage_output.specs.Cyclic.{ground_in}
use Rattle.stage_output.proofs.FullTerms.{rule_none, rule_some}
use Rattle.stage_output.proofs.full.none_full.Goals as goal

pub loop-d-init : goal.loop-d-init
loop-d-init c = λ x l. absurd (omega arith)

pub none_full_at-requires : goal.none_full_at-requires
none_full_at-requires c =
    (c.requires.0, omega (arith, c.disjunct_count-count.ensures, c.loop-d-test.true), c.requires.1)

pub returns-then-not-none_full_at : goal.returns-then-not-none_full_at
returns-then-not-none_full_at c =
    let a = c.args in
    let f = c.none_full_at in
    let w : c.loop-d.d < length (rule_of a.form.now a.i).head = omega (arith, c.disjunct_count-count.ensures, c.loop-d-test.true) in
    sym (rule_some a.form.now a.i c.requires.0.there (ground_in a.left a.terms.now) c.loop-d.d w (sym f.ensures ∙ c.if-not-none_full_at.true))

pub loop-d-preserved : goal.loop-d-preserved
loop-d-preserved c =
    let a = c.args in
    let f = c.none_full_at in
    let g = ground_in a.left a.terms.now in
    below_more (λ (x : ℕ). all (none_full_of g) (functions_of (numbered_of a.form.now a.i x)) ≡ true) c.loop-d.d c.loop-d.invariant (sym f.ensures ∙ c.if-not-none_full_at.false)

pub returns : goal.returns
returns c =
    let a = c.args in
    sym (rule_none a.form.now a.i c.requires.0.there (ground_in a.left a.terms.now)
    (λ x h. c.loop-d.invariant x (omega (arith, c.disjunct_count-count.ensures, c.loop-d-test.false))))

-- `stage_output::full::none_full_behind` meets its contract. The loop's invariant: no term is full for one of the first `k` functions.
-- Assumes nothing.
use mathlib.Core.Path.{◌≡◌, sym, ap, ◌∙◌}
use mathlib.Core.Bool.{true}
use Prim.Native.Nat.{ℕ, suc, ◌+◌}
use native.Mathlib.Omega.{arith}
use borrow.Author.Count.{below_more}
use Rattle.laws_skipping.specs.Full.{none_full_of}
use Rattle.stage_output.specs.Cyclic.{ground_in}
use Rattle.stage_output.proofs.FullTerms.{all_numbers, not_numbers}
use Rattle.stage_output.proofs.full.none_full_behind.Goals as goal

pub loop-k-init : goal.loop-k-init
loop-k-init c = λ x l. absurd (omega arith)

pub returns-then-not-none_full_of : goal.returns-then-not-none_full_of
returns-then-not-none_full_of c =
    let a = c.args in
    let r = c.none_full_of in
    let e : suc a.before + c.loop-k.k ≡ a.before + 1 + c.loop-k.k = omega arith in
    let p = none_full_of (ground_in a.left a.terms.now) in
    sym (not_numbers p (suc a.before) a.count c.loop-k.k c.loop-k-test.true (ap p e ∙ sym r.ensures ∙ c.if-not-none_full_of.true))

pub loop-k-preserved : goal.loop-k-preserved
loop-k-preserved c =
    let a = c.args in
    let r = c.none_full_of in
    let e : suc a.before + c.loop-k.k ≡ a.before + 1 + c.loop-k.k = omega arith in
    let p = none_full_of (ground_in a.left a.terms.now) in
    below_more (λ (x : ℕ). p (suc a.before + x) ≡ true) c.loop-k.k c.loop-k.invariant (ap p e ∙ sym r.ensures ∙ c.if-not-none_full_of.false)

pub returns : goal.returns
returns c =
    let a = c.args in
    sym (all_numbers (none_full_of (ground_in a.left a.terms.now)) (suc a.before) a.count (λ x h. c.loop-k.invariant x (omega arith)))

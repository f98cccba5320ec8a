-- `test_support::bytes::is_right` meets its contract: a refusal leaves nothing in front of the marks. Assumes nothing.
use mathlib.Core.Path.{sym, subst}
use mathlib.Core.List.{List}
use Prim.Native.Nat.{ℕ}
use lib.ListN.{get_or}
use Rattle.test_support.specs.Same.{Decides}
use Rattle.test_support.proofs.Same.{front_done, front_refused}
use Rattle.test_support.proofs.bytes.is_right.Goals as goal

pub returns-then-refusal-eq0 : goal.returns-then-refusal-eq0
returns-then-refusal-eq0 c =
    let a = c.args in
    subst (λ (ys : List ℕ). Decides c.is_front.result a.list.now (λ k. get_or ys k 238)) (sym (front_done a.refusal c.if-refusal-eq0.true a.bytes.now)) c.is_front.ensures

pub returns : goal.returns
returns c =
    let a = c.args in
    subst (λ (ys : List ℕ). Decides c.is_front-2.result a.list.now (λ k. get_or ys k 238)) (sym (front_refused a.refusal c.if-refusal-eq0.false a.bytes.now)) c.is_front-2.ensures

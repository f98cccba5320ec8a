-- Rules in question are gone through one after the other: those between have no large trigger. Assumes nothing.
use mathlib.Core.Path.{◌≡◌, sym, ap, ◌∙◌, subst}
use mathlib.Core.Bool.{Bool, true, false, not}
use mathlib.Core.List.{List, []}
use Prim.Native.Nat.{ℕ, zero, suc, ◌+◌, ◌≤◌, ◌<◌}
use native.Mathlib.Omega.{arith}
use native.Mathlib.Decide.{ℕ_discrete}
use native.Mathlib.Numerals.{add-one}
use lib.ListN.{length, get_or, drop}
use Rattle.model.specs.Lists.{any}
use Rattle.model.specs.Rules.{blockable}
use Rattle.laws.proofs.Bools.{and_true}
use Rattle.form.specs.Places.{rules_of, rule_of}
use Rattle.form.proofs.Lists.{any_passed}
use Rattle.stage_large.specs.Idle.{idle}
use Rattle.stage_large.specs.Large.{HandledSmall, NextInQuestion}
use Rattle.stage_large.specs.Stage.{Tabled, tables, stage_at}
use Rattle.stage_large.specs.declared.counts.Counts.{Counts}
use Rattle.stage_large.proofs.Sizes.{large_rule}
use Rattle.stage_large.proofs.Oversize.{no_question}

-- what holds from one number on holds for one more
pub one_more : (P : ℕ → Type 0) (from i : ℕ) → ((k : ℕ) → from ≤ k → k < i → P k) → P i → (k : ℕ) → from ≤ k → k < i + 1 → P k
one_more P from i before here k a b = go (ℕ_discrete k i)
  where
    go : Dec (k ≡ i) → P k
    go (yes e) = subst P (sym e) here
    go (no e) = before k a (omega arith)

-- a search passes over what fails the test
any_skipped : {A : Type 0} (p : A → Bool) (xs : List A) (d : A) (i j : ℕ) → i ≤ j → j ≤ length xs → ((k : ℕ) → i ≤ k → k < j → p (get_or xs k d) ≡ false)
    → any p (drop i xs) ≡ any p (drop j xs)
any_skipped p xs d i zero a b h = let e : i ≡ 0 = omega arith in ap (λ (k : ℕ). any p (drop k xs)) e
any_skipped p xs d i (suc j) a b h = go (λ c. any_skipped p xs d i j c (omega arith) (λ k e l. h k e (omega arith))) (ℕ_discrete i (suc j))
  where
    go : (i ≤ j → any p (drop i xs) ≡ any p (drop j xs)) → Dec (i ≡ suc j) → any p (drop i xs) ≡ any p (drop (suc j) xs)
    go before (yes e) = ap (λ (k : ℕ). any p (drop k xs)) e
    go before (no e) =
        before (omega arith)
        ∙ any_passed p xs j d (omega arith) (h j (omega arith) (omega arith))
        ∙ ap (λ (k : ℕ). any p (drop k xs)) (add-one j)

module _ {form facts : List ℕ} {n : Counts} {from i : ℕ} (next : NextInQuestion form facts n from i) where
  pub next_blockable : i < length (rules_of form) → blockable (rule_of form i) ≡ true
  next_blockable h = (and_true (blockable (rule_of form i)) (not (idle (rule_of form i) facts n.facts n.old)) (next.found h)).0

  -- the rules from the next one in question on decide
  pub next_decides : (terms : List ℕ) → Tabled form terms n.terms facts n.facts → HandledSmall form (stage_at terms facts n)
      → any (large_rule (tables terms n.terms facts n.facts)) (drop from (rules_of form)) ≡ any (large_rule (tables terms n.terms facts n.facts)) (drop i (rules_of form))
  unfolding rule_of
  next_decides terms h t =
      any_skipped (large_rule (tables terms n.terms facts n.facts)) (rules_of form) (record { body = []; head = [] }) from i next.onward next.within
      (λ k a b. no_question form terms n.terms facts n.facts n.old n.depth h t k (let w = next.within in omega arith) (next.passed k a b))

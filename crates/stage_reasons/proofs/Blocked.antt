-- A trigger that is blocked with ⋆ outside the variables of a disjunct, or outside the frontier. Assumes nothing.
use mathlib.Core.Path.{◌≡◌, refl, ap, ◌∙◌}
use mathlib.Core.Bool.{true, false}
use mathlib.Core.List.{List}
use Prim.Native.Nat.{ℕ}
use Rattle.model.specs.Lists.{all}
use Rattle.model.specs.Rules.{Rule, frontier, existential_free, entries}
use Rattle.model.specs.Form.{decoded}
use Rattle.laws.proofs.Bools.{not_both}
use Rattle.laws.proofs.Lists.{all_mem, mem_member}
use Rattle.rows.specs.Test.{Outcome, over, blocked, free, test}
use Rattle.form.specs.Places.{rule_of}
use Rattle.form_functions.specs.Functions.{entry_of}
use Rattle.form_variables.specs.Sets.{set_of, has}
use Rattle.form_variables.proofs.Sets.{has_set_of}
use Rattle.blocking.specs.Start.{chosen_terms}
use Rattle.stage_reasons.specs.Starred.{starred}
use Rattle.stage_reasons.specs.Reason.{is_blocked, BlockedFor}

says_blocked : (o : Outcome) → is_blocked o ≡ true → o ≡ blocked
unfolding is_blocked
says_blocked over e = not_both false e refl
says_blocked blocked e = refl
says_blocked free e = not_both false e refl

module _ (form : List ℕ) (i : ℕ) (terms : List (List ℕ)) (trigger : List ℕ) (set : ℕ)
    (e : is_blocked (test (entries (decoded form)) (entry_of form i) terms (chosen_terms form i (starred set trigger))) ≡ true) where
  abbrev r : Rule
  r = rule_of form i

  abbrev answer : Outcome
  answer = test (entries (decoded form)) (entry_of form i) terms (chosen_terms form i (starred set trigger))

  -- of a rule without existential variables any set speaks
  pub free_blocked : all (existential_free (rule_of form i)) (rule_of form i).head ≡ true → BlockedFor form i terms trigger set
  free_blocked h =
      record { enough = λ d m f. not_both (existential_free r d) (all_mem (existential_free r) h m) f; starred_blocked = says_blocked answer e }

  -- and of any rule the frontier
  pub frontier_blocked : set ≡ set_of (frontier (rule_of form i)) → BlockedFor form i terms trigger set
  frontier_blocked q =
      record { enough = λ d m f v k. ap (λ (x : ℕ). has x v) q ∙ has_set_of (frontier r) v ∙ mem_member k; starred_blocked = says_blocked answer e }

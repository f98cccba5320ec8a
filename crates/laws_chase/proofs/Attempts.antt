-- Laws of one attempt: it is a step exactly where the rule set has its rule and disjunct and the trigger is applicable, and otherwise changes
-- nothing; a step adds a fact at least. Assumes nothing.
use mathlib.Core.Path.{◌≡◌, refl, ap}
use mathlib.Core.Bool.{true, false, ◌||◌, not}
use mathlib.Core.Logic.{◌⊎◌, inl, inr}
use mathlib.Core.List.{List, [], ◌∷◌, Memᴰ}
use Prim.Native.Nat.{ℕ, zero, suc, ◌≤◌}
use native.Mathlib.Omega.{arith}
use native.Mathlib.Decide.{ℕ_discrete}
use lib.ListN.{length, get_or, drop, drop_of_length-le}
use borrow.Author.Tests.{not-true}
use Rattle.model.specs.Lists.{all, extend}
use Rattle.model.specs.Term.{Term, star}
use Rattle.model.specs.Rules.{Atom, RuleSet, Disjunct, Entry, entries, datalog}
use Rattle.model.specs.Triggers.{same_fact, present, instantiate, head_facts}
use Rattle.model.specs.Chase.{Attempt, State, satisfied, fits, datalog_done, applicable, add_disjunct, try_entry, attempt}
use Rattle.laws.proofs.Bools.{case, not_both, and_true}
use Rattle.laws.proofs.Lists.{any_false, all_mem, mem_all, extend_length, extend_same_length}
use Rattle.laws.proofs.Facts.{same_fact_decides, present_mem, mem_present}
use Rattle.laws.proofs.Triggers.{Loaded}
use Rattle.laws.proofs.Rules.{length_entries_from, length_disjuncts}

module _ {ℓ} {A : Type ℓ} where
  -- the element at n: the first of what is left after n
  pub drop_mem : (n : ℕ) {x : A} (xs : List A) {ys : List A} → drop n xs ≡ x ∷ ys → Memᴰ x xs
  drop_mem zero {x} xs {ys} e = rw e (Memᴰ.head refl)
  drop_mem (suc n) [] e = absurd (omega (arith, ap length e))
  drop_mem (suc n) (x ∷ xs) e = Memᴰ.tail (drop_mem n xs e)

-- the substitution of an attempt
abbrev pub given : Attempt → ℕ → Term
given a v = get_or a.terms v star

-- what makes an attempt a step: the rule set has its rule, the rule its disjunct, and the trigger is applicable
pub record Applies (b : RuleSet) (a : Attempt) (s : State) (e : Entry) (d : Disjunct) : Type 0 where
  pub rule : (es : List Entry) × (drop a.rule (entries b) ≡ e ∷ es)
  pub disjunct : (ds : List Disjunct) × (drop a.disjunct e.disjuncts ≡ d ∷ ds)
  pub trigger : applicable (entries b) s.facts e (given a) ≡ true

-- the state after a step
unfoldable pub stepped : State → (ℕ → Term) → Disjunct → State
stepped s σ d = record { facts = extend same_fact s.facts (head_facts σ d); steps = suc s.steps }

pub attempt_steps : (b : RuleSet) (a : Attempt) (s : State) {e : Entry} {d : Disjunct} → Applies b a s e d → attempt b a s ≡ stepped s (given a) d
unfolding attempt try_entry add_disjunct stepped
attempt_steps b a s h = let (es, i) = h.rule in let (ds, j) = h.disjunct in rw (i, try_entry, h.trigger, try_entry, j, add_disjunct)

attempt_no_rule : (b : RuleSet) (a : Attempt) (s : State) → drop a.rule (entries b) ≡ [] → attempt b a s ≡ s
unfolding attempt try_entry
attempt_no_rule b a s i = rw (i, try_entry)

attempt_inapplicable : (b : RuleSet) (a : Attempt) (s : State) (e : Entry) (es : List Entry) → drop a.rule (entries b) ≡ e ∷ es
    → applicable (entries b) s.facts e (given a) ≡ false → attempt b a s ≡ s
unfolding attempt try_entry
attempt_inapplicable b a s e es i h = rw (i, try_entry, h, try_entry)

attempt_no_disjunct : (b : RuleSet) (a : Attempt) (s : State) (e : Entry) (es : List Entry) → drop a.rule (entries b) ≡ e ∷ es
    → applicable (entries b) s.facts e (given a) ≡ true → drop a.disjunct e.disjuncts ≡ [] → attempt b a s ≡ s
unfolding attempt try_entry add_disjunct
attempt_no_disjunct b a s e es i h j = rw (i, try_entry, h, try_entry, j, add_disjunct)

abbrev Cases : RuleSet → Attempt → State → Type 0
Cases b a s = ((e : Entry) × (d : Disjunct) × Applies b a s e d) ⊎ (attempt b a s ≡ s)

cases_of_disjunct : (b : RuleSet) (a : Attempt) (s : State) (e : Entry) (es : List Entry) → drop a.rule (entries b) ≡ e ∷ es
    → applicable (entries b) s.facts e (given a) ≡ true → (ds : List Disjunct) → drop a.disjunct e.disjuncts ≡ ds → Cases b a s
cases_of_disjunct b a s e es i h [] j = inr (attempt_no_disjunct b a s e es i h j)
cases_of_disjunct b a s e es i h (d ∷ ds) j = inl (e, d, record { rule = (es, i); disjunct = (ds, j); trigger = h })

cases_of_rule : (b : RuleSet) (a : Attempt) (s : State) (es : List Entry) → drop a.rule (entries b) ≡ es → Cases b a s
cases_of_rule b a s [] i = inr (attempt_no_rule b a s i)
cases_of_rule b a s (e ∷ es) i = go (case (applicable (entries b) s.facts e (given a)))
  where
    go : (applicable (entries b) s.facts e (given a) ≡ true) ⊎ (applicable (entries b) s.facts e (given a) ≡ false) → Cases b a s
    go (inl h) = cases_of_disjunct b a s e es i h (drop a.disjunct e.disjuncts) refl
    go (inr h) = inr (attempt_inapplicable b a s e es i h)

-- an attempt is a step, or leaves the state as it was
pub attempt_cases : (b : RuleSet) (a : Attempt) (s : State) → ((e : Entry) × (d : Disjunct) × Applies b a s e d) ⊎ (attempt b a s ≡ s)
attempt_cases b a s = cases_of_rule b a s (drop a.rule (entries b)) refl

-- an attempt that is turned away changes neither set nor count
pub attempt_turned_away : (b : RuleSet) (a : Attempt) (s : State) → ((e : Entry) (d : Disjunct) → Applies b a s e d → ⊥) → attempt b a s ≡ s
attempt_turned_away b a s n = go (attempt_cases b a s)
  where
    go : Cases b a s → attempt b a s ≡ s
    go (inl (e, d, h)) = absurd (n e d h)
    go (inr k) = k

-- numbers out of range name nothing

pub entries_length : (b : RuleSet) → length (entries b) ≡ length b.rules
unfolding entries
entries_length b = length_entries_from 0 b.rules

pub attempt_rule_out_of_range : (b : RuleSet) (a : Attempt) (s : State) → length b.rules ≤ a.rule → attempt b a s ≡ s
attempt_rule_out_of_range b a s h = attempt_no_rule b a s (drop_of_length-le (entries b) {i = a.rule} (rw (entries_length b) h))

pub attempt_disjunct_out_of_range : (b : RuleSet) (a : Attempt) (s : State) {e : Entry} {es : List Entry} → drop a.rule (entries b) ≡ e ∷ es
    → length e.rule.head ≤ a.disjunct → attempt b a s ≡ s
attempt_disjunct_out_of_range b a s {e} {es} i h = go (case (applicable (entries b) s.facts e (given a)))
  where
    short : length e.disjuncts ≤ a.disjunct
    short = rw (length_disjuncts b (drop_mem a.rule (entries b) i)) h

    go : (applicable (entries b) s.facts e (given a) ≡ true) ⊎ (applicable (entries b) s.facts e (given a) ≡ false) → attempt b a s ≡ s
    go (inl k) = attempt_no_disjunct b a s e es i k (drop_of_length-le e.disjuncts {i = a.disjunct} short)
    go (inr k) = attempt_inapplicable b a s e es i k

-- what a step is known by

module _ {b : RuleSet} {a : Attempt} {s : State} {e : Entry} {d : Disjunct} (h : Applies b a s e d) where
  pub applies_entry : Memᴰ e (entries b)
  applies_entry = let (es, i) = h.rule in drop_mem a.rule (entries b) i

  pub applies_disjunct : Memᴰ d e.disjuncts
  applies_disjunct = let (ds, i) = h.disjunct in drop_mem a.disjunct e.disjuncts i

  applies_fits : fits s.facts e (given a) ≡ true
  unfolding applicable
  applies_fits = (and_true (fits s.facts e (given a)) (datalog e.rule || datalog_done (entries b) s.facts) h.trigger).0

  -- the terms are a trigger
  pub applies_loaded : Loaded e.rule s.facts (given a)
  unfolding fits
  applies_loaded x m =
      present_mem s.facts (instantiate (given a) x)
      (all_mem (λ (x : Atom). present s.facts (instantiate (given a) x))
      (and_true (all (λ (x : Atom). present s.facts (instantiate (given a) x)) e.rule.body) (not (satisfied s.facts (given a) e.disjuncts))
      applies_fits).0
      m)

  -- no disjunct is wholly present
  pub applies_unsatisfied : satisfied s.facts (given a) e.disjuncts ≡ false
  unfolding fits
  applies_unsatisfied =
      not-true (satisfied s.facts (given a) e.disjuncts)
      (and_true (all (λ (x : Atom). present s.facts (instantiate (given a) x)) e.rule.body) (not (satisfied s.facts (given a) e.disjuncts))
      applies_fits).1

  -- a step adds a fact at least
  pub step_adds : suc (length s.facts) ≤ length (extend same_fact s.facts (head_facts (given a) d))
  unfolding satisfied
  step_adds = go (ℕ_discrete (length (extend same_fact s.facts (head_facts (given a) d))) (length s.facts))
    where
      go : Dec (length (extend same_fact s.facts (head_facts (given a) d)) ≡ length s.facts)
          → suc (length s.facts) ≤ length (extend same_fact s.facts (head_facts (given a) d))
      go (yes k) =
          not_both (all (present s.facts) (head_facts (given a) d))
          (mem_all (present s.facts) (head_facts (given a) d)
          (λ f m. mem_present (extend_same_length same_fact same_fact_decides s.facts (head_facts (given a) d) k f m)))
          (any_false (λ (d : Disjunct). all (present s.facts) (head_facts (given a) d)) applies_unsatisfied applies_disjunct)
      go (no k) = let i = extend_length same_fact s.facts (head_facts (given a) d) in omega arith

-- What every filling keeps: its facts are distinct and built from the instance's constants, and each step has added a fact. Hence the bound on
-- the steps where a list has the facts' starred images. Assumes nothing.
use mathlib.Core.Path.{◌≡◌, refl, sym, subst}
use mathlib.Core.Bool.{true, false, not}
use mathlib.Core.Logic.{◌⊎◌, inl, inr, ⊎_elim}
use mathlib.Core.List.Memᴰ
use mathlib.Core.List.{List, [], ◌∷◌, map, Memᴰ}
use Prim.Native.Nat.{ℕ, ◌+◌, ◌≤◌}
use native.Mathlib.Omega.{arith}
use lib.ListN.{length}
use Rattle.model.specs.Lists.{keep, extend}
use Rattle.model.specs.Term.{Term, constant, fixed, same, is_fixed, terms}
use Rattle.model.specs.Rules.{Rule, RuleSet, Disjunct, Entry, in_body, frontier}
use Rattle.model.specs.Triggers.{Fact, same_fact, terms_of, head_term, head_facts}
use Rattle.model.specs.Chase.{Attempt, State, attempt, chase, initial}
use Rattle.model.specs.Demand.{starred_fact, constants, bound, Constants, none, more, known, Over}
use Rattle.laws.specs.Lists.{Distinct, none as Distinct-none}
use Rattle.laws.proofs.Bools.{case}
use Rattle.laws.proofs.Lists.{map_mem, mem_keep, extend_distinct, extend_mem, extend_right, extend_left}
use Rattle.laws.proofs.Terms.{same_decides}
use Rattle.laws.proofs.Facts.{same_fact_decides, mem_terms_of, terms_of_mem}
use Rattle.laws.proofs.Rules.{entries_mem, frontier_mem, universal_mem}
use Rattle.laws.proofs.Triggers.{Loaded, Value, loaded_value, instantiate_mem, head_term_universal, head_term_existential, head_facts_mem}
use Rattle.laws_chase.proofs.Instances.{Built, leaf, known as built-known, node, BuiltAll, end, next, BuiltFact, facts_bounded}
use Rattle.laws_chase.proofs.Attempts.{given, Applies, stepped, attempt_cases, attempt_steps, applies_entry, applies_disjunct, applies_loaded, step_adds}

-- the facts of a disjunct are built from what the trigger's terms are built from

built_terms : {cs : List Term} (ts : List Term) → ((t : Term) → Memᴰ t ts → Built cs t) → BuiltAll cs (terms ts)
unfolding terms
built_terms [] h = end
built_terms (t ∷ ts) h = next (h t (Memᴰ.head refl)) (built_terms ts (λ s m. h s (Memᴰ.tail m)))

-- each variable of the body stands in a body atom, so its term is an argument of a fact
built_variable : {cs : List Term} {fs : List Fact} (r : Rule) (σ : ℕ → Term) → Loaded r fs σ → ((f : Fact) → Memᴰ f fs → BuiltFact cs f) → (v : ℕ)
    → in_body r v ≡ true → Built cs (σ v)
built_variable {fs = fs} r σ l h v e = let (f, m, k) = terms_of_mem fs (loaded_value r fs σ l e) in h f m (σ v) k

built_head_term : {cs : List Term} (d : Disjunct) (σ : ℕ → Term) → ((v : ℕ) → in_body d.rule v ≡ true → Built cs (σ v)) → (v : ℕ) → Built cs (head_term d σ v)
built_head_term {cs} d σ h v = go (case (in_body d.rule v))
  where
    argument : (t : Term) → Memᴰ t (map σ (frontier d.rule)) → Built cs t
    argument t m =
        let (u, k, e) = map_mem σ (frontier d.rule) m in
        rw e (h u (universal_mem d.rule (frontier_mem d.rule k)))

    go : (in_body d.rule v ≡ true) ⊎ (in_body d.rule v ≡ false) → Built cs (head_term d σ v)
    go (inl e) = rw (head_term_universal d σ v e) (h v e)
    go (inr e) = rw (head_term_existential d σ v e) (node (built_terms (map σ (frontier d.rule)) argument))

built_head_facts : {cs : List Term} (d : Disjunct) (σ : ℕ → Term) → ((v : ℕ) → in_body d.rule v ≡ true → Built cs (σ v)) → (f : Fact) → Memᴰ f (head_facts σ d)
    → BuiltFact cs f
built_head_facts {cs} d σ h f m t k =
    let (a, i, e) = head_facts_mem σ d m in
    go (instantiate_mem (head_term d σ) a {s = t} (subst (λ (g : Fact). Memᴰ t g.arguments) e k))
  where
    go : {vs : List ℕ} → Value vs (head_term d σ) t → Built cs t
    go (inl (v, _, _, q)) = rw q (built_head_term d σ h v)
    go (inr (v, _, _, q)) = rw q built-known

-- what every filling keeps; n is how many facts it started from
pub record Kept (cs : List Term) (n : ℕ) (s : State) : Type 0 where
  pub distinct : Distinct s.facts
  pub built : (f : Fact) → Memᴰ f s.facts → BuiltFact cs f
  pub counted : s.steps + n ≤ length s.facts

step_kept : {cs : List Term} {n : ℕ} (b : RuleSet) (a : Attempt) (s : State) {e : Entry} {d : Disjunct} → Applies b a s e d → Kept cs n s → Kept cs n (stepped s (given a) d)
unfolding stepped
step_kept {cs} b a s {e} {d} h k =
    record {
      distinct = extend_distinct same_fact same_fact_decides (head_facts (given a) d) k.distinct;
      built = λ f m.
          ⊎_elim (λ (i : Memᴰ f s.facts). k.built f i) (λ (i : Memᴰ f (head_facts (given a) d)). built_head_facts d (given a) variable f i)
          (extend_mem same_fact s.facts (head_facts (given a) d) m);
      counted = let i = step_adds h in let j = k.counted in omega arith;
    }
  where
    variable : (v : ℕ) → in_body d.rule v ≡ true → Built cs (given a v)
    variable v i =
        let q : d.rule ≡ e.rule = ((entries_mem b (applies_entry h)).disjuncts d (applies_disjunct h)).0 in
        built_variable e.rule (given a) (applies_loaded h) k.built v (subst (λ (r : Rule). in_body r v ≡ true) q i)

pub attempt_kept : {cs : List Term} {n : ℕ} (b : RuleSet) (a : Attempt) (s : State) → Kept cs n s → Kept cs n (attempt b a s)
attempt_kept {cs} {n} b a s k = go (attempt_cases b a s)
  where
    go : ((e : Entry) × (d : Disjunct) × Applies b a s e d) ⊎ (attempt b a s ≡ s) → Kept cs n (attempt b a s)
    go (inl (e, d, h)) = rw (attempt_steps b a s h) (step_kept b a s h k)
    go (inr i) = rw i k

pub chase_kept : {cs : List Term} {n : ℕ} (b : RuleSet) (as' : List Attempt) (s : State) → Kept cs n s → Kept cs n (chase b as' s)
unfolding chase
chase_kept b [] s k = k
chase_kept b (a ∷ as') s k = chase_kept b as' (attempt b a s) (attempt_kept b a s k)

-- facts only become more

pub attempt_grows : (b : RuleSet) (a : Attempt) (s : State) {f : Fact} → Memᴰ f s.facts → Memᴰ f (attempt b a s).facts
unfolding stepped
attempt_grows b a s {f} m = go (attempt_cases b a s)
  where
    go : ((e : Entry) × (d : Disjunct) × Applies b a s e d) ⊎ (attempt b a s ≡ s) → Memᴰ f (attempt b a s).facts
    go (inl (e, d, h)) =
        subst (λ (x : State). Memᴰ f x.facts) (sym (attempt_steps b a s h)) (extend_left same_fact (head_facts (given a) d) m)
    go (inr i) = subst (λ (x : State). Memᴰ f x.facts) (sym i) m

pub chase_grows : (b : RuleSet) (as' : List Attempt) (s : State) {f : Fact} → Memᴰ f s.facts → Memᴰ f (chase b as' s).facts
unfolding chase
chase_grows b [] s m = m
chase_grows b (a ∷ as') s m = chase_grows b as' (attempt b a s) (attempt_grows b a s m)

-- the different constants of an instance that rules do not name
unfoldable pub constants_of : List Fact → List Term
constants_of fs = extend same [] (keep (λ (t : Term). not (is_fixed t)) (terms_of fs))

pub constants_of_length : (fs : List Fact) → length (constants_of fs) ≡ constants fs
unfolding constants_of constants
constants_of_length fs = refl

built_constants : {n : ℕ} {cs : List Term} {ts : List Term} → Constants n ts → ((c : ℕ) → Memᴰ (constant c) ts → Memᴰ (constant c) cs) → (t : Term)
    → Memᴰ t ts → Built cs t
built_constants none h t m = absurd (Memᴰ.not-nil m)
built_constants {cs = cs} (more {c = c} {ts = ts} k) h t m =
    ⊎_elim (λ (e : t ≡ constant c). subst (λ (x : Term). Built cs x) (sym e) (leaf (h c (Memᴰ.head refl))))
    (λ (i : Memᴰ t ts). built_constants k (λ s j. h s (Memᴰ.tail j)) t i) (Memᴰ.cases_cons m)
built_constants {cs = cs} (known {c = c} {ts = ts} l k) h t m =
    ⊎_elim (λ (e : t ≡ fixed c). subst (λ (x : Term). Built cs x) (sym e) built-known)
    (λ (i : Memᴰ t ts). built_constants k (λ s j. h s (Memᴰ.tail j)) t i) (Memᴰ.cases_cons m)

-- the facts of an instance are built from its constants
built_instance : (b : RuleSet) (fs : List Fact) → ((f : Fact) → Memᴰ f fs → Over b f) → (f : Fact) → Memᴰ f fs → BuiltFact (constants_of fs) f
unfolding constants_of is_fixed
built_instance b fs over f m =
    built_constants (over f m).constant
    (λ c k. extend_right same same_decides [] (mem_keep (λ (t : Term). not (is_fixed t)) (mem_terms_of m k) refl))

pub initial_kept : (b : RuleSet) (fs : List Fact) → ((f : Fact) → Memᴰ f fs → Over b f) → Kept (constants_of fs) (length (initial fs).facts) (initial fs)
unfolding initial
initial_kept b fs over =
    record {
      distinct = extend_distinct same_fact same_fact_decides fs Distinct-none;
      built = λ f m.
          built_instance b fs over f
          (⊎_elim (λ (i : Memᴰ f []). absurd (Memᴰ.not-nil i)) (λ (i : Memᴰ f fs). i) (extend_mem same_fact [] fs m));
      counted = omega arith;
    }

-- The steps and the facts at the start are at most as many as the facts at the end.
pub steps_counted : (b : RuleSet) (instance' : List Fact) → ((f : Fact) → Memᴰ f instance' → Over b f) → (attempts : List Attempt)
    → (chase b attempts (initial instance')).steps + length (initial instance').facts ≤ length (chase b attempts (initial instance')).facts
steps_counted b instance' over attempts = (chase_kept b attempts (initial instance') (initial_kept b instance' over)).counted

-- The bound of demand 3: where a list has the starred image of every fact, the steps are at most the sum of n to the power k over it.
pub steps_bounded : (b : RuleSet) (listed instance' : List Fact) → ((f : Fact) → Memᴰ f instance' → Over b f) → (attempts : List Attempt)
    → ((f : Fact) → Memᴰ f (chase b attempts (initial instance')).facts → Memᴰ (starred_fact f) listed)
    → (chase b attempts (initial instance')).steps ≤ bound (constants instance') listed
steps_bounded b listed instance' over attempts covered =
    let k = chase_kept b attempts (initial instance') (initial_kept b instance' over) in
    let i = k.counted in
    let j = facts_bounded (constants_of instance') listed k.distinct k.built covered in
    rw (← constants_of_length instance') (omega arith)

-- Every fact of a filled set, with ⋆ for each constant, is in a list that has the critical instance and the outputs of its triggers that are not
-- blocked (004, Lemma 51): each step's image is the output of such a trigger. Assumes nothing.
use mathlib.Core.Path.{◌≡◌, refl, sym, ap, ◌∙◌, subst}
use mathlib.Core.Bool.{true, false, ◌||◌}
use mathlib.Core.Logic.{◌⊎◌, inl, inr, ⊎_elim}
use mathlib.Core.List.Memᴰ
use mathlib.Core.List.{List, [], ◌∷◌, map, Memᴰ, map-map}
use Prim.Native.Nat.{ℕ}
use native.Mathlib.Nat.{zero-add}
use lib.Dec.{ltb}
use lib.ListN.{length-map}
use Rattle.model.specs.Lists.{any, extend}
use Rattle.model.specs.Term.{Term, star, fixed, starred, cyclic}
use Rattle.model.specs.Rules.{Rule, RuleSet, Disjunct, Entry, entries, in_body, universal, datalog}
use Rattle.model.specs.WellFormed.{WellFormed}
use Rattle.model.specs.Triggers.{Fact, same_fact, assign, instantiate, head_facts, output}
use Rattle.model.specs.Blocking.{blocked}
use Rattle.model.specs.Stages.{leaves, critical}
use Rattle.model.specs.Published.{Substitution, Blocked}
use Rattle.model.specs.Chase.{Attempt, State, satisfied, fits, datalog_done, applicable, attempt, chase, initial}
use Rattle.model.specs.Demand.{starred_fact, Constants, none, more, known, Over}
use Rattle.laws.proofs.Bools.{not_both, and_true, or_true, is_false}
use Rattle.laws.proofs.Lists.{mem_collect, extend_mem}
use Rattle.laws.proofs.Facts.{fact_path}
use Rattle.laws.proofs.Rules.{entries_mem}
use Rattle.laws.proofs.Triggers.{Loaded, Agree, head_facts_agree, mem_output}
use Rattle.laws.proofs.WellFormed.{entry_well_formed}
use Rattle.laws_stages.proofs.Tuples.{star_leaf, fixed_leaf}
use Rattle.laws_stages.proofs.Arities.{mem_critical}
use Rattle.laws_published.proofs.Blocked.{blocks_not_datalog, blocked_sound}
use Rattle.laws_chase.proofs.Attempts.{Applies, given, stepped, attempt_steps, attempt_cases, applies_entry, applies_disjunct, applies_loaded, applies_unsatisfied}
use Rattle.laws_demand.proofs.Maps.{map_instantiate, mem_map_head_facts}
use Rattle.laws_demand.proofs.Starred.{starred_commutes, starred_fact_map, any_cyclic_starred, blocked_starred}
use Rattle.laws_demand.proofs.Loaded.{assign_agree, loaded_agree}
use Rattle.laws_demand.proofs.Origins.{Explained, explained_start, explained_step}
use Rattle.laws_demand.proofs.TestSet.{blocked_satisfied}

-- a list that no stage adds to
pub record Saturated (b : RuleSet) (listed : List Fact) : Type 0 where
  pub critical : (f : Fact) → Memᴰ f (critical (leaves b) 0 b.arities) → Memᴰ f listed
  pub outputs : (e : Entry) (m : List Term) → Memᴰ e (entries b) → Substitution e.rule m → Loaded e.rule listed (assign (universal e.rule) m)
      → blocked (entries b) e m ≡ false → (f : Fact) → Memᴰ f (output (assign (universal e.rule) m) e.disjuncts) → Memᴰ f listed

-- what holds of every set that a filling reaches
pub record Followed (b : RuleSet) (listed : List Fact) (fs : List Fact) : Type 0 where
  pub explained : Explained b fs
  pub covered : (f : Fact) → Memᴰ f fs → Memᴰ (starred_fact f) listed

-- 004, Theorem 49: a step's trigger is not blocked
pub step_free : {b : RuleSet} → WellFormed b → {a : Attempt} {s : State} {e : Entry} {d : Disjunct} → Applies b a s e d → Explained b s.facts
    → blocked (entries b) e (map (given a) (universal e.rule)) ≡ false
unfolding applicable
step_free {b} w {a} {s} {e} h x = is_false (blocked (entries b) e (map (given a) (universal e.rule))) (λ k. stuck (blocked_sound b e (map (given a) (universal e.rule)) (length-map (universal e.rule) (given a)) k))
  where
    stuck : Blocked b e (map (given a) (universal e.rule)) → ⊥
    stuck k =
        ⊎_elim (λ (i : datalog e.rule ≡ true). not_both (datalog e.rule) i (blocks_not_datalog (ltb 2 b.version) e.rule k.2.0))
        (λ (i : datalog_done (entries b) s.facts ≡ true).
        not_both (satisfied s.facts (given a) e.disjuncts) (blocked_satisfied w x i (applies_entry h) (given a) (applies_loaded h) k) (applies_unsatisfied h))
        (or_true (datalog e.rule) (datalog_done (entries b) s.facts)
        (and_true (fits s.facts e (given a)) (datalog e.rule || datalog_done (entries b) s.facts) h.trigger).1)

-- the facts of a trigger that is loaded and not blocked, with ⋆ for each constant, are listed
pub output_covered : {b : RuleSet} → WellFormed b → {listed : List Fact} → Saturated b listed → {fs : List Fact}
    → ((f : Fact) → Memᴰ f fs → Memᴰ (starred_fact f) listed) → {e : Entry} → Memᴰ e (entries b) → (σ : ℕ → Term) → Loaded e.rule fs σ
    → blocked (entries b) e (map σ (universal e.rule)) ≡ false → {d : Disjunct} → Memᴰ d e.disjuncts → {f : Fact} → Memᴰ f (head_facts σ d)
    → Memᴰ (starred_fact f) listed
output_covered {b} w {listed} s {fs} c {e} m σ l free {d} i {f} k =
    let r : Rule = e.rule in
    let g = entry_well_formed w m in
    let τ : ℕ → Term = λ v. starred (σ v) in
    let ρ : ℕ → Term = assign (universal r) (map τ (universal r)) in
    let image : Loaded r listed τ = λ a n. Memᴰ.cast (sym (starred_fact_map (instantiate σ a) ∙ map_instantiate starred starred_commutes σ a)) (c (instantiate σ a) (l a n)) in
    let agree : Agree d.rule τ ρ =
    λ v n. sym (assign_agree g τ v (subst (λ (x : Rule). in_body x v ≡ true) ((entries_mem b m).disjuncts d i).0 n)) in
    s.outputs e (map τ (universal r)) m (length-map (universal r) τ) (loaded_agree r listed {σ = τ} {τ = ρ} (λ v n. sym (assign_agree g τ v n)) image)
    (ap (blocked (entries b) e) (sym (map-map starred σ (universal r))) ∙ blocked_starred (entries b) e (map σ (universal r)) ∙ free)
    (starred_fact f)
    (mem_output ρ i (Memᴰ.cast (starred_fact_map f) (rw (head_facts_agree d τ ρ agree) at (mem_map_head_facts starred starred_commutes σ d k))))

-- the start

starred_constants : (b : RuleSet) {ts : List Term} → Constants b.fixed ts → (t : Term) → Memᴰ t (map starred ts) → Memᴰ t (leaves b)
unfolding starred
starred_constants b none t m = absurd (Memᴰ.not-nil m)
starred_constants b (more {ts = ts} c) t m =
    ⊎_elim (λ (e : t ≡ star). Memᴰ.cast e (star_leaf b)) (λ (k : Memᴰ t (map starred ts)). starred_constants b c t k) (Memᴰ.cases_cons m)
starred_constants b (known {c = n} {ts = ts} h c) t m =
    ⊎_elim (λ (e : t ≡ fixed n). Memᴰ.cast e (fixed_leaf b n h)) (λ (k : Memᴰ t (map starred ts)). starred_constants b c t k) (Memᴰ.cases_cons m)

instance_critical : (b : RuleSet) (f : Fact) → Over b f → Memᴰ (starred_fact f) (critical (leaves b) 0 b.arities)
unfolding starred_fact
instance_critical b f o =
    Memᴰ.cast (fact_path (sym (zero-add f.predicate)) refl)
    (mem_critical (leaves b) 0 b.arities f.predicate (map starred f.arguments) o.declared (length-map f.arguments starred ∙ o.arity)
    (starred_constants b o.constant))

initial_mem : (fs : List Fact) {f : Fact} → Memᴰ f (initial fs).facts → Memᴰ f fs
unfolding initial
initial_mem fs {f} m = ⊎_elim (λ (k : Memᴰ f []). absurd (Memᴰ.not-nil k)) (λ (k : Memᴰ f fs). k) (extend_mem same_fact [] fs m)

pub initial_followed : {b : RuleSet} {listed : List Fact} → Saturated b listed → (instance' : List Fact) → ((f : Fact) → Memᴰ f instance' → Over b f)
    → Followed b listed (initial instance').facts
initial_followed {b} s instance' over =
    record {
      explained = explained_start b (initial instance').facts (λ f m. (over f (initial_mem instance' m)).constant);
      covered = λ f m. s.critical (starred_fact f) (instance_critical b f (over f (initial_mem instance' m)));
    }

-- one attempt, and all

step_followed : {b : RuleSet} → WellFormed b → {listed : List Fact} → Saturated b listed → {a : Attempt} {s : State} {e : Entry} {d : Disjunct}
    → Applies b a s e d → Followed b listed s.facts → Followed b listed (extend same_fact s.facts (head_facts (given a) d))
step_followed {b} w {listed} z {a} {s} {e} {d} h x =
    record {
      explained =
          explained_step w x.explained (mem_collect (λ (e : Entry). e.disjuncts) (applies_entry h) (applies_disjunct h)) (given a)
          (subst (λ (r : Rule). Loaded r s.facts (given a)) (sym ((entries_mem b (applies_entry h)).disjuncts d (applies_disjunct h)).0) (applies_loaded h));
      covered = λ f m.
          ⊎_elim (λ (k : Memᴰ f s.facts). x.covered f k)
          (λ (k : Memᴰ f (head_facts (given a) d)).
          output_covered w z x.covered (applies_entry h) (given a) (applies_loaded h) (step_free w h x.explained) (applies_disjunct h) k)
          (extend_mem same_fact s.facts (head_facts (given a) d) m);
    }

pub attempt_followed : {b : RuleSet} → WellFormed b → {listed : List Fact} → Saturated b listed → (a : Attempt) (s : State) → Followed b listed s.facts
    → Followed b listed (attempt b a s).facts
unfolding stepped
attempt_followed {b} w {listed} z a s x = go (attempt_cases b a s)
  where
    go : ((e : Entry) × (d : Disjunct) × Applies b a s e d) ⊎ (attempt b a s ≡ s) → Followed b listed (attempt b a s).facts
    go (inl (e, d, h)) = subst (λ (t : State). Followed b listed t.facts) (sym (attempt_steps b a s h)) (step_followed w z h x)
    go (inr k) = subst (λ (t : State). Followed b listed t.facts) (sym k) x

pub chase_followed : {b : RuleSet} → WellFormed b → {listed : List Fact} → Saturated b listed → (as' : List Attempt) (s : State) → Followed b listed s.facts
    → Followed b listed (chase b as' s).facts
unfolding chase
chase_followed w z [] s x = x
chase_followed {b} w z (a ∷ as') s x = chase_followed w z as' (attempt b a s) (attempt_followed w z a s x)

-- every filling from an instance: its facts are covered
pub chase_covered : {b : RuleSet} → WellFormed b → {listed : List Fact} → Saturated b listed → (instance' : List Fact)
    → ((f : Fact) → Memᴰ f instance' → Over b f) → (attempts : List Attempt) (f : Fact) → Memᴰ f (chase b attempts (initial instance')).facts
    → Memᴰ (starred_fact f) listed
chase_covered w z instance' over attempts f m = (chase_followed w z attempts (initial instance') (initial_followed z instance' over)).covered f m

-- and so none has a cyclic term where no listed fact has one
pub covered_acyclic : (d : ℕ) {listed : List Fact} → ((g : Fact) → Memᴰ g listed → any (cyclic d) g.arguments ≡ false)
    → (f : Fact) → Memᴰ (starred_fact f) listed → any (cyclic d) f.arguments ≡ false
unfolding starred_fact
covered_acyclic d acyclic f c = sym (any_cyclic_starred d f.arguments) ∙ acyclic (starred_fact f) c

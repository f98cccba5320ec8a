-- Every Skolem term in a filled set was made by a step whose body, frontier and disjunct are in the set (004, Proposition 41): the
-- start has it, steps keep it. Assumes nothing.
use mathlib.Core.Path.{◌≡◌, sym, subst, subst₂}
use mathlib.Core.Bool.{true, false}
use mathlib.Core.Logic.{◌⊎◌, inl, inr, ⊎_elim}
use mathlib.Core.List.Memᴰ
use mathlib.Core.List.{List, map, Memᴰ}
use Prim.Native.Nat.{ℕ, suc, ◌+◌, ◌-◌, ◌≤◌}
use lib.Dec.{eqb}
use Rattle.model.specs.Lists.{extend, index, collect}
use Rattle.model.specs.Term.{Term, Terms, constant, fixed, skolem, list, terms}
use Rattle.model.specs.Rules.{Atom, RuleSet, Disjunct, entries, in_body, frontier, existential, owns}
use Rattle.model.specs.WellFormed.{WellFormed}
use Rattle.model.specs.Triggers.{Fact, same_fact, head_term, head_facts}
use Rattle.model.specs.Demand.{Constants, none, more, known}
use Rattle.laws.proofs.Bools.{case}
use Rattle.laws.proofs.Lists.{collect_mem, map_mem, extend_left, extend_right, extend_mem}
use Rattle.laws.proofs.Terms.{list_terms}
use Rattle.laws.proofs.Facts.{same_fact_decides, mem_terms_of, terms_of_mem}
use Rattle.laws.proofs.Rules.{universal_mem, frontier_mem, mem_existential, mem_variables_of}
use Rattle.laws.proofs.Triggers.{Loaded, Value, instantiate_mem, head_term_universal, head_term_existential, head_facts_mem, loaded_value}
use Rattle.laws.proofs.Owners.{disjuncts_of, owns_existential}
use Rattle.laws_published.proofs.Subterms.{subterms, skolem_function, skolem_arguments, subterms_constant, subterms_fixed, skolem_cases}
use Rattle.laws_demand.proofs.Loaded.{Satisfied}
use Rattle.laws_demand.proofs.Subterms.{subterms_of, mem_subterms_of, subterms_of_mem}

-- the step that made skolem f ts
pub record Origin (b : RuleSet) (fs : List Fact) (f : ℕ) (ts : Terms) : Type 0 where
  pub disjunct : Disjunct
  pub among : Memᴰ disjunct (disjuncts_of (entries b))
  pub owner : owns f disjunct ≡ true
  pub substitution : ℕ → Term
  pub arguments : map substitution (frontier disjunct.rule) ≡ list ts
  pub body : Loaded disjunct.rule fs substitution
  pub head : Satisfied fs substitution disjunct

abbrev pub Explained : RuleSet → List Fact → Type 0
Explained b fs = (f : ℕ) (ts : Terms) → Memᴰ (skolem f ts) (subterms_of fs) → Origin b fs f ts

pub origin_grows : {b : RuleSet} {fs gs : List Fact} {f : ℕ} {ts : Terms} → ((g : Fact) → Memᴰ g fs → Memᴰ g gs) → Origin b fs f ts
    → Origin b gs f ts
origin_grows i o =
    record {
      disjunct = o.disjunct;
      among = o.among;
      owner = o.owner;
      substitution = o.substitution;
      arguments = o.arguments;
      body = λ a m. i _ (o.body a m);
      head = λ g m. i g (o.head g m);
    }

pub explained_start : (b : RuleSet) (fs : List Fact) → ((f : Fact) → Memᴰ f fs → Constants b.fixed f.arguments) → Explained b fs
explained_start b fs h f ts m =
    let (u, i, j) = subterms_of_mem fs m in
    let (g, k, l) = terms_of_mem fs i in
    absurd (go (h g k) l j)
  where
    go : {n : ℕ} {us : List Term} → Constants n us → {u : Term} → Memᴰ u us → Memᴰ (skolem f ts) (subterms u) → ⊥
    go none l j = Memᴰ.not-nil l
    go (more {c = c} {ts = us} k) {u} l j =
        ⊎_elim (λ (e : u ≡ constant c). subterms_constant c (subst (λ (x : Term). Memᴰ (skolem f ts) (subterms x)) e j))
        (λ (i : Memᴰ u us). go k i j) (Memᴰ.cases_cons l)
    go (known {c = c} {ts = us} h k) {u} l j =
        ⊎_elim (λ (e : u ≡ fixed c). subterms_fixed c (subst (λ (x : Term). Memᴰ (skolem f ts) (subterms x)) e j))
        (λ (i : Memᴰ u us). go k i j) (Memᴰ.cases_cons l)

-- one step: a disjunct's facts are added under a loaded trigger
module _ {b : RuleSet} (w : WellFormed b) {fs : List Fact} (x : Explained b fs) {d : Disjunct} (m : Memᴰ d (disjuncts_of (entries b)))
    (σ : ℕ → Term) (l : Loaded d.rule fs σ) where
  added : List Fact
  added = extend same_fact fs (head_facts σ d)

  old : (f : ℕ) (ts : Terms) → Memᴰ (skolem f ts) (subterms_of fs) → Origin b added f ts
  unfolding added
  old f ts k = origin_grows (λ g i. extend_left same_fact (head_facts σ d) i) (x f ts k)

  bound_variable : (v : ℕ) → in_body d.rule v ≡ true → (f : ℕ) (ts : Terms) → Memᴰ (skolem f ts) (subterms (σ v)) → Origin b added f ts
  bound_variable v e f ts k = old f ts (mem_subterms_of fs (loaded_value d.rule fs σ l e) k)

  new : {v : ℕ} → Memᴰ v (existential d.rule d.atoms)
      → Origin b added (d.before + suc (index eqb v (existential d.rule d.atoms))) (terms (map σ (frontier d.rule)))
  unfolding added
  new {v} k =
      record {
        disjunct = d;
        among = m;
        owner = owns_existential d k;
        substitution = σ;
        arguments = sym (list_terms (map σ (frontier d.rule)));
        body = λ a i. extend_left same_fact (head_facts σ d) (l a i);
        head = λ g i. extend_right same_fact same_fact_decides fs i;
      }

  existential_variable : {v : ℕ} → Memᴰ v (existential d.rule d.atoms) → (f : ℕ) (ts : Terms)
      → Memᴰ (skolem f ts) (subterms (skolem (d.before + suc (index eqb v (existential d.rule d.atoms))) (terms (map σ (frontier d.rule)))))
      → Origin b added f ts
  existential_variable {v} n f ts k = go (skolem_cases g us k)
    where
      g : ℕ
      g = d.before + suc (index eqb v (existential d.rule d.atoms))

      us : Terms
      us = terms (map σ (frontier d.rule))

      go : Memᴰ (skolem f ts) (collect subterms (list us)) ⊎ (skolem f ts ≡ skolem g us) → Origin b added f ts
      go (inr e) = subst₂ (λ (h : ℕ) (ws : Terms). Origin b added h ws) (sym (skolem_function e)) (sym (skolem_arguments e)) (new n)
      go (inl i) =
          let (u, p, q) = collect_mem subterms (list us) i in
          let (z, s, e) = map_mem σ (frontier d.rule) (subst (λ (l : List Term). Memᴰ u l) (list_terms (map σ (frontier d.rule))) p) in
          bound_variable z (universal_mem d.rule (frontier_mem d.rule s)) f ts (subst (λ (y : Term). Memᴰ (skolem f ts) (subterms y)) e q)

  head_term_is : {a : Atom} {v : ℕ} → Memᴰ a d.atoms → v ≤ 7 → Memᴰ v a.variables → (f : ℕ) (ts : Terms)
      → Memᴰ (skolem f ts) (subterms (head_term d σ v)) → Origin b added f ts
  head_term_is {a} {v} i r j f ts k = go (case (in_body d.rule v))
    where
      go : (in_body d.rule v ≡ true) ⊎ (in_body d.rule v ≡ false) → Origin b added f ts
      go (inl e) = bound_variable v e f ts (rw (head_term_universal d σ v e) at k)
      go (inr e) = existential_variable (mem_existential d.rule d.atoms r (mem_variables_of i j) e) f ts (rw (head_term_existential d σ v e) at k)

  pub explained_step : Explained b (extend same_fact fs (head_facts σ d))
  unfolding added
  explained_step f ts k =
      let (u, i, j) = subterms_of_mem added k in
      let (g, p, q) = terms_of_mem added i in
      go u g j q (extend_mem same_fact fs (head_facts σ d) p)
    where
      go : (u : Term) (g : Fact) → Memᴰ (skolem f ts) (subterms u) → Memᴰ u g.arguments → Memᴰ g fs ⊎ Memᴰ g (head_facts σ d) → Origin b added f ts
      go u g j q (inl p) = old f ts (mem_subterms_of fs (mem_terms_of p q) j)
      go u g j q (inr p) =
          let (a, n, e) = head_facts_mem σ d p in
          argument u j a n (instantiate_mem (head_term d σ) a {s = u} (subst (λ (x : Fact). Memᴰ u x.arguments) e q))
        where
          argument : (u : Term) → Memᴰ (skolem f ts) (subterms u) → (a : Atom) → Memᴰ a d.atoms → Value a.variables (head_term d σ) u → Origin b added f ts
          argument u j a n (inl (v, r, s, t)) = head_term_is n r s f ts (subst (λ (y : Term). Memᴰ (skolem f ts) (subterms y)) t j)
          argument u j a n (inr (v, _, _, t)) = absurd (subterms_fixed (v - 8) (subst (λ (y : Term). Memᴰ (skolem f ts) (subterms y)) t j))

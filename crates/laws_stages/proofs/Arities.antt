-- Facts of the stages of a well-formed rule set: each has a declared predicate and as many arguments as its arity. Assumes nothing.
use mathlib.Core.Path.{◌≡◌, refl, sym, ap, ◌∙◌, subst}
use mathlib.Core.Logic.{◌⊎◌, inl, inr, ⊎_elim}
use mathlib.Core.List.Memᴰ
use mathlib.Core.List.{List, [], ◌∷◌, Memᴰ}
use Prim.Native.Nat.{ℕ, zero, suc, ◌+◌, ◌≤◌, ◌<◌}
use native.Mathlib.Nat.{add-zero, add-suc, suc-add, zero-add}
use native.Mathlib.Omega.{arith}
use lib.ListN.{length, get_or, length-map}
use Rattle.model.specs.Term.{Term}
use Rattle.model.specs.Rules.{Atom, RuleSet, Disjunct, Entry, entries, universal}
use Rattle.model.specs.WellFormed.{WellFormedAtom, WellFormed}
use Rattle.model.specs.Triggers.{Fact, assign, valued, instantiate, head_term}
use Rattle.model.specs.Stages.{leaves, tuples, critical, stage}
use Rattle.laws.proofs.Facts.{fact_path}
use Rattle.laws.proofs.Rules.{entries_mem}
use Rattle.laws.proofs.Triggers.{head_facts_mem, output_mem}
use Rattle.laws.proofs.Lists.{get_or_mem, mem_map, map_mem}
use Rattle.laws_stages.proofs.Outputs.{outputs_mem}
use Rattle.laws_stages.proofs.Growth.{facts_over, outputs_of, stage_zero_facts, facts_from}
use Rattle.laws_stages.proofs.Tuples.{tuples_mem, mem_tuples}

-- a declared predicate, and as many arguments as its arity
pub record WellFormedFact (arities : List ℕ) (f : Fact) : Type 0 where
  pub declared : f.predicate < length arities
  pub arity : length f.arguments ≡ get_or arities f.predicate 0

-- the critical instance by its elements: declared predicates over the terms

pub critical_mem : (ts : List Term) (p : ℕ) (as' : List ℕ) {f : Fact} → Memᴰ f (critical ts p as')
    → (i : ℕ) × (i < length as') × (f.predicate ≡ p + i) × (length f.arguments ≡ get_or as' i 0) × ((t : Term) → Memᴰ t f.arguments → Memᴰ t ts)
unfolding critical
critical_mem ts p [] m = absurd (Memᴰ.not-nil m)
critical_mem ts p (a ∷ as') {f} m = go (λ k. critical_mem ts (suc p) as' k) (Memᴰ.append_cases (facts_over p (tuples a ts)) m)
  where
    go : (Memᴰ f (critical ts (suc p) as')
        → (i : ℕ) × (i < length as') × (f.predicate ≡ suc p + i) × (length f.arguments ≡ get_or as' i 0) × ((t : Term) → Memᴰ t f.arguments → Memᴰ t ts))
        → Memᴰ f (facts_over p (tuples a ts)) ⊎ Memᴰ f (critical ts (suc p) as')
        → (i : ℕ) × (i < suc (length as')) × (f.predicate ≡ p + i) × (length f.arguments ≡ get_or (a ∷ as') i 0) × ((t : Term) → Memᴰ t f.arguments → Memᴰ t ts)
    go below (inl k) =
        let (us, j, e) = map_mem (λ (us : List Term). record { predicate = p; arguments = us }) (tuples a ts) k in
        let (l, h) = tuples_mem ts a j in
        (0, omega arith, ap (λ (g : Fact). g.predicate) e ∙ sym (add-zero p), ap (λ (g : Fact). length g.arguments) e ∙ l, λ t q. h t (subst (λ (g : Fact). Memᴰ t g.arguments) e q))
    go below (inr k) = let (i, h, e, l, q) = below k in (suc i, omega arith, e ∙ suc-add p i ∙ sym (add-suc p i), l, q)

pub mem_critical : (ts : List Term) (p : ℕ) (as' : List ℕ) (i : ℕ) (us : List Term) → i < length as' → length us ≡ get_or as' i 0 → ((t : Term) → Memᴰ t us → Memᴰ t ts)
    → Memᴰ (record { predicate = p + i; arguments = us }) (critical ts p as')
unfolding critical
mem_critical ts p [] i us h l q = absurd (omega arith)
mem_critical ts p (a ∷ as') zero us h l q =
    Memᴰ.append_left (critical ts (suc p) as')
    (Memᴰ.cast (fact_path (add-zero p) refl) (mem_map (λ (us : List Term). record { predicate = p; arguments = us }) (subst (λ (n : ℕ). Memᴰ us (tuples n ts)) l (mem_tuples ts us q))))
mem_critical ts p (a ∷ as') (suc i) us h l q =
    Memᴰ.append_right (facts_over p (tuples a ts))
    (subst (λ (f : Fact). Memᴰ f (critical ts (suc p) as')) (fact_path (suc-add p i ∙ sym (add-suc p i)) refl) (mem_critical ts (suc p) as' i us (omega arith) l q))

pub critical_well_formed : (ts : List Term) (as' : List ℕ) {f : Fact} → Memᴰ f (critical ts 0 as') → WellFormedFact as' f
critical_well_formed ts as' {f} m =
    let (i, h, e, l, q) = critical_mem ts 0 as' m in
    let k : f.predicate ≡ i = e ∙ zero-add i in
    record { declared = rw k h; arity = l ∙ ap (λ (j : ℕ). get_or as' j 0) (sym k) }

pub instantiate_well_formed : {as' : List ℕ} {a : Atom} → WellFormedAtom as' a → (σ : ℕ → Term) → WellFormedFact as' (instantiate σ a)
unfolding instantiate
instantiate_well_formed {a = a} w σ = record { declared = w.declared; arity = length-map a.variables (valued σ) ∙ w.arity }

-- the atoms of an entry's disjuncts are a well-formed rule set's
pub disjunct_well_formed : (b : RuleSet) → WellFormed b → {e : Entry} {d : Disjunct} {a : Atom} → Memᴰ e (entries b) → Memᴰ d e.disjuncts
    → Memᴰ a d.atoms → WellFormedAtom b.arities a
disjunct_well_formed b w {e} {d} {a} i j k =
    let h = entries_mem b i in
    ((w.rules e.rule h.rule).each d.atoms (h.disjuncts d j).1).each a k

outputs_well_formed : (b : RuleSet) → WellFormed b → (n : ℕ) {f : Fact} → Memᴰ f (outputs_of b n) → WellFormedFact b.arities f
outputs_well_formed b w n {f} m =
    let h = outputs_mem (entries b) (stage b n) m in
    let σ = assign (universal h.entry.rule) h.terms in
    let (d, i, k) = output_mem σ h.entry.disjuncts h.fact in
    let (a, j, e) = head_facts_mem σ d k in
    subst (λ (g : Fact). WellFormedFact b.arities g) (sym e) (instantiate_well_formed (disjunct_well_formed b w h.known i j) (head_term d σ))

pub facts_well_formed : (b : RuleSet) → WellFormed b → (n : ℕ) {f : Fact} → Memᴰ f (stage b n).facts → WellFormedFact b.arities f
facts_well_formed b w zero m = critical_well_formed (leaves b) b.arities (rw (stage_zero_facts b) at m)
facts_well_formed b w (suc n) {f} m =
    ⊎_elim (λ (k : Memᴰ f (stage b n).facts). facts_well_formed b w n k) (λ (k : Memᴰ f (outputs_of b n)). outputs_well_formed b w n k)
    (facts_from b n m)

-- one to four arguments

pub arguments_range : (b : RuleSet) → WellFormed b → {f : Fact} → WellFormedFact b.arities f → (1 ≤ length f.arguments) × (length f.arguments ≤ 4)
arguments_range b w {f} h =
    rw h.arity (w.arities (get_or b.arities f.predicate 0) (get_or_mem b.arities f.predicate 0 h.declared))

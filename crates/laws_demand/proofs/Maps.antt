-- Maps of terms that commute with Skolem functions and leave the rule constants carry instances, head facts and outputs along. Assumes nothing.
use mathlib.Core.Path.{◌≡◌, refl, sym, ap, ◌∙◌}
use mathlib.Core.Bool.{true, false}
use mathlib.Core.Logic.{◌⊎◌, inl, inr}
use mathlib.Core.List.Memᴰ
use mathlib.Core.List.{List, [], ◌∷◌, map, Memᴰ, map-map}
use Prim.Native.Nat.{ℕ, suc, ◌+◌, ◌-◌, ◌≤◌}
use lib.Dec.{eqb}
use Rattle.model.specs.Lists.{index}
use Rattle.model.specs.Term.{Term, star, fixed, skolem, terms}
use Rattle.model.specs.Rules.{Atom, Rule, Disjunct, in_body, frontier, existential}
use Rattle.model.specs.Triggers.{Fact, assign, valued, instantiate, head_term, head_facts}
use Rattle.laws.proofs.Bools.{case}
use Rattle.laws.proofs.Lists.{mem_map, map_mem}
use Rattle.laws.proofs.Facts.{fact_path}
use Rattle.laws.proofs.Rules.{mem_in_body, mem_variables_of}
use Rattle.laws.proofs.Triggers.{Loaded, Agree, map_agree, small_or_not, valued_variable, valued_fixed, instantiate_agree, head_term_universal, head_term_existential}

abbrev pub map_fact : (Term → Term) → Fact → Fact
map_fact h f = record { predicate = f.predicate; arguments = map h f.arguments }

pub record Commutes (h : Term → Term) : Type 0 where
  pub star : h star ≡ star
  pub fixed : (c : ℕ) → h (fixed c) ≡ fixed c
  pub skolem : (f : ℕ) (ts : List Term) → h (skolem f (terms ts)) ≡ skolem f (terms (map h ts))

module _ (h : Term → Term) (c : Commutes h) where
  pub map_assign : (vs : List ℕ) (ts : List Term) (v : ℕ) → h (assign vs ts v) ≡ assign vs (map h ts) v
  unfolding assign
  map_assign [] ts v = c.star
  map_assign (u ∷ us) [] v = c.star
  map_assign (u ∷ us) (t ∷ ts) v = go (map_assign us ts v) (case (eqb u v))
    where
      go : h (assign us ts v) ≡ assign us (map h ts) v → (eqb u v ≡ true) ⊎ (eqb u v ≡ false) → h (assign (u ∷ us) (t ∷ ts) v) ≡ assign (u ∷ us) (h t ∷ map h ts) v
      go below (inl e) = rw (e, assign)
      go below (inr e) = rw (e, assign) below

  map_valued : (σ : ℕ → Term) (v : ℕ) → h (valued σ v) ≡ valued (λ (u : ℕ). h (σ u)) v
  map_valued σ v = go (small_or_not v)
    where
      go : (v ≤ 7) ⊎ (8 ≤ v) → h (valued σ v) ≡ valued (λ (u : ℕ). h (σ u)) v
      go (inl l) = ap h (valued_variable σ v l) ∙ sym (valued_variable (λ (u : ℕ). h (σ u)) v l)
      go (inr l) = ap h (valued_fixed σ v l) ∙ c.fixed (v - 8) ∙ sym (valued_fixed (λ (u : ℕ). h (σ u)) v l)

  pub map_instantiate : (σ : ℕ → Term) (a : Atom) → map_fact h (instantiate σ a) ≡ instantiate (λ (v : ℕ). h (σ v)) a
  unfolding instantiate
  map_instantiate σ a =
      fact_path refl
      (map-map h (valued σ) a.variables
      ∙ map_agree (λ (v : ℕ). h (valued σ v)) (valued (λ (u : ℕ). h (σ u))) a.variables (λ v m. map_valued σ v))

  pub map_head_term : (d : Disjunct) (σ : ℕ → Term) (v : ℕ) → h (head_term d σ v) ≡ head_term d (λ (u : ℕ). h (σ u)) v
  map_head_term d σ v = go (case (in_body d.rule v))
    where
      f : ℕ
      f = d.before + suc (index eqb v (existential d.rule d.atoms))

      go : (in_body d.rule v ≡ true) ⊎ (in_body d.rule v ≡ false) → h (head_term d σ v) ≡ head_term d (λ (u : ℕ). h (σ u)) v
      go (inl e) = ap h (head_term_universal d σ v e) ∙ sym (head_term_universal d (λ (u : ℕ). h (σ u)) v e)
      go (inr e) =
          ap h (head_term_existential d σ v e) ∙ c.skolem f (map σ (frontier d.rule))
          ∙ ap (λ (ts : List Term). skolem f (terms ts)) (map-map h σ (frontier d.rule))
          ∙ sym (head_term_existential d (λ (u : ℕ). h (σ u)) v e)

  pub map_head_facts : (σ : ℕ → Term) (d : Disjunct) → map (map_fact h) (head_facts σ d) ≡ head_facts (λ (v : ℕ). h (σ v)) d
  unfolding head_facts
  map_head_facts σ d =
      map-map (map_fact h) (instantiate (head_term d σ)) d.atoms
      ∙ map_agree (λ (a : Atom). map_fact h (instantiate (head_term d σ) a)) (instantiate (head_term d (λ (v : ℕ). h (σ v)))) d.atoms
      (λ a m.
      map_instantiate (head_term d σ) a
      ∙ instantiate_agree (λ (v : ℕ). h (head_term d σ v)) (head_term d (λ (v : ℕ). h (σ v))) a (λ v l k. map_head_term d σ v))

  pub mem_map_head_facts : (σ : ℕ → Term) (d : Disjunct) {f : Fact} → Memᴰ f (head_facts σ d) → Memᴰ (map_fact h f) (head_facts (λ (v : ℕ). h (σ v)) d)
  mem_map_head_facts σ d m = rw (map_head_facts σ d) at (mem_map (map_fact h) m)

  -- a body whose values are mapped to those of a loaded substitution is mapped into the set
  pub mem_map_body : (r : Rule) (σ τ : ℕ → Term) → Agree r (λ (v : ℕ). h (σ v)) τ → {fs : List Fact} → Loaded r fs τ → {f : Fact}
      → Memᴰ f (map (instantiate σ) r.body) → Memᴰ (map_fact h f) fs
  mem_map_body r σ τ e l m =
      let (a, i, p) = map_mem (instantiate σ) r.body m in
      Memᴰ.cast (ap (map_fact h) p ∙ map_instantiate σ a ∙ instantiate_agree (λ (v : ℕ). h (σ v)) τ a (λ v n k. e v (mem_in_body r n (mem_variables_of i k)))) (l a i)

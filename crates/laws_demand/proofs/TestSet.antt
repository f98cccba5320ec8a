-- The test set of a trigger over a filled set maps into that set: a constant of its own goes back to what stood there, a fresh constant to what
-- the step that made its term bound (004, Propositions 41 and 48). So a blocked trigger has a satisfied disjunct (004, Theorem 49).
-- Assumes nothing.
use mathlib.Core.Path.{◌≡◌, refl, sym, ap, ◌∙◌, subst, subst₂}
use mathlib.Core.Bool.{true, false}
use mathlib.Core.Logic.{◌⊎◌, inl, inr}
use mathlib.Core.List.Memᴰ
use mathlib.Core.List.{List, [], ◌∷◌, map, Memᴰ}
use Prim.Native.Nat.{ℕ, ◌<◌}
use native.Mathlib.Omega.{arith}
use lib.ListN.{length, get_or, length-map}
use Rattle.model.specs.Lists.{any, member}
use Rattle.model.specs.Term.{Position, root, child, Term, Terms, star, constant, fixed, apart, fresh, skolem, none, more, list, terms, same}
use Rattle.model.specs.Rules.{Rule, RuleSet, Disjunct, Entry, entries, in_body, universal, frontier}
use Rattle.model.specs.WellFormed.{WellFormed, WellFormedRule}
use Rattle.model.specs.Triggers.{Fact, assign, head_facts}
use Rattle.model.specs.Published.{Renamed, renamed_constant, renamed_fixed, renamed_skolem, Apart, Template, Owner, Made, made_body, made_head, made_inner, TestBase, base_body, base_made, Blocked}
use Rattle.model.specs.Chase.{satisfied, datalog_done}
use Rattle.laws.proofs.Bools.{case, not_both}
use Rattle.laws.proofs.Lists.{any_eq_mem, any_eq_not_mem, member_mem, mem_member, mem_collect, map_mem, mem_map, get_d_map}
use Rattle.laws.proofs.Terms.{same_decides, ext_terms}
use Rattle.laws.proofs.Rules.{entries_mem}
use Rattle.laws.proofs.Triggers.{BodyValue, Loaded, Agree, assign_map, body_mem, head_facts_agree, loaded_value}
use Rattle.laws.proofs.WellFormed.{in_body_universal, entry_well_formed}
use Rattle.laws.proofs.Owners.{owner_unique}
use Rattle.laws_published.proofs.MadeBy.{made_not_fixed}
use Rattle.laws_demand.proofs.Maps.{map_fact, Commutes, map_assign, map_head_facts, mem_map_head_facts, mem_map_body}
use Rattle.laws_demand.proofs.Loaded.{Satisfied, mem_satisfied}
use Rattle.laws_demand.proofs.Subterms.{subterms_of, terms_of_subterms_of, subterms_of_argument}
use Rattle.laws_demand.proofs.Origins.{Origin, Explained}
use Rattle.laws_demand.proofs.Closure.{closed_map}

-- the way back: positions of a trigger to the terms that stand there, and fresh constants to what ω gives

argument : ℕ → Term → Term
argument k star = star
argument k (constant c) = star
argument k (fixed c) = star
argument k (apart p) = star
argument k (fresh t v) = star
argument k (skolem f ts) = get_or (list ts) k star

module _ (ω : Term → ℕ → Term) (σ : ℕ → Term) where
  standing : Position → Term
  standing (root v) = σ v
  standing (child p k) = argument k (standing p)

  mutual
    back : Term → Term
    back star = star
    back (constant c) = constant c
    back (fixed c) = fixed c
    back (apart p) = standing p
    back (fresh t v) = ω (back t) v
    back (skolem f ts) = skolem f (back_all ts)

    back_all : Terms → Terms
    back_all none = none
    back_all (more t ts) = more (back t) (back_all ts)

  back_all_list : (ts : Terms) → list (back_all ts) ≡ map back (list ts)
  unfolding back_all list
  back_all_list none = refl
  back_all_list (more t ts) = ap (λ (us : List Term). back t ∷ us) (back_all_list ts)

  back_all_terms : (ts : List Term) → back_all (terms ts) ≡ terms (map back ts)
  unfolding back_all terms
  back_all_terms [] = refl
  back_all_terms (t ∷ ts) = ap (more (back t)) (back_all_terms ts)

  back_commutes : Commutes back
  unfolding back
  back_commutes = record { star = refl; fixed = λ c. refl; skolem = λ f ts. ap (skolem f) (back_all_terms ts) }

  back_renamed : {t s : Term} {p : Position} → Renamed t p s → standing p ≡ t → back s ≡ t
  unfolding back standing argument
  back_renamed (renamed_constant n h) e = e
  back_renamed renamed_fixed e = refl
  back_renamed (renamed_skolem {f} {ts} {us} l h) e = go (λ k i. back_renamed (h k i) (ap (argument k) e))
    where
      go : ((k : ℕ) → k < length (list ts) → back (get_or (list us) k star) ≡ get_or (list ts) k star) → skolem f (back_all us) ≡ skolem f ts
      go below =
          ap (skolem f)
          (ext_terms (back_all us) ts (ap length (back_all_list us) ∙ length-map (list us) back ∙ l)
          (λ k i. ap (λ (vs : List Term). get_or vs k star) (back_all_list us) ∙ get_d_map back (list us) k star star (omega arith) ∙ below k i))

  -- a substitution that is renamed apart
  back_apart : {r : Rule} {u : List Term} → Apart r (map σ (universal r)) u → {v : ℕ} → Memᴰ v (universal r) → back (assign (universal r) u v) ≡ σ v
  unfolding standing
  back_apart {r} a {v} k = let e = assign_map (universal r) σ k in back_renamed (a.each v k) (sym e) ∙ e

-- the substitution of the step that made a term
module _ {b : RuleSet} {fs : List Fact} (x : Explained b fs) where
  chosen : (f : ℕ) (ts : Terms) → (any (same (skolem f ts)) (subterms_of fs) ≡ true) ⊎ (any (same (skolem f ts)) (subterms_of fs) ≡ false) → ℕ → Term
  chosen f ts (inl e) v = (x f ts (any_eq_mem same same_decides (skolem f ts) (subterms_of fs) e)).substitution v
  chosen f ts (inr e) v = star

  binding : Term → ℕ → Term
  binding star v = star
  binding (constant c) v = star
  binding (fixed c) v = star
  binding (apart p) v = star
  binding (fresh t u) v = star
  binding (skolem f ts) v = chosen f ts (case (any (same (skolem f ts)) (subterms_of fs))) v

  binding_origin : {f : ℕ} {ts : Terms} → Memᴰ (skolem f ts) (subterms_of fs) → (o : Origin b fs f ts) × (binding (skolem f ts) ≡ o.substitution)
  unfolding binding chosen
  binding_origin {f} {ts} m = go (case (any (same (skolem f ts)) (subterms_of fs)))
    where
      go : (c : (any (same (skolem f ts)) (subterms_of fs) ≡ true) ⊎ (any (same (skolem f ts)) (subterms_of fs) ≡ false))
          → (o : Origin b fs f ts) × (chosen f ts c ≡ o.substitution)
      go (inl e) = (x f ts (any_eq_mem same same_decides (skolem f ts) (subterms_of fs) e), refl)
      go (inr e) = absurd (any_eq_not_mem same same_decides e m)

-- what a step under τ along d that makes terms over ts leaves in the set
record Step (fs : List Fact) (ts : Terms) (d : Disjunct) (τ : ℕ → Term) : Type 0 where
  arguments : map τ (frontier d.rule) ≡ list ts
  body : Loaded d.rule fs τ
  head : Satisfied fs τ d

binding_step : {b : RuleSet} {fs : List Fact} (x : Explained b fs) {f : ℕ} {ts : Terms} {d : Disjunct} → Memᴰ (skolem f ts) (subterms_of fs)
    → Owner b f d → Step fs ts d (binding x (skolem f ts))
binding_step {b} {fs} x {f} {ts} m i =
    let (o, e) = binding_origin x m in
    subst₂ (λ (c : Disjunct) (τ : ℕ → Term). Step fs ts c τ)
    (owner_unique b f o.among (mem_collect (λ (e : Entry). e.disjuncts) i.known i.disjunct) o.owner i.owner) (sym e)
    (record { arguments = o.arguments; body = o.body; head = o.head })

module _ {b : RuleSet} {fs : List Fact} (x : Explained b fs) (σ : ℕ → Term) where
  abbrev restored : Term → Term
  restored = back (binding x) σ

  commutes : Commutes restored
  commutes = back_commutes (binding x) σ

  -- the facts that must have made a term are, taken back, those of the step that made it
  module _ (f : ℕ) (ts : Terms) (d : Disjunct) (s : Step fs (back_all (binding x) σ ts) d (binding x (restored (skolem f ts)))) {θ : ℕ → Term}
      (h : Template (skolem f ts) ts d.rule θ) where
    template_restored : Agree d.rule (λ (v : ℕ). restored (θ v)) (binding x (restored (skolem f ts)))
    unfolding back
    template_restored v e = go (case (member v (frontier d.rule)))
      where
        τ : ℕ → Term
        τ = binding x (restored (skolem f ts))

        go : (member v (frontier d.rule) ≡ true) ⊎ (member v (frontier d.rule) ≡ false) → restored (θ v) ≡ τ v
        go (inl i) =
            let k = member_mem v (frontier d.rule) i in
            ap restored (h.arguments v k) ∙ map_assign restored commutes (frontier d.rule) (list ts) v
            ∙ ap (λ (us : List Term). assign (frontier d.rule) us v) (sym (s.arguments ∙ back_all_list (binding x) σ ts))
            ∙ assign_map (frontier d.rule) τ k
        go (inr i) = ap restored (h.others v e (λ k. not_both (member v (frontier d.rule)) (mem_member k) i))

    head_restored : {g : Fact} → Memᴰ g (head_facts θ d) → Memᴰ (map_fact restored g) fs
    head_restored {g} m =
        s.head (map_fact restored g)
        (rw (head_facts_agree d (λ (v : ℕ). restored (θ v)) (binding x (restored (skolem f ts))) template_restored) at (mem_map_head_facts restored commutes θ d m))

  made_restored : {t : Term} {g : Fact} → Made b t g → Memᴰ (restored t) (subterms_of fs) → Memᴰ (map_fact restored g) fs
  unfolding back
  made_restored (made_body {f} {ts} d θ o h m) i =
      let s = binding_step x i o in mem_map_body restored commutes d.rule θ (binding x (restored (skolem f ts))) (template_restored f ts d s h) s.body m
  made_restored (made_head {f} {ts} d θ o h m) i = head_restored f ts d (binding_step x i o) h m
  made_restored (made_inner {f} {ts} s k m) i = made_restored m (subterms_of_argument fs i (rw (back_all_list (binding x) σ ts) (mem_map restored k)))

module _ {b : RuleSet} {fs : List Fact} (x : Explained b fs) {r : Rule} (g : WellFormedRule b.arities r) (σ : ℕ → Term) (l : Loaded r fs σ) {u : List Term}
    (a : Apart r (map σ (universal r)) u) where
  apart_restored : Agree r (λ (v : ℕ). restored x σ (assign (universal r) u v)) σ
  apart_restored v e = back_apart (binding x) σ a (in_body_universal g e)

  test_base_restored : (f : Fact) → TestBase b r (assign (universal r) u) f → Memᴰ (map_fact (restored x σ) f) fs
  test_base_restored f (base_body m) = mem_map_body (restored x σ) (commutes x σ) r (assign (universal r) u) σ apart_restored l m
  test_base_restored f (base_made t m k h) =
      go (body_mem r (assign (universal r) u) m k)
    where
      go : BodyValue r (assign (universal r) u) t
          → Memᴰ (map_fact (restored x σ) f) fs
      go (inl (v, i, e)) = made_restored x σ h (Memᴰ.cast (ap (restored x σ) e ∙ apart_restored v i) (terms_of_subterms_of fs (loaded_value r fs σ l i)))
      go (inr (v, _, _, e)) = absurd (made_not_fixed h e)

-- 004, Theorem 49: over a set on which no Datalog rule fits, a blocked trigger has a satisfied disjunct
pub blocked_satisfied : {b : RuleSet} → WellFormed b → {fs : List Fact} → Explained b fs → datalog_done (entries b) fs ≡ true → {e : Entry}
    → Memᴰ e (entries b) → (σ : ℕ → Term) → Loaded e.rule fs σ → Blocked b e (map σ (universal e.rule))
    → satisfied fs σ e.disjuncts ≡ true
blocked_satisfied {b} w {fs} x done {e} m σ l (apartTerms, a, (n, d, i, h)) =
    let g = entry_well_formed w m in
    let ρ : Term → Term = restored x σ in
    let c : Commutes ρ = commutes x σ in
    let u : ℕ → Term = assign (universal e.rule) apartTerms in
    let agree : Agree d.rule (λ (v : ℕ). ρ (u v)) σ =
    λ v k. apart_restored x g σ l a v (subst (λ (r : Rule). in_body r v ≡ true) ((entries_mem b m).disjuncts d i).0 k) in
    let image : map (map_fact ρ) (head_facts u d) ≡ head_facts σ d = map_head_facts ρ c u d ∙ head_facts_agree d (λ (v : ℕ). ρ (u v)) σ agree in
    mem_satisfied σ i (λ f k.
    let (q, j, p) = map_mem (map_fact ρ) (head_facts u d) (subst (λ (fs : List Fact). Memᴰ f fs) (sym image) k) in
    Memᴰ.cast p (closed_map w fs done ρ c (test_base_restored x g σ l a) (h q j)))

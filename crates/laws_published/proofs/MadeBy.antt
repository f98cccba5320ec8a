-- What stands inside the arguments of the facts that must have made a term: nothing but proper subterms of it, stars and fresh constants.
-- Assumes nothing.
use mathlib.Core.Path.{◌≡◌, sym, ◌∙◌, subst}
use mathlib.Core.Bool.{true, false}
use mathlib.Core.Logic.{◌⊎◌, inl, inr}
use mathlib.Core.List.Memᴰ
use mathlib.Core.List.{List, map, Memᴰ}
use Prim.Native.Nat.{ℕ, suc, ◌+◌, ◌-◌}
use native.Mathlib.Omega.{arith}
use lib.Dec.{eqb}
use Rattle.model.specs.Lists.{member, index}
use Rattle.model.specs.Term.{Term, Terms, star, fixed, fresh, skolem, list, terms}
use Rattle.model.specs.Rules.{Rule, RuleSet, Disjunct, in_body, frontier, existential}
use Rattle.model.specs.Triggers.{Fact, assign, instantiate, head_term, head_facts}
use Rattle.model.specs.Published.{Template, Made, made_body, made_head, made_inner}
use Rattle.laws.proofs.Bools.{case, not_both}
use Rattle.laws.proofs.Lists.{member_mem, mem_member, map_mem}
use Rattle.laws.proofs.Terms.{list_terms}
use Rattle.laws.proofs.Rules.{universal_mem, frontier_mem}
use Rattle.laws.proofs.Triggers.{BodyValue, Value, assign_cases, instantiate_mem, body_mem, head_term_universal, head_term_existential, head_facts_mem}
use Rattle.laws_published.proofs.Rooted.{Rooted, rooted_not_star, rooted_not_fresh}
use Rattle.laws_published.proofs.Subterms.{Inside, inside_argument, inside_deeper}

-- each argument of s that has the occurrences of one variable as leaves is a proper subterm of t
abbrev pub Below : Term → Term → Type 0
Below t s = (g : ℕ) (us : Terms) → s ≡ skolem g us → (x : Term) → Memᴰ x (list us) → (w : ℕ) → Rooted w x → Inside x t

pub below_self : (t : Term) → Below t t
below_self t g us e x m w r = subst (Inside x) (sym e) (inside_argument g us m)

below_argument : (f : ℕ) (ts : Terms) (s : Term) → Memᴰ s (list ts) → Below (skolem f ts) s
below_argument f ts s i g us e x m w r = inside_deeper f ts s i (below_self s g us e x m w r)

below_deeper : (f : ℕ) (ts : Terms) (t s : Term) → Memᴰ t (list ts) → Below t s → Below (skolem f ts) s
below_deeper f ts t s i h g us e x m w r = inside_deeper f ts t i (h g us e x m w r)

below_star : (t s : Term) → s ≡ star → Below t s
below_star t s h g us e x m w r = let z : ◌≡◌ {A = ℕ} 0 1 = cc in absurd (omega arith)

below_fresh : (t s u : Term) (v : ℕ) → s ≡ fresh u v → Below t s
below_fresh t s u v h g us e x m w r = let z : ◌≡◌ {A = ℕ} 0 1 = cc in absurd (omega arith)

pub below_fixed : (t s : Term) (c : ℕ) → s ≡ fixed c → Below t s
below_fixed t s c h g us e x m w r = let z : ◌≡◌ {A = ℕ} 0 1 = cc in absurd (omega arith)

module _ {f : ℕ} {ts : Terms} {r : Rule} {σ : ℕ → Term} (h : Template (skolem f ts) ts r σ) where
  template_cases : (v : ℕ) → in_body r v ≡ true → Memᴰ (σ v) (list ts) ⊎ ((σ v ≡ star) ⊎ (σ v ≡ fresh (skolem f ts) v))
  template_cases v e = go (case (member v (frontier r))) (assign_cases (frontier r) (list ts) v)
    where
      go : (member v (frontier r) ≡ true) ⊎ (member v (frontier r) ≡ false)
          → Memᴰ (assign (frontier r) (list ts) v) (list ts) ⊎ (assign (frontier r) (list ts) v ≡ star)
          → Memᴰ (σ v) (list ts) ⊎ ((σ v ≡ star) ⊎ (σ v ≡ fresh (skolem f ts) v))
      go (inl i) (inl k) = inl (Memᴰ.cast (h.arguments v (member_mem v (frontier r) i)) k)
      go (inl i) (inr k) = inr (inl (h.arguments v (member_mem v (frontier r) i) ∙ k))
      go (inr i) k = inr (inr (h.others v e (λ m. not_both (member v (frontier r)) (mem_member m) i)))

  template_below : (v : ℕ) → in_body r v ≡ true → Below (skolem f ts) (σ v)
  template_below v i = go (template_cases v i)
    where
      go : Memᴰ (σ v) (list ts) ⊎ ((σ v ≡ star) ⊎ (σ v ≡ fresh (skolem f ts) v)) → Below (skolem f ts) (σ v)
      go (inl k) = below_argument f ts (σ v) k
      go (inr (inl k)) = below_star (skolem f ts) (σ v) k
      go (inr (inr k)) = below_fresh (skolem f ts) (σ v) (skolem f ts) v k

  template_inside : (v w : ℕ) (x : Term) → in_body r v ≡ true → x ≡ σ v → Rooted w x → Inside x (skolem f ts)
  template_inside v w x i e q = go (template_cases v i)
    where
      go : Memᴰ (σ v) (list ts) ⊎ ((σ v ≡ star) ⊎ (σ v ≡ fresh (skolem f ts) v)) → Inside x (skolem f ts)
      go (inl k) = inside_argument f ts (Memᴰ.cast e k)
      go (inr (inl k)) = absurd (rooted_not_star q (e ∙ k))
      go (inr (inr k)) = absurd (rooted_not_fresh q (e ∙ k))

  sibling_below : (g : ℕ) → Below (skolem f ts) (skolem g (terms (map σ (frontier r))))
  sibling_below g k us e x m w q =
      let i : terms (map σ (frontier r)) ≡ us = cc in
      let (v, n, j) = map_mem σ {y = x} (frontier r) (rw (list_terms (map σ (frontier r))) at (subst (λ (ys : Terms). Memᴰ x (list ys)) (sym i) m)) in
      template_inside v w x (universal_mem r (frontier_mem r n)) j q

  body_below : {g : Fact} {s : Term} → Memᴰ g (map (instantiate σ) r.body) → Memᴰ s g.arguments → Below (skolem f ts) s
  body_below {s = s} m k = go (body_mem r σ m k)
    where
      go : BodyValue r σ s → Below (skolem f ts) s
      go (inl (v, i, e)) = subst (Below (skolem f ts)) (sym e) (template_below v i)
      go (inr (v, _, _, e)) = below_fixed (skolem f ts) s (v - 8) e

module _ {f : ℕ} {ts : Terms} (d : Disjunct) {σ : ℕ → Term} (h : Template (skolem f ts) ts d.rule σ) where
  head_term_below : (v : ℕ) → Below (skolem f ts) (head_term d σ v)
  head_term_below v = go (case (in_body d.rule v))
    where
      go : (in_body d.rule v ≡ true) ⊎ (in_body d.rule v ≡ false) → Below (skolem f ts) (head_term d σ v)
      go (inl e) = subst (Below (skolem f ts)) (sym (head_term_universal d σ v e)) (template_below h v e)
      go (inr e) =
          subst (Below (skolem f ts)) (sym (head_term_existential d σ v e)) (sibling_below h (d.before + suc (index eqb v (existential d.rule d.atoms))))

  head_below : {g : Fact} {s : Term} → Memᴰ g (head_facts σ d) → Memᴰ s g.arguments → Below (skolem f ts) s
  head_below {s = s} m k =
      let (a, n, e) = head_facts_mem σ d m in
      go (instantiate_mem (head_term d σ) a {s = s} (subst (λ (x : Fact). Memᴰ s x.arguments) e k))
    where
      go : {vs : List ℕ} → Value vs (head_term d σ) s → Below (skolem f ts) s
      go (inl (v, _, _, i)) = subst (Below (skolem f ts)) (sym i) (head_term_below v)
      go (inr (v, _, _, i)) = below_fixed (skolem f ts) s (v - 8) i

-- nothing makes a rule constant
pub made_not_fixed : {b : RuleSet} {t : Term} {g : Fact} {c : ℕ} → Made b t g → t ≡ fixed c → ⊥
made_not_fixed (made_body d σ o h m) e = let z : ◌≡◌ {A = ℕ} 0 1 = cc in omega arith
made_not_fixed (made_head d σ o h m) e = let z : ◌≡◌ {A = ℕ} 0 1 = cc in omega arith
made_not_fixed (made_inner s k m) e = let z : ◌≡◌ {A = ℕ} 0 1 = cc in omega arith

pub made_below : {b : RuleSet} {t : Term} {g : Fact} → Made b t g → (s : Term) → Memᴰ s g.arguments → Below t s
made_below (made_body d σ o h m) s k = body_below h m k
made_below (made_head d σ o h m) s k = head_below d h m k
made_below (made_inner {f} {ts} u i m) s k = below_deeper f ts u s i (made_below m s k)

-- What `template` and `made` compute is the published θᵗ and Fₜ. Assumes nothing.
use mathlib.Core.Path.{◌≡◌, refl, sym, ◌∙◌}
use mathlib.Core.Bool.{true, false}
use mathlib.Core.Logic.{◌↔◌, ◌⊎◌, inl, inr, ⊎_elim}
use mathlib.Core.List.{List, map, Memᴰ}
use Prim.Native.Nat.{ℕ}
use Rattle.model.specs.Lists.{keep, collect, member}
use Rattle.model.specs.Term.{Term, Terms, star, constant, fixed, apart, fresh, skolem, none, more, list}
use Rattle.model.specs.Rules.{Rule, RuleSet, Disjunct, Entry, entries, frontier, owns}
use Rattle.model.specs.Triggers.{Fact, assign, instantiate, head_facts}
use Rattle.model.specs.Blocking.{template, origin, made, made_all}
use Rattle.model.specs.Published.{Template, Owner, Made, made_body, made_head, made_inner}
use Rattle.laws.proofs.Bools.{case, not_both, is_false}
use Rattle.laws.proofs.Lists.{member_mem, mem_member, keep_mem, mem_keep, collect_mem, mem_collect}
use Rattle.laws.proofs.Rules.{universal_mem, frontier_mem}
use Rattle.laws.proofs.Triggers.{Agree, body_agree, head_facts_agree}
use Rattle.laws.proofs.Owners.{disjuncts_of}

-- θᵗ

module _ (t : Term) (ts : Terms) (r : Rule) where
  template_argument : (v : ℕ) → Memᴰ v (frontier r) → template t ts r v ≡ assign (frontier r) (list ts) v
  unfolding template
  template_argument v k = rw (mem_member k, template)

  template_other : (v : ℕ) → (Memᴰ v (frontier r) → ⊥) → template t ts r v ≡ fresh t v
  unfolding template
  template_other v n = rw (is_false (member v (frontier r)) (λ e. n (member_mem v (frontier r) e)), template)

  template_agrees : {σ : ℕ → Term} → Template t ts r σ → Agree r σ (template t ts r)
  template_agrees {σ} h v e = go (case (member v (frontier r)))
    where
      go : (member v (frontier r) ≡ true) ⊎ (member v (frontier r) ≡ false) → σ v ≡ template t ts r v
      go (inl i) = let k = member_mem v (frontier r) i in h.arguments v k ∙ sym (template_argument v k)
      go (inr i) = let n : Memᴰ v (frontier r) → ⊥ = λ k. not_both (member v (frontier r)) (mem_member k) i in h.others v e n ∙ sym (template_other v n)

  -- θᵗ is given on the variables of the body, no others
  pub template_is_published : (σ : ℕ → Term) → Agree r σ (template t ts r) ↔ Template t ts r σ
  template_is_published σ = (
    λ h. record {
      arguments = λ v k. h v (universal_mem r (frontier_mem r k)) ∙ template_argument v k;
      others = λ v e n. h v e ∙ template_other v n;
    },
    template_agrees,
  )

-- Fₜ

made_all_mem : (ts : Terms) (ds : List Disjunct) {g : Fact} {s : Term} → Memᴰ s (list ts) → Memᴰ g (made s ds) → Memᴰ g (made_all ts ds)
unfolding made_all list
made_all_mem none ds k m = absurd (mathlib.Core.List.Memᴰ.not-nil k)
made_all_mem (more t ts) ds {g} {s} k m =
    ⊎_elim (λ (e : s ≡ t). mathlib.Core.List.Memᴰ.append_left (made_all ts ds) (rw e at m)) (λ (i : Memᴰ s (list ts)). mathlib.Core.List.Memᴰ.append_right (made t ds) (made_all_mem ts ds i m))
    (mathlib.Core.List.Memᴰ.cases_cons k)

module _ (b : RuleSet) where
  abbrev ds : List Disjunct
  ds = disjuncts_of (entries b)

  origin_made : {f : ℕ} (ts : Terms) {d : Disjunct} {g : Fact} → Owner b f d → Memᴰ g (origin (skolem f ts) ts d) → Memᴰ g (made (skolem f ts) ds)
  unfolding made
  origin_made {f} ts {d} o m =
      mathlib.Core.List.Memᴰ.append_left (made_all ts ds)
      (mem_collect (origin (skolem f ts) ts) (mem_keep (owns f) (mem_collect (λ (e : Entry). e.disjuncts) o.known o.disjunct) o.owner) m)

  made_complete : {t : Term} {g : Fact} → Made b t g → Memᴰ g (made t ds)
  unfolding origin made
  made_complete (made_body {f} {ts} d σ o h m) =
      let τ = template (skolem f ts) ts d.rule in
      let e = body_agree d.rule σ τ ((template_is_published (skolem f ts) ts d.rule σ).1 h) in
      origin_made ts o (mathlib.Core.List.Memᴰ.append_left (head_facts τ d) (rw e at m))
  made_complete (made_head {f} {ts} d σ o h m) =
      let τ = template (skolem f ts) ts d.rule in
      let e = head_facts_agree d σ τ ((template_is_published (skolem f ts) ts d.rule σ).1 h) in
      origin_made ts o (mathlib.Core.List.Memᴰ.append_right (map (instantiate τ) d.rule.body) (rw e at m))
  made_complete (made_inner {f} {ts} s k m) = mathlib.Core.List.Memᴰ.append_right (collect (origin (skolem f ts) ts) (keep (owns f) ds)) (made_all_mem ts ds k (made_complete m))

  made_origin : (f : ℕ) (ts : Terms) {g : Fact} → Memᴰ g (collect (origin (skolem f ts) ts) (keep (owns f) ds)) → Made b (skolem f ts) g
  unfolding origin
  made_origin f ts {g} m =
      let (d, i, k) = collect_mem (origin (skolem f ts) ts) (keep (owns f) ds) m in
      let (j, o) = keep_mem (owns f) ds i in
      let (e, p, q) = collect_mem (λ (e : Entry). e.disjuncts) (entries b) j in
      let owner : Owner b f d = record { entry = e; known = p; disjunct = q; owner = o } in
      let σ = template (skolem f ts) ts d.rule in
      let h = (template_is_published (skolem f ts) ts d.rule σ).0 (λ v i. refl) in
      ⊎_elim (λ (n : Memᴰ g (map (instantiate σ) d.rule.body)). made_body d σ owner h n) (λ (n : Memᴰ g (head_facts σ d)). made_head d σ owner h n)
      (mathlib.Core.List.Memᴰ.append_cases (map (instantiate σ) d.rule.body) k)

  mutual
    unfolding made made_all list

    made_sound : (t : Term) {g : Fact} → Memᴰ g (made t ds) → Made b t g
    made_sound star m = absurd (mathlib.Core.List.Memᴰ.not-nil m)
    made_sound (constant c) m = absurd (mathlib.Core.List.Memᴰ.not-nil m)
    made_sound (fixed c) m = absurd (mathlib.Core.List.Memᴰ.not-nil m)
    made_sound (apart p) m = absurd (mathlib.Core.List.Memᴰ.not-nil m)
    made_sound (fresh t v) m = absurd (mathlib.Core.List.Memᴰ.not-nil m)
    made_sound (skolem f ts) {g} m =
        ⊎_elim (made_origin f ts) (λ (k : Memᴰ g (made_all ts ds)). let (s, i, h) = made_all_sound ts k in made_inner s i h)
        (mathlib.Core.List.Memᴰ.append_cases (collect (origin (skolem f ts) ts) (keep (owns f) ds)) m)

    made_all_sound : (ts : Terms) {g : Fact} → Memᴰ g (made_all ts ds) → (s : Term) × Memᴰ s (list ts) × Made b s g
    made_all_sound none m = absurd (mathlib.Core.List.Memᴰ.not-nil m)
    made_all_sound (more t ts) {g} m =
        ⊎_elim (λ (k : Memᴰ g (made t ds)). (t, mathlib.Core.List.Memᴰ.head refl, made_sound t k))
        (λ (k : Memᴰ g (made_all ts ds)). let (s, i, h) = made_all_sound ts k in (s, mathlib.Core.List.Memᴰ.tail i, h)) (mathlib.Core.List.Memᴰ.append_cases (made t ds) m)

  pub made_is_published : (t : Term) (g : Fact) → Memᴰ g (made t (disjuncts_of (entries b))) ↔ Made b t g
  made_is_published t g = (made_sound t, made_complete)

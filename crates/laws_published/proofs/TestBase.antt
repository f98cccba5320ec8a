-- What `test_base` computes is the published set that the Datalog rules close: a trigger's body and Fₜ of its terms. Assumes nothing.
use mathlib.Core.Path.{◌≡◌}
use mathlib.Core.Logic.{◌↔◌, inl, inr, ⊎_elim}
use mathlib.Core.List.Memᴰ
use mathlib.Core.List.{List, [], ◌++◌, map, Memᴰ}
use Prim.Native.Nat.{ℕ}
use Rattle.model.specs.Lists.{collect, extend}
use Rattle.model.specs.Term.{Term, star}
use Rattle.model.specs.Rules.{Rule, RuleSet, entries, universal}
use Rattle.model.specs.Triggers.{Fact, same_fact, assign, instantiate}
use Rattle.model.specs.Blocking.{made, test_base}
use Rattle.model.specs.Published.{Substitution, TestBase, base_body, base_made}
use Rattle.laws.proofs.Lists.{map_mem, collect_mem, mem_collect, extend_mem, extend_right}
use Rattle.laws.proofs.Facts.{same_fact_decides}
use Rattle.laws.proofs.Rules.{universal_mem, universal_distinct}
use Rattle.laws.proofs.Triggers.{BodyValue, assign_all, assign_cases, body_argument, body_mem}
use Rattle.laws.proofs.Owners.{disjuncts_of}
use Rattle.laws_published.proofs.Made.{made_is_published}
use Rattle.laws_published.proofs.MadeBy.{made_not_fixed}

-- a constant is not made
made_star : (b : RuleSet) {g : Fact} → Memᴰ g (made star (disjuncts_of (entries b))) → ⊥
unfolding made
made_star b m = Memᴰ.not-nil m

module _ (b : RuleSet) (r : Rule) (u : List Term) (sub : Substitution r u) where
  abbrev σ : ℕ → Term
  σ = assign (universal r) u

  abbrev makers : Term → List Fact
  makers t = made t (disjuncts_of (entries b))

  makers_base : {g : Fact} → Memᴰ g (collect makers u) → TestBase b r σ g
  makers_base {g} m =
      let (t, i, k) = collect_mem makers u m in
      let (v, j, e) = map_mem σ {y = t} (universal r) (rw (assign_all (universal_distinct r) u sub) i) in
      let (f, n, h) = body_argument r σ (universal_mem r j) in
      base_made t n (Memᴰ.cast e h) ((made_is_published b t g).0 k)

  test_base_sound : {g : Fact} → Memᴰ g (test_base (entries b) r u) → TestBase b r σ g
  unfolding test_base
  test_base_sound {g} m =
      ⊎_elim (λ (k : Memᴰ g []). absurd (Memᴰ.not-nil k))
      (λ (k : Memᴰ g (map (instantiate σ) r.body ++ collect makers u)). ⊎_elim base_body makers_base (Memᴰ.append_cases (map (instantiate σ) r.body) k))
      (extend_mem same_fact [] (map (instantiate σ) r.body ++ collect makers u) m)

  base_makers : {g : Fact} (t : Term) (v : ℕ) → t ≡ σ v → Memᴰ g (makers t) → Memᴰ g (collect makers u)
  base_makers {g} t v e m =
      ⊎_elim (λ (k : Memᴰ (σ v) u). mem_collect makers k (rw e at m)) (λ (k : σ v ≡ star). absurd (made_star b (rw (e, k) at m))) (assign_cases (universal r) u v)

  test_base_complete : {g : Fact} → TestBase b r σ g → Memᴰ g (test_base (entries b) r u)
  unfolding test_base
  test_base_complete {g} (base_body m) = extend_right same_fact same_fact_decides [] (Memᴰ.append_left (collect makers u) m)
  test_base_complete {g} (base_made t i k h) =
      go (body_mem r σ i k)
    where
      go : BodyValue r σ t
          → Memᴰ g (extend same_fact [] (map (instantiate σ) r.body ++ collect makers u))
      go (inl (v, n, e)) =
          extend_right same_fact same_fact_decides [] (Memᴰ.append_right (map (instantiate σ) r.body) (base_makers t v e ((made_is_published b t g).1 h)))
      go (inr (v, _, _, e)) = absurd (made_not_fixed h e)

  pub test_base_is_published : (g : Fact) → Memᴰ g (test_base (entries b) r u) ↔ TestBase b r (assign (universal r) u) g
  test_base_is_published g = (test_base_sound, test_base_complete)

-- Where rules name no constants, a rule that is not blockable has no blocked trigger in the published sense: its Skolem term over the renamed
-- frontier would stand inside what it is made of. Assumes nothing.
use mathlib.Core.Path.{◌≡◌, refl, sym, ap, ◌∙◌, subst}
use mathlib.Core.Bool.{Bool, true, false}
use mathlib.Core.Logic.{◌⊎◌, inl, inr}
use mathlib.Core.List.Memᴰ
use mathlib.Core.List.{List, [], ◌∷◌, map, Memᴰ}
use Prim.Native.Nat.{ℕ, suc, ◌+◌, ◌-◌, ◌≤◌, ◌<◌}
use native.Mathlib.Omega.{arith}
use lib.Dec.{eqb, ltb}
use lib.ListN.{length}
use borrow.Author.Tests.{eqb-false, eq-eqb, ltb-false}
use Rattle.model.specs.Lists.{all, any, index}
use Rattle.model.specs.Term.{Term, Terms, skolem, terms, size}
use Rattle.model.specs.Rules.{Atom, Rule, RuleSet, Disjunct, Entry, entries, in_body, universal, frontier, existential, existential_free, datalog, blockable}
use Rattle.model.specs.WellFormed.{WellFormedRule, WellFormed}
use Rattle.model.specs.Triggers.{Fact, assign, instantiate, head_term}
use Rattle.model.specs.Published.{Substitution, Apart, TestBase, base_body, base_made, Blocks, Blocked}
use Rattle.laws.proofs.Bools.{not_both, and_false, true_and, is_false}
use Rattle.laws.proofs.Lists.{any_false, mem_all, mem_map}
use Rattle.laws.proofs.Terms.{list_terms}
use Rattle.laws.proofs.Rules.{entries_mem, variables_of_mem, frontier_mem, existential_mem, existential_small}
use Rattle.laws.proofs.Triggers.{BodyValue, assign_mem, instantiate_argument, body_mem, head_term_existential, mem_head_facts}
use Rattle.laws.proofs.WellFormed.{entry_well_formed, in_body_universal}
use Rattle.laws_stages.proofs.Order.{frontier_shared}
use Rattle.laws_published.proofs.Rooted.{root_of, Rooted, rooted_inside, rooted_unique, Grounded, renamed_rooted}
use Rattle.laws_published.proofs.Subterms.{Inside, inside_size}
use Rattle.laws_published.proofs.MadeBy.{Below, below_self, below_fixed, made_not_fixed, made_below}
use Rattle.laws_published.proofs.Invention.{OfRules, Argument, closed_argument}

module _ {arities : List ℕ} (r : Rule) (wf : WellFormedRule arities r) (m u : List Term) (sub : Substitution r m) (a : Apart r m u) where
  abbrev σ : ℕ → Term
  σ = assign (universal r) u

  apart_rooted : ((t : Term) → Memᴰ t m → Grounded t) → {v : ℕ} → Memᴰ v (universal r) → Rooted v (σ v)
  unfolding root_of
  apart_rooted g {v} k = renamed_rooted (g (assign (universal r) m v) (assign_mem (universal r) m sub k)) (a.each v k) refl

  -- each argument of the base lies below a term of the trigger; where it is a rule constant, below any
  base_below : {b : RuleSet} {g : Fact} {y : ℕ} → Memᴰ y (universal r) → TestBase b r σ g → {s : Term} → Memᴰ s g.arguments
      → (w : ℕ) × Memᴰ w (universal r) × Below (σ w) s
  base_below {y = y} some (base_body m) {s} k = go (body_mem r σ m k)
    where
      go : BodyValue r σ s → (w : ℕ) × Memᴰ w (universal r) × Below (σ w) s
      go (inl (v, i, e)) = (v, in_body_universal wf i, subst (Below (σ v)) (sym e) (below_self (σ v)))
      go (inr (v, _, _, e)) = (y, some, below_fixed (σ y) s (v - 8) e)
  base_below {b} some (base_made {g = g} t m j h) {s} k = go (body_mem r σ m j)
    where
      go : BodyValue r σ t → (w : ℕ) × Memᴰ w (universal r) × Below (σ w) s
      go (inl (v, i, e)) = (v, in_body_universal wf i, subst (λ (x : Term). Below x s) e (made_below h s k))
      go (inr (v, _, _, e)) = absurd (made_not_fixed h e)

  -- a Skolem term over the renamed frontier is no argument of the base
  not_in_base : ((t : Term) → Memᴰ t m → Grounded t) → (f : ℕ) {v : ℕ} → Memᴰ v (frontier r) → {b : RuleSet}
      → Argument (TestBase b r σ) (skolem f (terms (map σ (frontier r)))) → ⊥
  not_in_base g f {v} k (y, i, l) =
      let (w, j, h) = base_below (frontier_mem r k) i l in
      let x : Rooted v (σ v) = apart_rooted g (frontier_mem r k) in
      let n : Inside (σ v) (σ w) = h f (terms (map σ (frontier r))) refl (σ v) (rw (list_terms (map σ (frontier r))) (mem_map σ k)) v x in
      let e : v ≡ w = rooted_unique x (rooted_inside (σ w) n (apart_rooted g j)) in
      let p : size (σ v) < size (σ w) = inside_size (σ w) n in
      let q : size (σ v) ≡ size (σ w) = ap (λ (y : ℕ). size (σ y)) e in
      omega arith

-- what a rule's variables say

singleton_unique : (xs : List (List Atom)) {x y : List Atom} → length xs ≤ 1 → Memᴰ x xs → Memᴰ y xs → x ≡ y
singleton_unique [] h i j = absurd (Memᴰ.not-nil i)
singleton_unique (z ∷ []) h i j = mathlib.Core.List.Memᴰ.eq_of_singleton i ∙ sym (mathlib.Core.List.Memᴰ.eq_of_singleton j)
singleton_unique (z ∷ (w ∷ xs)) h i j = absurd (omega arith)

-- each disjunct of a rule that is neither Datalog nor blockable has an existential variable
not_existential_free : (r : Rule) → 1 ≤ length r.head → datalog r ≡ false → blockable r ≡ false → {d : List Atom} → Memᴰ d r.head → existential_free r d ≡ false
unfolding datalog blockable
not_existential_free r some n h {d} k = go (and_false (ltb 1 (length r.head)) (any (existential_free r) r.head) h)
  where
    alone : length r.head ≤ 1 → existential_free r d ≡ true → ⊥
    alone l e =
        let one : length r.head ≡ 1 = omega arith in
        not_both (datalog r)
        (true_and (eqb (length r.head) 1) (all (existential_free r) r.head) (eq-eqb (length r.head) 1 one)
        (mem_all (existential_free r) r.head (λ c i. ap (existential_free r) (singleton_unique r.head l i k) ∙ e)))
        n

    go : (ltb 1 (length r.head) ≡ false) ⊎ (any (existential_free r) r.head ≡ false) → existential_free r d ≡ false
    go (inl e) = is_false (existential_free r d) (alone (ltb-false 1 (length r.head) e))
    go (inr e) = any_false (existential_free r) e k

existential_variable : (r : Rule) (d : List Atom) → existential_free r d ≡ false → (v : ℕ) × Memᴰ v (existential r d)
unfolding existential_free
existential_variable r d h = some (existential r d) (eqb-false (length (existential r d)) 0 h)
  where
    some : (xs : List ℕ) → (length xs ≡ 0 → ⊥) → (v : ℕ) × Memᴰ v xs
    some [] n = absurd (n refl)
    some (x ∷ xs) n = (x, Memᴰ.head refl)

head_term_skolem : (d : Disjunct) (r : Rule) (σ : ℕ → Term) (v : ℕ) → d.rule ≡ r → in_body r v ≡ false
    → (f : ℕ) × (head_term d σ v ≡ skolem f (terms (map σ (frontier r))))
head_term_skolem d r σ v e h =
    let f = d.before + suc (index eqb v (existential d.rule d.atoms)) in
    (f, head_term_existential d σ v (ap (λ (x : Rule). in_body x v) e ∙ h) ∙ ap (λ (x : Rule). skolem f (terms (map σ (frontier x)))) e)

module _ {b : RuleSet} (wf : WellFormed b) {e : Entry} (entered : Memᴰ e (entries b)) (unblockable : blockable e.rule ≡ false)
    (m : List Term) (sub : Substitution e.rule m) (grounded : ltb 2 b.version ≡ false → (t : Term) → Memᴰ t m → Grounded t) where
  not_blockable : (newer : Bool) → Blocks newer e.rule → (newer ≡ false) × (datalog e.rule ≡ false)
  not_blockable true h = not_both (blockable e.rule) h unblockable
  not_blockable false h = (refl, h)

  pub never_blocked : Blocked b e m → ⊥
  never_blocked (u, apart, (may, d, k, c)) =
      let (older, n) = not_blockable (ltb 2 b.version) may in
      let r = e.rule in
      let σ = assign (universal r) u in
      let (p, q) = (entries_mem b entered).disjuncts d k in
      let (v, i) = existential_variable r d.atoms (not_existential_free r (entry_well_formed wf entered).some n unblockable q) in
      let (j, o) = existential_mem r d.atoms i in
      let (a, s, t) = variables_of_mem d.atoms j in
      let (y, w, z) = frontier_shared (entry_well_formed wf entered) q in
      let (f, h) = head_term_skolem d r σ v p o in
      let x = existential_small r d.atoms i in
      not_in_base r (entry_well_formed wf entered) m u sub apart (grounded older) f w
      (subst (Argument (TestBase b r σ)) h
      (in_base f h (closed_argument wf (c (instantiate (head_term d σ) a) (mem_head_facts σ d s)) (head_term d σ v) (instantiate_argument (head_term d σ) a x t))))
    where
      in_base : {base : Fact → Type 0} {s : Term} {ts : Terms} (f : ℕ) → s ≡ skolem f ts → Argument base s ⊎ OfRules s → Argument base s
      in_base f h (inl i) = i
      in_base f h (inr (c, e)) = let z : ◌≡◌ {A = ℕ} 0 1 = cc in absurd (omega arith)

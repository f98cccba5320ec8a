-- The leaves of stage 0, ⋆ and the rule constants, and the lists over them. Assumes nothing.
use mathlib.Core.Path.{◌≡◌, refl, sym, ap, subst}
use mathlib.Core.Bool.{true, false}
use mathlib.Core.Logic.{◌⊎◌, inl, inr, ⊎_elim}
use mathlib.Core.List.Memᴰ
use mathlib.Core.List.{List, [], ◌∷◌, map, Memᴰ}
use Prim.Native.Nat.{ℕ, zero, suc, ◌+◌, ◌≤◌, ◌<◌}
use native.Mathlib.Omega.{arith}
use lib.Dec.{eqb}
use lib.ListN.{length}
use borrow.Author.Tests.{eqb-true, eqb-false}
use Rattle.model.specs.Lists.{collect}
use Rattle.model.specs.Term.{Term, star, fixed}
use Rattle.model.specs.Rules.{RuleSet}
use Rattle.model.specs.Stages.{fixed_from, leaves, tuples}
use Rattle.laws.specs.Lists.{Distinct, none, one}
use Rattle.laws.proofs.Bools.{case}
use Rattle.laws.proofs.Lists.{mem_collect, collect_mem, mem_map, map_mem}
use Rattle.laws.proofs.Distinct.{distinct_append, distinct_map}

-- the rule constants

pub fixed_from_mem : (c k : ℕ) {t : Term} → Memᴰ t (fixed_from c k) → (j : ℕ) × (c ≤ j) × (j < c + k) × (t ≡ fixed j)
unfolding fixed_from
fixed_from_mem c zero m = absurd (Memᴰ.not-nil m)
fixed_from_mem c (suc k) {t} m = go (λ i. fixed_from_mem (suc c) k i) (Memᴰ.cases_cons m)
  where
    go : (Memᴰ t (fixed_from (suc c) k) → (j : ℕ) × (suc c ≤ j) × (j < suc c + k) × (t ≡ fixed j)) → (t ≡ fixed c) ⊎ Memᴰ t (fixed_from (suc c) k)
        → (j : ℕ) × (c ≤ j) × (j < c + suc k) × (t ≡ fixed j)
    go below (inl e) = (c, omega arith, omega arith, e)
    go below (inr i) = let (j, l, h, e) = below i in (j, omega arith, omega arith, e)

pub mem_fixed_from : (c k j : ℕ) → c ≤ j → j < c + k → Memᴰ (fixed j) (fixed_from c k)
unfolding fixed_from
mem_fixed_from c zero j l h = absurd (omega arith)
mem_fixed_from c (suc k) j l h = go (λ i. mem_fixed_from (suc c) k j i (omega arith)) (case (eqb c j))
  where
    go : (suc c ≤ j → Memᴰ (fixed j) (fixed_from (suc c) k)) → (eqb c j ≡ true) ⊎ (eqb c j ≡ false) → Memᴰ (fixed j) (fixed c ∷ fixed_from (suc c) k)
    go below (inl e) = Memᴰ.head (ap fixed (sym (eqb-true c j e)))
    go below (inr e) = Memᴰ.tail (below (let n = eqb-false c j e in omega arith))

fixed_injective : {i j : ℕ} → fixed i ≡ fixed j → i ≡ j
fixed_injective e = cc

fixed_from_distinct : (c k : ℕ) → Distinct (fixed_from c k)
unfolding fixed_from
fixed_from_distinct c zero = none
fixed_from_distinct c (suc k) = one above (fixed_from_distinct (suc c) k)
  where
    above : Memᴰ (fixed c) (fixed_from (suc c) k) → ⊥
    above m = let (j, l, h, e) = fixed_from_mem (suc c) k m in let i : c ≡ j = fixed_injective e in omega arith

fixed_from_length : (c k : ℕ) → length (fixed_from c k) ≡ k
unfolding fixed_from
fixed_from_length c zero = refl
fixed_from_length c (suc k) = ap suc (fixed_from_length (suc c) k)

-- the leaves

pub leaves_length : (b : RuleSet) → length (leaves b) ≡ suc b.fixed
unfolding leaves
leaves_length b = ap suc (fixed_from_length 0 b.fixed)

-- t is ⋆ or a rule constant
abbrev pub LeafOf : RuleSet → Term → Type 0
LeafOf b t = (t ≡ star) ⊎ ((c : ℕ) × (c < b.fixed) × (t ≡ fixed c))

pub leaves_mem : (b : RuleSet) {t : Term} → Memᴰ t (leaves b) → LeafOf b t
unfolding leaves
leaves_mem b {t} m =
    ⊎_elim (λ (e : t ≡ star). inl e) (λ (i : Memᴰ t (fixed_from 0 b.fixed)). let (c, l, h, e) = fixed_from_mem 0 b.fixed i in inr (c, omega arith, e))
    (Memᴰ.cases_cons m)

pub star_leaf : (b : RuleSet) → Memᴰ star (leaves b)
unfolding leaves
star_leaf b = Memᴰ.head refl

pub fixed_leaf : (b : RuleSet) (c : ℕ) → c < b.fixed → Memᴰ (fixed c) (leaves b)
unfolding leaves
fixed_leaf b c h = Memᴰ.tail (mem_fixed_from 0 b.fixed c (omega arith) (omega arith))

pub leaves_distinct : (b : RuleSet) → Distinct (leaves b)
unfolding leaves
leaves_distinct b = one above (fixed_from_distinct 0 b.fixed)
  where
    above : Memᴰ star (fixed_from 0 b.fixed) → ⊥
    above m = let (c, l, h, e) = fixed_from_mem 0 b.fixed m in let z : ◌≡◌ {A = ℕ} 0 1 = cc in omega arith

pub leaves_unnamed : (b : RuleSet) → b.fixed ≡ 0 → leaves b ≡ star ∷ []
unfolding leaves fixed_from
leaves_unnamed b e = rw (e, fixed_from)

-- the lists of so many of the terms

module _ (ts : List Term) where
  pub tuples_mem : (n : ℕ) {us : List Term} → Memᴰ us (tuples n ts) → (length us ≡ n) × ((t : Term) → Memᴰ t us → Memᴰ t ts)
  unfolding tuples
  tuples_mem zero {us} m =
      subst (λ (xs : List Term). (length xs ≡ 0) × ((t : Term) → Memᴰ t xs → Memᴰ t ts)) (sym (Memᴰ.eq_of_singleton m)) (refl, λ t k. absurd (Memᴰ.not-nil k))
  tuples_mem (suc n) {us} m = go (λ xs i. tuples_mem n i) (collect_mem (λ (t : Term). map (λ (xs : List Term). t ∷ xs) (tuples n ts)) ts m)
    where
      go : ((xs : List Term) → Memᴰ xs (tuples n ts) → (length xs ≡ n) × ((t : Term) → Memᴰ t xs → Memᴰ t ts))
          → (t : Term) × Memᴰ t ts × Memᴰ us (map (λ (xs : List Term). t ∷ xs) (tuples n ts)) → (length us ≡ suc n) × ((t : Term) → Memᴰ t us → Memᴰ t ts)
      go below (t, i, j) =
          let (xs, k, e) = map_mem (λ (xs : List Term). t ∷ xs) (tuples n ts) j in
          let (l, h) = below xs k in
          subst (λ (ys : List Term). (length ys ≡ suc n) × ((s : Term) → Memᴰ s ys → Memᴰ s ts)) (sym e)
          (ap suc l, λ s q. ⊎_elim (λ (w : s ≡ t). Memᴰ.cast w i) (λ (w : Memᴰ s xs). h s w) (Memᴰ.cases_cons q))

  pub mem_tuples : (us : List Term) → ((t : Term) → Memᴰ t us → Memᴰ t ts) → Memᴰ us (tuples (length us) ts)
  unfolding tuples
  mem_tuples [] h = Memᴰ.head refl
  mem_tuples (u ∷ us) h =
      mem_collect (λ (t : Term). map (λ (xs : List Term). t ∷ xs) (tuples (length us) ts)) (h u (Memᴰ.head refl))
      (mem_map (λ (xs : List Term). u ∷ xs) (mem_tuples us (λ t m. h t (Memᴰ.tail m))))

  -- first elements keep lists apart
  heads_distinct : {us : List Term} (xss : List (List Term)) → Distinct us → Distinct xss → Distinct (collect (λ (t : Term). map (λ (xs : List Term). t ∷ xs) xss) us)
  unfolding collect
  heads_distinct xss none d = none
  heads_distinct xss (one {x = u} {xs = us} n h) d =
      distinct_append (distinct_map (λ (xs : List Term). u ∷ xs) (λ xs ys e. cc) d) (heads_distinct xss h d)
      (λ xs i j.
      let (ys, k, e) = map_mem (λ (xs : List Term). u ∷ xs) xss i in
      let (t, l, m) = collect_mem (λ (t : Term). map (λ (xs : List Term). t ∷ xs) xss) us j in
      let (zs, q, f) = map_mem (λ (xs : List Term). t ∷ xs) xss m in
      let g : u ≡ t = cc in
      n (Memᴰ.cast g l))

  pub tuples_distinct : Distinct ts → (n : ℕ) → Distinct (tuples n ts)
  unfolding tuples
  tuples_distinct d zero = one Memᴰ.not-nil none
  tuples_distinct d (suc n) = heads_distinct (tuples n ts) d (tuples_distinct d n)

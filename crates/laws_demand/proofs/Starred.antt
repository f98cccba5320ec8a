-- ⋆ for each constant is a map that commutes with Skolem functions; it keeps what is cyclic, and the blocking test does not see it
-- (004, Lemma 46). Assumes nothing.
use mathlib.Core.Path.{◌≡◌, refl, ap, ap₂, ◌∙◌}
use mathlib.Core.Bool.{Bool, true, false}
use mathlib.Core.List.{List, [], ◌∷◌, ◌++◌, map}
use Prim.Native.Nat.{ℕ, suc, max}
use lib.Dec.{ltb}
use Rattle.model.specs.Lists.{all, any}
use Rattle.model.specs.Term.{Position, child, root, Term, Terms, star, constant, fixed, apart, fresh, skolem, none, more, terms, functions, functions_all, meeting, nesting, nesting_any, cyclic, starred, starred_all}
use Rattle.model.specs.Rules.{Disjunct, Entry, universal, blockable}
use Rattle.model.specs.Triggers.{Fact, present, assign, head_facts}
use Rattle.model.specs.Blocking.{rename, rename_all, renamed, saturate, test_base, test_set, blocked}
use Rattle.model.specs.Demand.{starred_fact}
use Rattle.laws.proofs.Lists.{any_agree, any_image}
use Rattle.laws_demand.proofs.Maps.{Commutes, map_fact}

starred_all_terms : (ts : List Term) → starred_all (terms ts) ≡ terms (map starred ts)
unfolding starred_all terms
starred_all_terms [] = refl
starred_all_terms (t ∷ ts) = ap (more (starred t)) (starred_all_terms ts)

pub starred_commutes : Commutes starred
unfolding starred
starred_commutes = record { star = refl; fixed = λ c. refl; skolem = λ f ts. ap (skolem f) (starred_all_terms ts) }

pub starred_fact_map : (f : Fact) → starred_fact f ≡ map_fact starred f
unfolding starred_fact
starred_fact_map f = refl

-- what is cyclic

mutual
  unfolding functions functions_all starred starred_all

  functions_starred : (t : Term) → functions (starred t) ≡ functions t
  functions_starred star = refl
  functions_starred (constant c) = refl
  functions_starred (fixed c) = refl
  functions_starred (apart p) = refl
  functions_starred (fresh t v) = refl
  functions_starred (skolem f ts) = ap (λ (fs : List ℕ). f ∷ fs) (functions_all_starred ts)

  functions_all_starred : (ts : Terms) → functions_all (starred_all ts) ≡ functions_all ts
  functions_all_starred none = refl
  functions_all_starred (more t ts) = ap₂ (λ (fs gs : List ℕ). fs ++ gs) (functions_starred t) (functions_all_starred ts)

mutual
  unfolding nesting nesting_any starred starred_all

  nesting_starred : (f : ℕ) (t : Term) → nesting f (starred t) ≡ nesting f t
  nesting_starred f star = refl
  nesting_starred f (constant c) = refl
  nesting_starred f (fixed c) = refl
  nesting_starred f (apart p) = refl
  nesting_starred f (fresh t v) = refl
  nesting_starred f (skolem g ts) = ap (meeting f g) (nesting_any_starred f ts)

  nesting_any_starred : (f : ℕ) (ts : Terms) → nesting_any f (starred_all ts) ≡ nesting_any f ts
  nesting_any_starred f none = refl
  nesting_any_starred f (more t ts) = ap₂ max (nesting_starred f t) (nesting_any_starred f ts)

pub cyclic_starred : (d : ℕ) (t : Term) → cyclic d (starred t) ≡ cyclic d t
unfolding cyclic
cyclic_starred d t =
    any_agree (λ (f : ℕ). ltb d (nesting f (starred t))) (λ (f : ℕ). ltb d (nesting f t)) (functions (starred t)) (λ f m. ap (ltb d) (nesting_starred f t))
    ∙ ap (any (λ (f : ℕ). ltb d (nesting f t))) (functions_starred t)

pub any_cyclic_starred : (d : ℕ) (ts : List Term) → any (cyclic d) (map starred ts) ≡ any (cyclic d) ts
any_cyclic_starred d ts = any_image (cyclic d) (cyclic d) starred ts (λ t m. cyclic_starred d t)

-- the blocking test

mutual
  unfolding rename rename_all starred starred_all

  rename_starred : (t : Term) (p : Position) → rename (starred t) p ≡ rename t p
  rename_starred star p = refl
  rename_starred (constant c) p = refl
  rename_starred (fixed c) p = refl
  rename_starred (apart q) p = refl
  rename_starred (fresh t v) p = refl
  rename_starred (skolem f ts) p = ap (skolem f) (rename_all_starred ts p 0)

  rename_all_starred : (ts : Terms) (p : Position) (k : ℕ) → rename_all (starred_all ts) p k ≡ rename_all ts p k
  rename_all_starred none p k = refl
  rename_all_starred (more t ts) p k = ap₂ more (rename_starred t (child p k)) (rename_all_starred ts p (suc k))

pub renamed_starred : (vs : List ℕ) (m : List Term) → renamed vs (map starred m) ≡ renamed vs m
unfolding renamed
renamed_starred [] m = refl
renamed_starred (v ∷ vs) [] = refl
renamed_starred (v ∷ vs) (t ∷ m) = ap₂ (λ (u : Term) (us : List Term). u ∷ us) (rename_starred t (root v)) (renamed_starred vs m)

-- the test of a trigger by its terms renamed apart
tested : List Entry → Entry → List Term → Bool
tested es e u =
    elim (blockable e.rule) [
      | false ↦ false
      | true ↦
          let s : List Fact = saturate 1025 es (test_base es e.rule u) in
          any (λ (d : Disjunct). all (present s) (head_facts (assign (universal e.rule) u) d)) e.disjuncts
    ]

pub blocked_starred : (es : List Entry) (e : Entry) (m : List Term) → blocked es e (map starred m) ≡ blocked es e m
unfolding blocked test_set tested
blocked_starred es e m = ap (tested es e) (renamed_starred (universal e.rule) m)

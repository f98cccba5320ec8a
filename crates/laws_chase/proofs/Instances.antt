-- The instances of a fact over constants: what stands for its ⋆. There are n to the power k of them, and a fact over these constants is an
-- instance of its starred image; so a listed set bounds the facts whose images it has. Assumes nothing.
use mathlib.Core.Path.{◌≡◌, refl, sym, ap, ap₂, ◌∙◌}
use mathlib.Core.List.{List, [], ◌∷◌, map, Memᴰ}
use Prim.Native.Nat.{ℕ, ◌+◌, ◌*◌, ◌^◌, ◌≤◌}
use native.Mathlib.Nat.{pow-zero, pow-suc, one-mul}
use lib.ListN.{length, length-append, length-map}
use lib.Pow.{pow-add}
use Rattle.model.specs.Lists.{collect}
use Rattle.model.specs.Term.{Term, Terms, star, constant, fixed, apart, fresh, skolem, none, more, starred, starred_all, stars, stars_all}
use Rattle.model.specs.Triggers.{Fact}
use Rattle.model.specs.Demand.{starred_fact, stars_of, bound}
use Rattle.laws.specs.Lists.{Distinct}
use Rattle.laws.proofs.Lists.{mem_map, mem_collect}
use Rattle.laws.proofs.Counting.{distinct_length, collect_length}

-- a term whose leaves are constants of a list, and rule constants
mutual
  pub data Built (cs : List Term) : Term → Type 0 where
    leaf : {c : ℕ} → Memᴰ (constant c) cs → Built cs (constant c)
    known : {c : ℕ} → Built cs (fixed c)
    node : {f : ℕ} {ts : Terms} → BuiltAll cs ts → Built cs (skolem f ts)

  pub data BuiltAll (cs : List Term) : Terms → Type 0 where
    end : BuiltAll cs none
    next : {t : Term} {ts : Terms} → Built cs t → BuiltAll cs ts → BuiltAll cs (more t ts)

-- every way to put a term of the list for each ⋆ of a term
unfoldable mutual
  pub term_instances : Term → List Term → List Term
  term_instances star cs = cs
  term_instances (constant c) cs = constant c ∷ []
  term_instances (fixed c) cs = fixed c ∷ []
  term_instances (apart p) cs = apart p ∷ []
  term_instances (fresh t v) cs = fresh t v ∷ []
  term_instances (skolem f ts) cs = map (skolem f) (terms_instances ts cs)

  pub terms_instances : Terms → List Term → List Terms
  terms_instances none cs = none ∷ []
  terms_instances (more t ts) cs = collect (λ (s : Term). map (more s) (terms_instances ts cs)) (term_instances t cs)

unfoldable pub argument_instances : List Term → List Term → List (List Term)
argument_instances [] cs = [] ∷ []
argument_instances (t ∷ ts) cs = collect (λ (s : Term). map (λ (us : List Term). s ∷ us) (argument_instances ts cs)) (term_instances t cs)

unfoldable pub instances : List Term → Fact → List Fact
instances cs g = map (λ (ts : List Term). record { predicate = g.predicate; arguments = ts }) (argument_instances g.arguments cs)

-- how many there are

pow_one : (n : ℕ) → n ^ 1 ≡ n
pow_one n = pow-suc n 0 ∙ ap (λ (k : ℕ). k * n) (pow-zero n) ∙ one-mul n

power_sum : (n i j x y : ℕ) → x ≡ n ^ i → y ≡ n ^ j → x * y ≡ n ^ (i + j)
power_sum n i j x y p q = ap₂ ◌*◌ p q ∙ sym (pow-add n i j)

mutual
  unfolding term_instances stars

  pub term_instances_length : (t : Term) (cs : List Term) → length (term_instances t cs) ≡ length cs ^ stars t
  term_instances_length star cs = sym (pow_one (length cs))
  term_instances_length (constant c) cs = sym (pow-zero (length cs))
  term_instances_length (fixed c) cs = sym (pow-zero (length cs))
  term_instances_length (apart p) cs = sym (pow-zero (length cs))
  term_instances_length (fresh t v) cs = sym (pow-zero (length cs))
  term_instances_length (skolem f ts) cs = length-map (terms_instances ts cs) (skolem f) ∙ terms_instances_length ts cs

  pub terms_instances_length : (ts : Terms) (cs : List Term) → length (terms_instances ts cs) ≡ length cs ^ stars_all ts
  terms_instances_length none cs = sym (pow-zero (length cs))
  terms_instances_length (more t ts) cs =
      collect_length (λ (s : Term). map (more s) (terms_instances ts cs)) (length (terms_instances ts cs)) (λ s. length-map (terms_instances ts cs) (more s))
      (term_instances t cs)
      ∙ power_sum (length cs) (stars t) (stars_all ts) (length (term_instances t cs)) (length (terms_instances ts cs)) (term_instances_length t cs) (terms_instances_length ts cs)

pub argument_instances_length : (ts cs : List Term) → length (argument_instances ts cs) ≡ length cs ^ stars_of ts
unfolding argument_instances stars_of
argument_instances_length [] cs = sym (pow-zero (length cs))
argument_instances_length (t ∷ ts) cs =
    collect_length (λ (s : Term). map (λ (us : List Term). s ∷ us) (argument_instances ts cs)) (length (argument_instances ts cs))
    (λ s. length-map (argument_instances ts cs) (λ (us : List Term). s ∷ us)) (term_instances t cs)
    ∙ power_sum (length cs) (stars t) (stars_of ts) (length (term_instances t cs)) (length (argument_instances ts cs)) (term_instances_length t cs) (argument_instances_length ts cs)

pub instances_length : (cs : List Term) (g : Fact) → length (instances cs g) ≡ length cs ^ stars_of g.arguments
unfolding instances
instances_length cs g =
    length-map (argument_instances g.arguments cs) (λ (ts : List Term). record { predicate = g.predicate; arguments = ts })
    ∙ argument_instances_length g.arguments cs

-- a term over the constants is among those of its starred image

mutual
  unfolding term_instances starred

  pub mem_term_instances : {cs : List Term} {t : Term} → Built cs t → Memᴰ t (term_instances (starred t) cs)
  mem_term_instances (leaf m) = m
  mem_term_instances known = Memᴰ.head refl
  mem_term_instances (node {f = f} bs) = mem_map (skolem f) (mem_terms_instances bs)

  pub mem_terms_instances : {cs : List Term} {ts : Terms} → BuiltAll cs ts → Memᴰ ts (terms_instances (starred_all ts) cs)
  mem_terms_instances end = Memᴰ.head refl
  mem_terms_instances {cs} (next {t = t} {ts = ts} b bs) =
      mem_collect (λ (s : Term). map (more s) (terms_instances (starred_all ts) cs)) (mem_term_instances b) (mem_map (more t) (mem_terms_instances bs))

-- every argument is built from the constants
abbrev pub BuiltFact : List Term → Fact → Type 0
BuiltFact cs f = (t : Term) → Memᴰ t f.arguments → Built cs t

mem_argument_instances : (cs ts : List Term) → ((t : Term) → Memᴰ t ts → Built cs t) → Memᴰ ts (argument_instances (map starred ts) cs)
unfolding argument_instances
mem_argument_instances cs [] h = Memᴰ.head refl
mem_argument_instances cs (t ∷ ts) h =
    mem_collect (λ (s : Term). map (λ (us : List Term). s ∷ us) (argument_instances (map starred ts) cs)) (mem_term_instances (h t (Memᴰ.head refl)))
    (mem_map (λ (us : List Term). t ∷ us) (mem_argument_instances cs ts (λ s m. h s (Memᴰ.tail m))))

pub mem_instances : (cs : List Term) (f : Fact) → BuiltFact cs f → Memᴰ f (instances cs (starred_fact f))
unfolding instances starred_fact
mem_instances cs f h =
    mem_map (λ (ts : List Term). record { predicate = f.predicate; arguments = ts }) (mem_argument_instances cs f.arguments h)

-- the bound

pub instances_bound : (cs : List Term) (listed : List Fact) → length (collect (instances cs) listed) ≡ bound (length cs) listed
unfolding collect bound
instances_bound cs [] = refl
instances_bound cs (g ∷ gs) =
    length-append (instances cs g) (collect (instances cs) gs) ∙ ap₂ ◌+◌ (instances_length cs g) (instances_bound cs gs)

pub facts_bounded : (cs : List Term) (listed : List Fact) {fs : List Fact} → Distinct fs → ((f : Fact) → Memᴰ f fs → BuiltFact cs f)
    → ((f : Fact) → Memᴰ f fs → Memᴰ (starred_fact f) listed) → length fs ≤ bound (length cs) listed
facts_bounded cs listed d built covered =
    rw (← instances_bound cs listed)
    (distinct_length d (collect (instances cs) listed) (λ f m. mem_collect (instances cs) (covered f m) (mem_instances cs f (built f m))))

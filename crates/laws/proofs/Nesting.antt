-- Cyclic terms at every depth: a way down that meets some function more often than the depth says. A greater depth has fewer of them, and depth 1
-- is the published notion (001, section 2). Assumes nothing.
use mathlib.Core.Path.{◌≡◌, refl, sym, ap, ap₂, ◌∙◌, subst}
use mathlib.Core.Bool.{Bool, true, false, ◌||◌}
use mathlib.Core.Logic.{⊎_elim}
use mathlib.Core.List.{Memᴰ}
use Prim.Native.Nat.{ℕ, suc, max, ◌≤◌, ◌<◌}
use native.Mathlib.Omega.{arith}
use native.Mathlib.Decide.{ℕ_discrete, dec_lt}
use lib.Dec.{eqb, ltb}
use borrow.Author.Tests.{ltb-true, lt-ltb, eq-eqb, ne_eqb}
use Rattle.model.specs.Lists.{any, member}
use Rattle.model.specs.Term.{Term, Terms, star, constant, fixed, apart, fresh, skolem, none, more, list, functions, functions_all, meeting, nesting, nesting_any, cyclic}
use Rattle.model.specs.Published.{repeats, repeats_any}
use Rattle.laws.proofs.Bools.{not_both, or_true, or_left, or_right, both_ways}
use Rattle.laws.proofs.Lists.{any_mem, mem_any, any_append, member_mem}

-- a greater number passes d if one of two does
pub ltb_max : (d a b : ℕ) → ltb d (max a b) ≡ ltb d a || ltb d b
ltb_max d a b =
    both_ways (ltb d (max a b)) (ltb d a || ltb d b) (λ h. let l = ltb-true d (max a b) h in passing l (dec_lt d a))
    (λ h. ⊎_elim (λ (e : ltb d a ≡ true). let l = ltb-true d a e in lt-ltb d (max a b) (omega arith))
    (λ (e : ltb d b ≡ true). let l = ltb-true d b e in lt-ltb d (max a b) (omega arith)) (or_true (ltb d a) (ltb d b) h))
  where
    passing : d < max a b → Dec (d < a) → ltb d a || ltb d b ≡ true
    passing l (yes k) = or_left (ltb d a) (ltb d b) (lt-ltb d a k)
    passing l (no k) = or_right (ltb d a) (ltb d b) (lt-ltb d b (omega arith))

-- a function that is met, and another

pub meeting_same : (f g n : ℕ) → g ≡ f → meeting f g n ≡ suc n
unfolding meeting
meeting_same f g n e = rw (eq-eqb f g (sym e), meeting)

pub meeting_other : (f g n : ℕ) → (g ≡ f → ⊥) → meeting f g n ≡ n
unfolding meeting
meeting_other f g n h = rw (ne_eqb f g (λ e. h (sym e)), meeting)

meeting_least : (f g n : ℕ) → n ≤ meeting f g n
meeting_least f g n = go (ℕ_discrete g f)
  where
    go : Dec (g ≡ f) → n ≤ meeting f g n
    go (yes e) = omega (arith, meeting_same f g n e)
    go (no h) = omega (arith, meeting_other f g n h)

meeting_met : (f g n : ℕ) → ltb 0 (meeting f g n) ≡ eqb f g || ltb 0 n
meeting_met f g n = go (ℕ_discrete g f)
  where
    go : Dec (g ≡ f) → ltb 0 (meeting f g n) ≡ eqb f g || ltb 0 n
    go (yes e) = rw (meeting_same f g n e, eq-eqb f g (sym e)) (lt-ltb 0 (suc n) (omega arith))
    go (no h) = rw (meeting_other f g n h, ne_eqb f g (λ e. h (sym e)))

-- the functions in a term are those that some way meets
mutual
  unfolding functions functions_all nesting nesting_any member any

  pub functions_met : (f : ℕ) (t : Term) → member f (functions t) ≡ ltb 0 (nesting f t)
  functions_met f star = refl
  functions_met f (constant c) = refl
  functions_met f (fixed c) = refl
  functions_met f (apart p) = refl
  functions_met f (fresh t v) = refl
  functions_met f (skolem g ts) = ap (λ (b : Bool). eqb f g || b) (functions_all_met f ts) ∙ sym (meeting_met f g (nesting_any f ts))

  pub functions_all_met : (f : ℕ) (ts : Terms) → member f (functions_all ts) ≡ ltb 0 (nesting_any f ts)
  functions_all_met f none = refl
  functions_all_met f (more t ts) =
      any_append (eqb f) (functions t) (functions_all ts)
      ∙ ap₂ ◌||◌ (functions_met f t) (functions_all_met f ts)
      ∙ sym (ltb_max 0 (nesting f t) (nesting_any f ts))

-- cyclic: a function, and a way that meets it more often than d

pub cyclic_way : (d : ℕ) (t : Term) → cyclic d t ≡ true → (f : ℕ) × (d < nesting f t)
unfolding cyclic
cyclic_way d t h = let (f, m, e) = any_mem (λ (f : ℕ). ltb d (nesting f t)) (functions t) h in (f, ltb-true d (nesting f t) e)

pub way_cyclic : (d : ℕ) (t : Term) (f : ℕ) → d < nesting f t → cyclic d t ≡ true
unfolding cyclic
way_cyclic d t f h =
    mem_any (λ (g : ℕ). ltb d (nesting g t)) (member_mem f (functions t) (functions_met f t ∙ lt-ltb 0 (nesting f t) (omega arith))) (lt-ltb d (nesting f t) h)

-- a greater depth has fewer cyclic terms
pub cyclic_less : (d e : ℕ) → d ≤ e → (t : Term) → cyclic e t ≡ true → cyclic d t ≡ true
cyclic_less d e h t k = let (f, l) = cyclic_way e t k in way_cyclic d t f (omega arith)

-- the arguments of a term

nesting_argument : (f : ℕ) (ts : Terms) (t : Term) → Memᴰ t (list ts) → nesting f t ≤ nesting_any f ts
unfolding nesting_any list
nesting_argument f none t m = absurd (mathlib.Core.List.Memᴰ.not-nil m)
nesting_argument f (more u ts) t m =
    ⊎_elim (λ (e : t ≡ u). let l : nesting f t ≡ nesting f u = ap (nesting f) e in omega arith)
    (λ (k : Memᴰ t (list ts)). let l = nesting_argument f ts t k in omega arith) (mathlib.Core.List.Memᴰ.cases_cons m)

argument_nesting : (f n : ℕ) (ts : Terms) → n < nesting_any f ts → (t : Term) × Memᴰ t (list ts) × (n < nesting f t)
unfolding nesting_any list
argument_nesting f n none h = absurd (omega arith)
argument_nesting f n (more u ts) h = go (λ k. argument_nesting f n ts k) (dec_lt n (nesting f u))
  where
    go : (n < nesting_any f ts → (t : Term) × Memᴰ t (list ts) × (n < nesting f t)) → Dec (n < nesting f u)
        → (t : Term) × Memᴰ t (list (more u ts)) × (n < nesting f t)
    go below (yes k) = (u, mathlib.Core.List.Memᴰ.head refl, k)
    go below (no k) = let (t, m, l) = below (omega arith) in (t, mathlib.Core.List.Memᴰ.tail m, l)

-- a Skolem term over terms that are not cyclic is told by its own function
pub cyclic_skolem : (d f : ℕ) (us : Terms) → ((a : Term) → Memᴰ a (list us) → cyclic d a ≡ false) → cyclic d (skolem f us) ≡ ltb d (suc (nesting_any f us))
unfolding nesting
cyclic_skolem d f us h =
    both_ways (cyclic d (skolem f us)) (ltb d (suc (nesting_any f us)))
    (λ e. let (g, l) = cyclic_way d (skolem f us) e in lt-ltb d (suc (nesting_any f us)) (own g l (ℕ_discrete f g)))
    (λ e. let l = ltb-true d (suc (nesting_any f us)) e in way_cyclic d (skolem f us) f (omega (arith, meeting_same f f (nesting_any f us) refl)))
  where
    own : (g : ℕ) → d < meeting g f (nesting_any g us) → Dec (f ≡ g) → d < suc (nesting_any f us)
    own g l (yes e) = subst (λ (x : ℕ). d < suc (nesting_any x us)) (sym e) (omega (arith, meeting_same g f (nesting_any g us) e))
    own g l (no n) =
        let (a, m, k) = argument_nesting g d us (omega (arith, meeting_other g f (nesting_any g us) n)) in
        not_both (cyclic d a) (way_cyclic d a g k) (h a m)

-- depth 1

mutual
  unfolding repeats repeats_any nesting nesting_any

  repeats_way : (t : Term) → repeats t ≡ true → (f : ℕ) × (1 < nesting f t)
  repeats_way star h = not_both false h refl
  repeats_way (constant c) h = not_both false h refl
  repeats_way (fixed c) h = not_both false h refl
  repeats_way (apart p) h = not_both false h refl
  repeats_way (fresh t v) h = not_both false h refl
  repeats_way (skolem f ts) h =
      ⊎_elim
      (λ (e : member f (functions_all ts) ≡ true).
      let l = ltb-true 0 (nesting_any f ts) (sym (functions_all_met f ts) ∙ e) in (f, omega (arith, meeting_same f f (nesting_any f ts) refl)))
      (λ (e : repeats_any ts ≡ true). let (g, l) = repeats_any_way ts e in (g, omega (arith, meeting_least g f (nesting_any g ts))))
      (or_true (member f (functions_all ts)) (repeats_any ts) h)

  repeats_any_way : (ts : Terms) → repeats_any ts ≡ true → (f : ℕ) × (1 < nesting_any f ts)
  repeats_any_way none h = not_both false h refl
  repeats_any_way (more t ts) h =
      ⊎_elim (λ (e : repeats t ≡ true). let (g, l) = repeats_way t e in (g, omega arith))
      (λ (e : repeats_any ts ≡ true). let (g, l) = repeats_any_way ts e in (g, omega arith)) (or_true (repeats t) (repeats_any ts) h)

mutual
  unfolding repeats repeats_any nesting nesting_any

  way_repeats : (f : ℕ) (t : Term) → 1 < nesting f t → repeats t ≡ true
  way_repeats f star h = absurd (omega arith)
  way_repeats f (constant c) h = absurd (omega arith)
  way_repeats f (fixed c) h = absurd (omega arith)
  way_repeats f (apart p) h = absurd (omega arith)
  way_repeats f (fresh t v) h = absurd (omega arith)
  way_repeats f (skolem g ts) h = go (λ l. way_any_repeats f ts l) (ℕ_discrete g f)
    where
      go : (1 < nesting_any f ts → repeats_any ts ≡ true) → Dec (g ≡ f) → member g (functions_all ts) || repeats_any ts ≡ true
      go below (yes e) =
          or_left (member g (functions_all ts)) (repeats_any ts)
          (functions_all_met g ts ∙ lt-ltb 0 (nesting_any g ts) (subst (λ (x : ℕ). 0 < nesting_any x ts) (sym e) (omega (arith, meeting_same f g (nesting_any f ts) e))))
      go below (no n) = or_right (member g (functions_all ts)) (repeats_any ts) (below (omega (arith, meeting_other f g (nesting_any f ts) n)))

  way_any_repeats : (f : ℕ) (ts : Terms) → 1 < nesting_any f ts → repeats_any ts ≡ true
  way_any_repeats f none h = absurd (omega arith)
  way_any_repeats f (more t ts) h = go (λ l. way_repeats f t l) (λ l. way_any_repeats f ts l) (dec_lt 1 (nesting f t))
    where
      go : (1 < nesting f t → repeats t ≡ true) → (1 < nesting_any f ts → repeats_any ts ≡ true) → Dec (1 < nesting f t) → repeats t || repeats_any ts ≡ true
      go first rest (yes l) = or_left (repeats t) (repeats_any ts) (first l)
      go first rest (no l) = or_right (repeats t) (repeats_any ts) (rest (omega arith))

pub cyclic_one : (t : Term) → cyclic 1 t ≡ repeats t
cyclic_one t =
    both_ways (cyclic 1 t) (repeats t) (λ h. let (f, l) = cyclic_way 1 t h in way_repeats f t l)
    (λ h. let (f, l) = repeats_way t h in way_cyclic 1 t f l)

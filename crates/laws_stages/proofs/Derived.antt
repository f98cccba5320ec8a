-- The derivations of a stage: they give its outputs, are all there are, and rise by their keys (document 02, C-11). Assumes nothing.
use mathlib.Core.Path.{◌≡◌, refl, sym, ap, ◌∙◌, subst}
use mathlib.Core.Bool.{true, false}
use mathlib.Core.Logic.{◌↔◌, ◌⊎◌, inl, inr}
use mathlib.Core.List.Memᴰ
use mathlib.Core.List.{List, [], ◌∷◌, map, Memᴰ}
use Prim.Native.Nat.{ℕ, ◌<◌}
use Rattle.model.specs.Lists.{collect}
use Rattle.model.specs.Term.{Term, same}
use Rattle.model.specs.Rules.{Atom, Disjunct, Entry, universal}
use Rattle.model.specs.Triggers.{assign, assignments, instantiate, head_term, head_facts, output, triggers, holds}
use Rattle.model.specs.Blocking.{blocked}
use Rattle.model.specs.Stages.{Stage, triggers_in, contribution, outputs}
use Rattle.model.specs.Tables.{number}
use Rattle.model.specs.Order.{Derived, key, Less, at_first, later, Before, At, IsDerivation, numbered, derived_by, derived}
use Rattle.laws.specs.Lists.{Distinct, Rises, rises_none, rises_one}
use Rattle.laws.proofs.Bools.{case}
use Rattle.laws.proofs.Lists.{collect_mem, mem_collect, map_mem, map_collect}
use Rattle.laws.proofs.Terms.{same_decides}
use Rattle.laws.proofs.Rises.{rises_map, rises_keep, rises_as, rises_collect, index_rises}
use Rattle.laws_stages.proofs.Numbered.{less_prefix, less_append, map_numbered, numbered_at_is, at_numbered, rises_numbered}

rises_single : {A : Type 0} {R : A → A → Type 0} (x : A) → Rises R (x ∷ [])
rises_single x = rises_one (λ y m. absurd (Memᴰ.not-nil m)) rises_none

pub collect_single : {A B : Type 0} (g : A → B) (xs : List A) → collect (λ (x : A). g x ∷ []) xs ≡ map g xs
unfolding collect
collect_single g [] = refl
collect_single {B = B} g (x ∷ xs) = ap (λ (ys : List B). g x ∷ ys) (collect_single g xs)

-- what one trigger gives

module _ (i : ℕ) (e : Entry) (m : List ℕ) (σ : ℕ → Term) where
  abbrev given : ℕ → Disjunct → ℕ → Atom → Derived
  given j d k a = record { by = record { rule = i; trigger = m; disjunct = j; atom = k }; fact = instantiate (head_term d σ) a }

  abbrev of_atom : ℕ → Disjunct → ℕ → Atom → List Derived
  of_atom j d k a = given j d k a ∷ []

  abbrev of_disjunct : ℕ → Disjunct → List Derived
  of_disjunct j d = numbered (of_atom j d) 0 d.atoms

  derived_by_is : derived_by i e m σ ≡ numbered of_disjunct 0 e.disjuncts
  unfolding derived_by
  derived_by_is = refl

  derived_by_facts : map (λ (x : Derived). x.fact) (derived_by i e m σ) ≡ output σ e.disjuncts
  unfolding output head_facts
  derived_by_facts =
      ap (map (λ (x : Derived). x.fact)) derived_by_is
      ∙ map_numbered of_disjunct (λ (x : Derived). x.fact) (head_facts σ)
      (λ j d.
      map_numbered (of_atom j d) (λ (x : Derived). x.fact) (λ (a : Atom). instantiate (head_term d σ) a ∷ []) (λ k a. refl) 0 d.atoms
      ∙ collect_single (instantiate (head_term d σ)) d.atoms) 0 e.disjuncts

  -- one atom of one disjunct
  record Given (x : Derived) : Type 0 where
    j : ℕ
    k : ℕ
    disjunct : Disjunct
    atom : Atom
    disjunct_at : At e.disjuncts j disjunct
    atom_at_is : At disjunct.atoms k atom
    is : x ≡ given j disjunct k atom

  disjunct_mem : (j : ℕ) (d : Disjunct) {x : Derived} → Memᴰ x (of_disjunct j d) → (k : ℕ) × (a : Atom) × At d.atoms k a × (x ≡ given j d k a)
  disjunct_mem j d p = let (k, a, q, r) = numbered_at_is (of_atom j d) d.atoms p in (k, a, q, Memᴰ.eq_of_singleton r)

  derived_by_mem : {x : Derived} → Memᴰ x (derived_by i e m σ) → Given x
  derived_by_mem {x} p =
      let (j, d, q, r) = numbered_at_is of_disjunct e.disjuncts (subst (Memᴰ x) derived_by_is p) in
      let (k, a, s, t) = disjunct_mem j d r in
      record { j = j; k = k; disjunct = d; atom = a; disjunct_at = q; atom_at_is = s; is = t }

  mem_derived_by : {x : Derived} → Given x → Memᴰ x (derived_by i e m σ)
  mem_derived_by {x} g =
      subst (Memᴰ x) (sym derived_by_is)
      (at_numbered of_disjunct g.disjunct_at (at_numbered (of_atom g.j g.disjunct) g.atom_at_is (Memᴰ.head g.is)))

  -- by disjunct and atom

  given_atoms : (j : ℕ) (d : Disjunct) (k l : ℕ) (a c : Atom) → k < l → Before (given j d k a) (given j d l c)
  unfolding key
  given_atoms j d k l a c h = later (less_prefix m (later (at_first h)))

  given_disjuncts : (j l : ℕ) (d c : Disjunct) (k n : ℕ) (a o : Atom) → j < l → Before (given j d k a) (given l c n o)
  unfolding key
  given_disjuncts j l d c k n a o h = later (less_prefix m (at_first h))

  moved : {x y x' y' : Derived} → x ≡ x' → y ≡ y' → Before x' y' → Before x y
  moved {y = y} {x' = x'} p q b = subst (λ (z : Derived). Before z y) (sym p) (subst (Before x') (sym q) b)

  derived_by_rises : Rises Before (derived_by i e m σ)
  derived_by_rises =
      subst (Rises Before) (sym derived_by_is)
      (rises_numbered of_disjunct
      (λ j d.
      rises_numbered (of_atom j d) (λ k a. rises_single (given j d k a))
      (λ k l a c h v w p q. moved (Memᴰ.eq_of_singleton p) (Memᴰ.eq_of_singleton q) (given_atoms j d k l a c h)) 0 d.atoms)
      (λ j l d c h v w p q.
      let (k, a, x, s) = disjunct_mem j d p in
      let (n, o, y, t) = disjunct_mem l c q in
      moved s t (given_disjuncts j l d c k n a o h)) 0 e.disjuncts)

-- triggers rise by their terms' numbers

module _ (ts : List Term) (d : Distinct ts) where
  abbrev Lower : List Term → List Term → Type 0
  Lower m n = Less (map (number ts) m) (map (number ts) n)

  terms_rise : Rises (λ (t u : Term). number ts t < number ts u) ts
  unfolding number
  terms_rise = index_rises same same_decides ts d

  assignments_rise : (vs : List ℕ) → Rises Lower (assignments vs ts)
  unfolding assignments
  assignments_rise [] = rises_single []
  assignments_rise (v ∷ vs) =
      rises_collect (λ (t : Term). map (λ (m : List Term). t ∷ m) (assignments vs ts)) ts terms_rise
      (λ t k. rises_map (λ (m : List Term). t ∷ m) (assignments vs ts) (rises_as (assignments vs ts) (assignments_rise vs) (λ m n p q l. later l)))
      (λ t u h m n p q.
      let (m', i, x) = map_mem (λ (o : List Term). t ∷ o) (assignments vs ts) p in
      let (n', j, y) = map_mem (λ (o : List Term). u ∷ o) (assignments vs ts) q in
      subst (λ (o : List Term). Lower o n) (sym x) (subst (Lower (t ∷ m')) (sym y) (at_first h)))

-- the derivations of a stage

module _ (es : List Entry) (s : Stage) where
  abbrev numbers_of : List Term → List ℕ
  numbers_of m = map (number s.terms) m

  abbrev of_trigger : ℕ → Entry → List Term → List Derived
  of_trigger i e m = derived_by i e (numbers_of m) (assign (universal e.rule) m)

  abbrev unless_blocked : ℕ → Entry → List Term → List Derived
  unless_blocked i e m = elim (blocked es e m) [ true ↦ [] | false ↦ of_trigger i e m ]

  abbrev of_rule : ℕ → Entry → List Derived
  of_rule i e = collect (unless_blocked i e) (triggers_in s e)

  derived_is : derived es s ≡ numbered of_rule 0 es
  unfolding derived
  derived_is = refl

  blocked_gives_nothing : (i : ℕ) (e : Entry) (m : List Term) → blocked es e m ≡ true → unless_blocked i e m ≡ []
  blocked_gives_nothing i e m b = rw (b, unless_blocked) refl

  free_gives : (i : ℕ) (e : Entry) (m : List Term) → blocked es e m ≡ false → unless_blocked i e m ≡ of_trigger i e m
  free_gives i e m b = rw (b, unless_blocked) refl

  trigger_facts : (i : ℕ) (e : Entry) (m : List Term) → map (λ (x : Derived). x.fact) (unless_blocked i e m) ≡ contribution es e m
  unfolding contribution
  trigger_facts i e m = go (case (blocked es e m))
    where
      go : (blocked es e m ≡ true) ⊎ (blocked es e m ≡ false) → map (λ (x : Derived). x.fact) (unless_blocked i e m) ≡ contribution es e m
      go (inl b) = ap (map (λ (x : Derived). x.fact)) (blocked_gives_nothing i e m b) ∙ rw (b, contribution) refl
      go (inr b) =
          ap (map (λ (x : Derived). x.fact)) (free_gives i e m b)
          ∙ rw (b, contribution) (derived_by_facts i e (numbers_of m) (assign (universal e.rule) m))

  -- their facts are the outputs, in order
  pub derived_outputs : map (λ (x : Derived). x.fact) (derived es s) ≡ outputs es s
  unfolding outputs
  derived_outputs =
      ap (map (λ (x : Derived). x.fact)) derived_is
      ∙ map_numbered of_rule (λ (x : Derived). x.fact) (λ (e : Entry). collect (contribution es e) (triggers_in s e))
      (λ i e. map_collect (λ (x : Derived). x.fact) (unless_blocked i e) (contribution es e) (triggers_in s e) (trigger_facts i e)) 0 es

  -- a trigger that is not blocked
  record Of (i : ℕ) (e : Entry) (x : Derived) : Type 0 where
    terms : List Term
    known : Memᴰ terms (triggers_in s e)
    free : blocked es e terms ≡ false
    given : Given i e (numbers_of terms) (assign (universal e.rule) terms) x

  trigger_mem : (i : ℕ) (e : Entry) (m : List Term) → Memᴰ m (triggers_in s e) → {x : Derived} → Memᴰ x (unless_blocked i e m) → Of i e x
  trigger_mem i e m k {x} p = go (case (blocked es e m))
    where
      go : (blocked es e m ≡ true) ⊎ (blocked es e m ≡ false) → Of i e x
      go (inl b) = absurd (Memᴰ.not-nil (subst (Memᴰ x) (blocked_gives_nothing i e m b) p))
      go (inr b) =
          record {
            terms = m;
            known = k;
            free = b;
            given = derived_by_mem i e (numbers_of m) (assign (universal e.rule) m) (subst (Memᴰ x) (free_gives i e m b) p);
          }

  rule_mem : (i : ℕ) (e : Entry) {x : Derived} → Memᴰ x (of_rule i e) → Of i e x
  rule_mem i e p = let (m, k, q) = collect_mem (unless_blocked i e) (triggers_in s e) p in trigger_mem i e m k q

  mem_rule : (i : ℕ) (e : Entry) {x : Derived} → Of i e x → Memᴰ x (of_rule i e)
  mem_rule i e {x} o =
      mem_collect (unless_blocked i e) o.known
      (subst (Memᴰ x) (sym (free_gives i e o.terms o.free)) (mem_derived_by i e (numbers_of o.terms) (assign (universal e.rule) o.terms) o.given))

  -- they are all there are
  pub derived_all : (x : Derived) → Memᴰ x (derived es s) ↔ IsDerivation es s x
  derived_all x = (to, from)
    where
      to : Memᴰ x (derived es s) → IsDerivation es s x
      to p =
          let (i, e, a, q) = numbered_at_is of_rule es (subst (Memᴰ x) derived_is p) in
          let o = rule_mem i e q in
          let g = o.given in
          subst (IsDerivation es s) (sym g.is)
          (record {
            entry = e;
            terms = o.terms;
            disjunct = g.disjunct;
            atom = g.atom;
            rule_at_is = a;
            known = o.known;
            free = o.free;
            trigger_is = refl;
            disjunct_at = g.disjunct_at;
            atom_at_is = g.atom_at_is;
            gives = refl;
          })

      from : IsDerivation es s x → Memᴰ x (derived es s)
      from h =
          subst (Memᴰ x) (sym derived_is)
          (at_numbered of_rule h.rule_at_is
          (mem_rule x.by.rule h.entry
          (record {
            terms = h.terms;
            known = h.known;
            free = h.free;
            given =
                record {
                  j = x.by.disjunct;
                  k = x.by.atom;
                  disjunct = h.disjunct;
                  atom = h.atom;
                  disjunct_at = h.disjunct_at;
                  atom_at_is = h.atom_at_is;
                  is = λ l. record { by = record { rule = x.by.rule; trigger = h.trigger_is l; disjunct = x.by.disjunct; atom = x.by.atom }; fact = h.gives l };
                };
          })))

  -- and rise by their keys, where no term stands twice

  module _ (distinct : Distinct s.terms) where
    triggers_rise : (e : Entry) → Rises (Lower s.terms distinct) (triggers_in s e)
    unfolding triggers_in triggers
    triggers_rise e = rises_keep (holds e.rule s.facts) (assignments (universal e.rule) s.terms) (assignments_rise s.terms distinct (universal e.rule))

    given_triggers : (i : ℕ) (e : Entry) (m n : List Term) → Lower s.terms distinct m n → {x y : Derived}
        → Given i e (numbers_of m) (assign (universal e.rule) m) x → Given i e (numbers_of n) (assign (universal e.rule) n) y → Before x y
    unfolding key
    given_triggers i e m n l {x} {y} g h =
        subst (λ (z : Derived). Before z y) (sym g.is)
        (subst (λ (z : Derived). Before (given i e (numbers_of m) (assign (universal e.rule) m) g.j g.disjunct g.k g.atom) z) (sym h.is)
        (later (less_append l (g.j ∷ g.k ∷ []) (h.j ∷ h.k ∷ []))))

    given_rules : (i j : ℕ) (e f : Entry) → i < j → {x y : Derived} → Of i e x → Of j f y → Before x y
    unfolding key
    given_rules i j e f l {x} {y} o q =
        let g = o.given in
        let h = q.given in
        subst (λ (z : Derived). Before z y) (sym g.is)
        (subst (λ (z : Derived). Before (given i e (numbers_of o.terms) (assign (universal e.rule) o.terms) g.j g.disjunct g.k g.atom) z) (sym h.is) (at_first l))

    trigger_rises : (i : ℕ) (e : Entry) (m : List Term) → Rises Before (unless_blocked i e m)
    trigger_rises i e m = go (case (blocked es e m))
      where
        go : (blocked es e m ≡ true) ⊎ (blocked es e m ≡ false) → Rises Before (unless_blocked i e m)
        go (inl b) = subst (Rises Before) (sym (blocked_gives_nothing i e m b)) rises_none
        go (inr b) = subst (Rises Before) (sym (free_gives i e m b)) (derived_by_rises i e (numbers_of m) (assign (universal e.rule) m))

    given_of : (i : ℕ) (e : Entry) (m : List Term) {x : Derived} → Memᴰ x (unless_blocked i e m)
        → Given i e (numbers_of m) (assign (universal e.rule) m) x
    given_of i e m {x} p = go (case (blocked es e m))
      where
        go : (blocked es e m ≡ true) ⊎ (blocked es e m ≡ false) → Given i e (numbers_of m) (assign (universal e.rule) m) x
        go (inl b) = absurd (Memᴰ.not-nil (subst (Memᴰ x) (blocked_gives_nothing i e m b) p))
        go (inr b) = derived_by_mem i e (numbers_of m) (assign (universal e.rule) m) (subst (Memᴰ x) (free_gives i e m b) p)

    pub derived_rises : Rises Before (derived es s)
    derived_rises =
        subst (Rises Before) (sym derived_is)
        (rises_numbered of_rule
        (λ i e.
        rises_collect (unless_blocked i e) (triggers_in s e) (triggers_rise e) (λ m k. trigger_rises i e m)
        (λ m n l v w p q. given_triggers i e m n l (given_of i e m p) (given_of i e n q)))
        (λ i j e f l v w p q. given_rules i j e f l (rule_mem i e p) (rule_mem j f q)) 0 es)

-- Terms of the stages of a well-formed rule set: each is ⋆ or a Skolem term over terms of the stage before, so its arguments stand before it.
-- Assumes nothing.
use mathlib.Core.Path.{◌≡◌, refl, sym, ap, ◌∙◌, subst}
use mathlib.Core.Bool.{true, false}
use mathlib.Core.Logic.{◌⊎◌, inl, inr, ⊎_elim}
use mathlib.Core.List.Memᴰ
use mathlib.Core.List.{List, [], ◌∷◌, ◌++◌, map, Memᴰ}
use Prim.Native.Nat.{ℕ, zero, suc, ◌+◌, ◌-◌, ◌≤◌, ◌<◌}
use native.Mathlib.Omega.{arith}
use lib.Dec.{eqb}
use lib.ListN.{length, get_or, take, drop, length-map, length-take}
use lib.Seq.{split_at}
use borrow.Author.Tests.{not-false}
use Rattle.model.specs.Lists.{any, index}
use Rattle.model.specs.Term.{Term, Terms, star, fixed, skolem, list, terms, same}
use Rattle.model.specs.Rules.{Atom, Rule, RuleSet, Disjunct, Entry, entries, variables_of, in_body, universal, frontier, existential, detached}
use Rattle.model.specs.WellFormed.{WellFormedRule, WellFormed}
use Rattle.model.specs.Triggers.{Fact, terms_of, assign, instantiate, head_term}
use Rattle.model.specs.Stages.{leaves, triggers_in, stage}
use Rattle.laws.proofs.Bools.{case}
use Rattle.laws.proofs.Lists.{any_mem, any_false, map_mem, extend_mem, index_mem, index_append, mem_length}
use Rattle.laws.proofs.Terms.{same_decides, list_terms}
use Rattle.laws.proofs.Facts.{terms_of_mem}
use Rattle.laws.proofs.Rules.{entries_mem, mem_variables_of, mem_universal, mem_frontier, frontier_mem, mem_existential, frontier_few}
use Rattle.laws.proofs.Triggers.{Assignment, Value, instantiate_mem, assign_mem, head_term_universal, head_term_existential, head_facts_mem, output_mem, triggers_mem}
use Rattle.laws.proofs.WellFormed.{variable_range, constant_declared}
use Rattle.laws.proofs.Prefixes.{Prefix, prefix_mem}
use Rattle.laws_stages.proofs.Outputs.{Fires, outputs_mem}
use Rattle.laws_stages.proofs.Tuples.{LeafOf, leaves_mem, fixed_leaf}
use Rattle.laws_stages.proofs.Arities.{disjunct_well_formed}
use Rattle.laws_stages.proofs.Growth.{leaves_first, outputs_of, stage_zero_terms, stage_suc_terms, terms_grow_once, facts_from, arguments_in_terms}

-- the frontier of a well-formed rule has a variable

attached_variable : (r : Rule) (d : List Atom) → detached r d ≡ false → (v : ℕ) × Memᴰ v (variables_of d) × (in_body r v ≡ true)
unfolding detached
attached_variable r d h = any_mem (in_body r) (variables_of d) (not-false (any (in_body r) (variables_of d)) h)

-- a variable of a well-formed disjunct is at most 7
pub disjunct_range : {arities : List ℕ} {r : Rule} {d : List Atom} {v : ℕ} → WellFormedRule arities r → Memᴰ d r.head
    → Memᴰ v (variables_of d) → v ≤ 7
disjunct_range {d = d} w m k = variable_range (w.each d m) k

-- each disjunct has a variable of the frontier
pub frontier_shared : {arities : List ℕ} {r : Rule} {d : List Atom} → WellFormedRule arities r → Memᴰ d r.head
    → (v : ℕ) × Memᴰ v (frontier r) × Memᴰ v (variables_of d)
frontier_shared {r = r} {d = d} w m =
    let (v, k, e) = attached_variable r d (any_false (detached r) w.attached m) in
    (v, mem_frontier r (mem_universal r (disjunct_range w m k) e) m k, k)

pub frontier_some : {arities : List ℕ} {r : Rule} → WellFormedRule arities r → 1 ≤ length (frontier r)
frontier_some {r = r} w = go r.head w.some (λ d m. m)
  where
    go : (ds : List (List Atom)) → 1 ≤ length ds → ((d : List Atom) → Memᴰ d ds → Memᴰ d r.head) → 1 ≤ length (frontier r)
    go [] h sub = absurd (omega arith)
    go (d ∷ ds) h sub = let (v, k, i) = frontier_shared w (sub d (Memᴰ.head refl)) in mem_length k

-- a Skolem term over terms of a list, and the existential variable that it stands for
pub record Invented (es : List Entry) (ts : List Term) (t : Term) : Type 0 where
  pub entry : Entry
  pub disjunct : Disjunct
  pub variable : ℕ
  pub arguments : Terms
  pub known : Memᴰ entry es
  pub own : Memᴰ disjunct entry.disjuncts
  pub exists : Memᴰ variable (existential disjunct.rule disjunct.atoms)
  pub term : t ≡ skolem (disjunct.before + suc (index eqb variable (existential disjunct.rule disjunct.atoms))) arguments
  pub some : 1 ≤ length (list arguments)
  pub few : length (list arguments) ≤ 8
  pub old : (u : Term) → Memᴰ u (list arguments) → Memᴰ u ts

-- a trigger takes a body's variable to one of its terms
trigger_term : (r : Rule) (ts m : List Term) → Assignment (universal r) ts m → {v : ℕ} → Memᴰ v (universal r)
    → Memᴰ (assign (universal r) m v) ts
trigger_term r ts m h {v} k = h.terms (assign (universal r) m v) (assign_mem (universal r) m h.total k)

module _ (b : RuleSet) (w : WellFormed b) (ts m : List Term) (e : Entry) (i : Memᴰ e (entries b)) (h : Assignment (universal e.rule) ts m) where
  abbrev σ : ℕ → Term
  σ = assign (universal e.rule) m

  wr : WellFormedRule b.arities e.rule
  wr = w.rules e.rule (entries_mem b i).rule

  frontier_terms : (u : Term) → Memᴰ u (map σ (frontier e.rule)) → Memᴰ u ts
  frontier_terms u n =
      let (x, l, g) = map_mem σ (frontier e.rule) n in
      subst (λ (y : Term). Memᴰ y ts) (sym g) (trigger_term e.rule ts m h (frontier_mem e.rule l))

  invented : (d : Disjunct) → Memᴰ d e.disjuncts → d.rule ≡ e.rule → (v : ℕ) → Memᴰ v (existential d.rule d.atoms)
      → head_term d σ v ≡ skolem (d.before + suc (index eqb v (existential d.rule d.atoms))) (terms (map σ (frontier d.rule)))
      → Invented (entries b) ts (head_term d σ v)
  invented d j q v k p =
      record {
        entry = e;
        disjunct = d;
        variable = v;
        arguments = terms (map σ (frontier d.rule));
        known = i;
        own = j;
        exists = k;
        term = p;
        some = rw (list_terms (map σ (frontier d.rule)), length-map (frontier d.rule) σ, q) (frontier_some wr);
        few = rw (list_terms (map σ (frontier d.rule)), length-map (frontier d.rule) σ) (frontier_few d.rule);
        old = λ u n. frontier_terms u (subst (λ (r : Rule). Memᴰ u (map σ (frontier r))) q (rw (list_terms (map σ (frontier d.rule))) at n));
      }

  head_terms : (d : Disjunct) → Memᴰ d e.disjuncts → (v : ℕ) → Memᴰ v (variables_of d.atoms)
      → Memᴰ (head_term d σ v) ts ⊎ Invented (entries b) ts (head_term d σ v)
  head_terms d j v k = go (case (in_body d.rule v))
    where
      q : d.rule ≡ e.rule
      q = ((entries_mem b i).disjuncts d j).0

      range : v ≤ 7
      range = disjunct_range wr ((entries_mem b i).disjuncts d j).1 k

      go : (in_body d.rule v ≡ true) ⊎ (in_body d.rule v ≡ false) → Memᴰ (head_term d σ v) ts ⊎ Invented (entries b) ts (head_term d σ v)
      go (inl p) = inl (rw (head_term_universal d σ v p) (trigger_term e.rule ts m h (mem_universal e.rule range (rw q at p))))
      go (inr p) = inr (invented d j q v (mem_existential d.rule d.atoms range k p) (head_term_existential d σ v p))

-- an argument of an output is a term of the stage, or a Skolem term over terms of the stage
pub outputs_terms : (b : RuleSet) → WellFormed b → (n : ℕ) {f : Fact} {t : Term} → Memᴰ f (outputs_of b n) → Memᴰ t f.arguments
    → Memᴰ t (stage b n).terms ⊎ Invented (entries b) (stage b n).terms t
unfolding triggers_in
outputs_terms b w n {f} {t} m k = go (outputs_mem (entries b) (stage b n) m)
  where
    ts : List Term
    ts = (stage b n).terms

    atom : (h : Fires (entries b) (stage b n) f) (d : Disjunct) → Memᴰ d h.entry.disjuncts
        → (a : Atom) × Memᴰ a d.atoms × (f ≡ instantiate (head_term d (assign (universal h.entry.rule) h.terms)) a)
        → Memᴰ t ts ⊎ Invented (entries b) ts t
    atom h d i (a, j, p) =
        let τ = head_term d (assign (universal h.entry.rule) h.terms) in
        value (instantiate_mem τ a {s = t} (subst (λ (x : Fact). Memᴰ t x.arguments) p k))
      where
        value : Value a.variables (head_term d (assign (universal h.entry.rule) h.terms)) t → Memᴰ t ts ⊎ Invented (entries b) ts t
        value (inl (v, _, l, g)) =
            subst (λ (u : Term). Memᴰ u ts ⊎ Invented (entries b) ts u) (sym g)
            (head_terms b w ts h.terms h.entry h.known (triggers_mem h.entry.rule ts (stage b n).facts h.trigger).0 d i v (mem_variables_of j l))
        value (inr (v, r, l, g)) =
            inl (prefix_mem (leaves_first b n) (Memᴰ.cast g (fixed_leaf b (v - 8) (constant_declared (disjunct_well_formed b w h.known i j) r l b.fixed))))

    go : Fires (entries b) (stage b n) f → Memᴰ t ts ⊎ Invented (entries b) ts t
    go h =
        let s = assign (universal h.entry.rule) h.terms in
        let (d, i, l) = output_mem s h.entry.disjuncts h.fact in
        atom h d i (head_facts_mem s d l)

-- a term of the next stage is one of this, or a Skolem term over terms of this
pub terms_from : (b : RuleSet) → WellFormed b → (n : ℕ) {t : Term} → Memᴰ t (stage b (suc n)).terms
    → Memᴰ t (stage b n).terms ⊎ Invented (entries b) (stage b n).terms t
terms_from b w n {t} m = go (extend_mem same (stage b n).terms (terms_of (stage b (suc n)).facts) (rw (stage_suc_terms b n) at m))
  where
    named : (f : Fact) → Memᴰ t f.arguments → Memᴰ f (stage b n).facts ⊎ Memᴰ f (outputs_of b n)
        → Memᴰ t (stage b n).terms ⊎ Invented (entries b) (stage b n).terms t
    named f k (inl i) = inl (arguments_in_terms b n i k)
    named f k (inr i) = outputs_terms b w n i k

    go : Memᴰ t (stage b n).terms ⊎ Memᴰ t (terms_of (stage b (suc n)).facts)
        → Memᴰ t (stage b n).terms ⊎ Invented (entries b) (stage b n).terms t
    go (inl i) = inl i
    go (inr i) = let (f, j, k) = terms_of_mem (stage b (suc n)).facts i in named f k (facts_from b n j)

-- ⋆, a rule constant, or a Skolem term over one to eight such terms: no other constant, renamed or fresh constant anywhere
pub data Proper : Term → Type 0 where
  proper_star : Proper star
  proper_fixed : {c : ℕ} → Proper (fixed c)
  proper_skolem : {f : ℕ} {ts : Terms} → 1 ≤ f → 1 ≤ length (list ts) → length (list ts) ≤ 8 → ((t : Term) → Memᴰ t (list ts) → Proper t)
      → Proper (skolem f ts)

invented_proper : {es : List Entry} {ts : List Term} {t : Term} → ((u : Term) → Memᴰ u ts → Proper u) → Invented es ts t → Proper t
invented_proper h i =
    subst (λ (u : Term). Proper u) (sym i.term) (proper_skolem (omega arith) i.some i.few (λ u m. h u (i.old u m)))

pub terms_proper : (b : RuleSet) → WellFormed b → (n : ℕ) {t : Term} → Memᴰ t (stage b n).terms → Proper t
terms_proper b w zero {t} m = go (leaves_mem b (rw (stage_zero_terms b) at m))
  where
    go : LeafOf b t → Proper t
    go (inl e) = subst (λ (u : Term). Proper u) (sym e) proper_star
    go (inr (c, _, e)) = subst (λ (u : Term). Proper u) (sym e) proper_fixed
terms_proper b w (suc n) {t} m =
    ⊎_elim (λ (i : Memᴰ t (stage b n).terms). terms_proper b w n i)
    (λ (i : Invented (entries b) (stage b n).terms t). invented_proper (λ u k. terms_proper b w n k) i) (terms_from b w n m)

-- a rule constant among them is declared
pub fixed_declared : (b : RuleSet) → WellFormed b → (n : ℕ) {c : ℕ} → Memᴰ (fixed c) (stage b n).terms → c < b.fixed
fixed_declared b w zero {c} m = go (leaves_mem b (rw (stage_zero_terms b) at m))
  where
    go : LeafOf b (fixed c) → c < b.fixed
    go (inl e) = let z : ◌≡◌ {A = ℕ} 0 1 = cc in absurd (omega arith)
    go (inr (i, h, e)) = let q : c ≡ i = cc in omega arith
fixed_declared b w (suc n) {c} m = go (λ k. fixed_declared b w n k) (terms_from b w n m)
  where
    go : (Memᴰ (fixed c) (stage b n).terms → c < b.fixed) → Memᴰ (fixed c) (stage b n).terms ⊎ Invented (entries b) (stage b n).terms (fixed c) → c < b.fixed
    go below (inl k) = below k
    go below (inr i) = let p = i.term in let z : ◌≡◌ {A = ℕ} 0 1 = cc in absurd (omega arith)

pub fixed_none : (b : RuleSet) → WellFormed b → (n c : ℕ) → Memᴰ (fixed c) (stage b n).terms → ⊥
fixed_none b w n c m = let h = fixed_declared b w n m in omega (arith, w.unnamed)

-- each Skolem term's arguments stand before it
abbrev pub Ordered : List Term → Type 0
Ordered ts = (us : List Term) (f : ℕ) (as' : Terms) (vs : List Term) → ts ≡ us ++ (skolem f as' ∷ vs) → (t : Term) → Memᴰ t (list as') → Memᴰ t us

-- where an element of a list of two parts stands
append_split {ℓ} : {A : Type ℓ} (xs zs us : List A) (c : A) (vs : List A) → xs ++ zs ≡ us ++ (c ∷ vs)
    → ((ws : List A) × (xs ≡ us ++ (c ∷ ws))) ⊎ ((ws : List A) × (us ≡ xs ++ ws) × Memᴰ c zs)
append_split [] zs us c vs e = inr (us, refl, rw e (Memᴰ.append_right us (Memᴰ.head refl)))
append_split (x ∷ xs) zs [] c vs e = let h : x ≡ c = cc in inl (xs, cc)
append_split {A = A} (x ∷ xs) zs (u ∷ us) c vs e =
    let h : x ≡ u = cc in
    let k : xs ++ zs ≡ us ++ (c ∷ vs) = cc in
    go h (append_split xs zs us c vs k)
  where
    go : x ≡ u → ((ws : List A) × (xs ≡ us ++ (c ∷ ws))) ⊎ ((ws : List A) × (us ≡ xs ++ ws) × Memᴰ c zs)
        → ((ws : List A) × (x ∷ xs ≡ u ∷ (us ++ (c ∷ ws)))) ⊎ ((ws : List A) × (u ∷ us ≡ x ∷ (xs ++ ws)) × Memᴰ c zs)
    go h (inl (ws, i)) = inl (ws, cc)
    go h (inr (ws, i, j)) = inr (ws, cc, j)

mem_split {ℓ} : {A : Type ℓ} {x : A} {xs : List A} → Memᴰ x xs → (us : List A) × (vs : List A) × (xs ≡ us ++ (x ∷ vs))
mem_split {x = x} (Memᴰ.head {x = y} {xs = ys} e) = ([], ys, ap (λ z. z ∷ ys) (sym e))
mem_split (Memᴰ.tail {x = y} {xs = ys} m) = let (us, vs, e) = mem_split m in (y ∷ us, vs, ap (λ zs. y ∷ zs) e)

pub ordered_mem : {ts : List Term} → Ordered ts → {f : ℕ} {as' : Terms} → Memᴰ (skolem f as') ts → (t : Term) → Memᴰ t (list as')
    → Memᴰ t ts
ordered_mem {ts} o {f} {as'} m t k =
    let (us, vs, e) = mem_split m in
    subst (λ (l : List Term). Memᴰ t l) (sym e) (Memᴰ.append_left (skolem f as' ∷ vs) (o us f as' vs e t k))

append_ordered : (xs zs : List Term) → Ordered xs
    → ((f : ℕ) (as' : Terms) → Memᴰ (skolem f as') zs → (t : Term) → Memᴰ t (list as') → Memᴰ t xs) → Ordered (xs ++ zs)
append_ordered xs zs o h us f as' vs e t k = go (append_split xs zs us (skolem f as') vs e)
  where
    go : ((ws : List Term) × (xs ≡ us ++ (skolem f as' ∷ ws))) ⊎ ((ws : List Term) × (us ≡ xs ++ ws) × Memᴰ (skolem f as') zs) → Memᴰ t us
    go (inl (ws, i)) = o us f as' ws i t k
    go (inr (ws, i, j)) = rw i (Memᴰ.append_left ws (h f as' j t k))

invented_old : {es : List Entry} {ts : List Term} {f : ℕ} {as' : Terms} → Invented es ts (skolem f as') → (t : Term) → Memᴰ t (list as')
    → Memᴰ t ts
invented_old {ts = ts} {as' = as'} i t k =
    let p = i.term in
    let e : as' ≡ i.arguments = cc in
    i.old t (subst (λ (us : Terms). Memᴰ t (list us)) e k)

pub terms_ordered : (b : RuleSet) → WellFormed b → (n : ℕ) → Ordered (stage b n).terms
terms_ordered b w zero = rw (stage_zero_terms b) alone
  where
    no_skolem : {f : ℕ} {as' : Terms} → LeafOf b (skolem f as') → ⊥
    no_skolem (inl e) = let z : ◌≡◌ {A = ℕ} 0 1 = cc in omega arith
    no_skolem (inr (c, _, e)) = let z : ◌≡◌ {A = ℕ} 0 1 = cc in omega arith

    alone : Ordered (leaves b)
    alone us f as' vs e t k = absurd (no_skolem (leaves_mem b (subst (λ (l : List Term). Memᴰ (skolem f as') l) (sym e) (Memᴰ.append_right us (Memᴰ.head refl)))))
terms_ordered b w (suc n) = go (terms_ordered b w n) (terms_grow_once b n)
  where
    old : Ordered (stage b n).terms → (f : ℕ) (as' : Terms) → Memᴰ (skolem f as') (stage b (suc n)).terms → (t : Term) → Memᴰ t (list as')
        → Memᴰ t (stage b n).terms
    old o f as' m t k =
        ⊎_elim (λ (i : Memᴰ (skolem f as') (stage b n).terms). ordered_mem o i t k)
        (λ (i : Invented (entries b) (stage b n).terms (skolem f as')). invented_old i t k) (terms_from b w n m)

    go : Ordered (stage b n).terms → Prefix (stage b n).terms (stage b (suc n)).terms → Ordered (stage b (suc n)).terms
    go o p =
        subst (λ (l : List Term). Ordered l) (sym p.whole)
        (append_ordered (stage b n).terms p.rest o
        (λ f as' m. old o f as' (subst (λ (l : List Term). Memᴰ (skolem f as') l) (sym p.whole) (Memᴰ.append_right (stage b n).terms m))))

-- the same by index
pub ordered_index : {ts : List Term} → Ordered ts → (i : ℕ) → i < length ts → {f : ℕ} {as' : Terms} → get_or ts i star ≡ skolem f as' → (t : Term)
    → Memᴰ t (list as') → index same t ts < i
ordered_index {ts} o i h {f} {as'} e t k =
    let p : ts ≡ take i ts ++ (skolem f as' ∷ drop (suc i) ts) = split_at ts i star h ∙ ap (λ (x : Term). take i ts ++ (x ∷ drop (suc i) ts)) e in
    let m = o (take i ts) f as' (drop (suc i) ts) p t k in
    let q : index same t ts ≡ index same t (take i ts) =
    ap (index same t) p ∙ index_append same same_decides t (take i ts) (skolem f as' ∷ drop (suc i) ts) m in
    let l = (index_mem same same_decides t (take i ts) star m).0 in
    let n = length-take i ts in
    omega arith

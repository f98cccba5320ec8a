-- The records of a stage stand in C-11's order: its new facts where their least derivations put them, its new terms as these facts name them,
-- and the cyclic term that is shown first among them. Assumes nothing.
use mathlib.Core.Path.{◌≡◌, refl, sym, ap, ap₂, ◌∙◌, subst}
use mathlib.Core.Bool.{Bool, true, false}
use mathlib.Core.Logic.{◌⊎◌, inl, inr, ⊎_elim}
use mathlib.Core.List.Memᴰ
use mathlib.Core.List.{List, [], ◌∷◌, ◌++◌, map, append_assoc, append-nil, Memᴰ}
use Prim.Native.Nat.{ℕ, suc}
use lib.ListN.{take}
use Rattle.model.specs.Lists.{any, keep, collect, extend}
use Rattle.model.specs.Term.{Term, same, cyclic}
use Rattle.model.specs.Rules.{RuleSet, entries}
use Rattle.model.specs.Triggers.{Fact, same_fact, present, terms_of}
use Rattle.model.specs.Stages.{stage, outputs, cyclic_terms}
use Rattle.model.specs.Order.{Derived, Before, derived, firsts}
use Rattle.laws.specs.Lists.{Rises, rises_none, rises_one}
use Rattle.laws.proofs.Bools.{case}
use Rattle.laws.proofs.Lists.{Decides, any_eq_mem, any_eq_not_mem, extend_old, extend_new, extend_prefix, collect_append, keep_append, keep_nothing, keep_no}
use Rattle.laws.proofs.Terms.{same_decides}
use Rattle.laws.proofs.Facts.{same_fact_decides, terms_of_mem, terms_of_append}
use Rattle.laws.proofs.Extending.{extend_absorb}
use Rattle.laws_stages.proofs.Growth.{stage_suc_facts, stage_suc_terms, terms_distinct, arguments_in_terms}
use Rattle.laws_stages.proofs.Derived.{collect_single, derived_outputs, derived_rises}

abbrev facts_by : List Derived → List Fact
facts_by xs = map (λ (x : Derived). x.fact) xs

-- first derivations

firsts_old : (fs : List Fact) (x : Derived) (xs : List Derived) → present fs x.fact ≡ true → firsts fs (x ∷ xs) ≡ firsts fs xs
unfolding firsts
firsts_old fs x xs e = rw (e, firsts)

firsts_new : (fs : List Fact) (x : Derived) (xs : List Derived) → present fs x.fact ≡ false → firsts fs (x ∷ xs) ≡ x ∷ firsts (fs ++ (x.fact ∷ [])) xs
unfolding firsts
firsts_new fs x xs e = rw (e, firsts)

-- their facts are what is added
firsts_facts : (fs : List Fact) (xs : List Derived) → extend same_fact fs (facts_by xs) ≡ fs ++ facts_by (firsts fs xs)
unfolding extend firsts present
firsts_facts fs [] = sym (append-nil fs)
firsts_facts fs (x ∷ xs) = go (λ gs. firsts_facts gs xs) (case (present fs x.fact))
  where
    go : ((gs : List Fact) → extend same_fact gs (facts_by xs) ≡ gs ++ facts_by (firsts gs xs)) → (present fs x.fact ≡ true) ⊎ (present fs x.fact ≡ false)
        → extend same_fact fs (x.fact ∷ facts_by xs) ≡ fs ++ facts_by (firsts fs (x ∷ xs))
    go below (inl e) = extend_old same_fact fs x.fact (facts_by xs) e ∙ below fs ∙ ap (λ (ys : List Derived). fs ++ facts_by ys) (sym (firsts_old fs x xs e))
    go below (inr e) =
        extend_new same_fact fs x.fact (facts_by xs) e
        ∙ below (fs ++ (x.fact ∷ []))
        ∙ append_assoc fs (x.fact ∷ []) (facts_by (firsts (fs ++ (x.fact ∷ [])) xs))
        ∙ ap (λ (ys : List Derived). fs ++ facts_by ys) (sym (firsts_new fs x xs e))

-- each is one of the derivations, of a fact that is new
firsts_mem : (fs : List Fact) (xs : List Derived) {x : Derived} → Memᴰ x (firsts fs xs) → Memᴰ x xs × (Memᴰ x.fact fs → ⊥)
unfolding firsts present
firsts_mem fs [] m = absurd (Memᴰ.not-nil m)
firsts_mem fs (z ∷ zs) {x} m = go (λ gs k. firsts_mem gs zs k) (case (present fs z.fact))
  where
    later : (present fs z.fact ≡ false) → ((gs : List Fact) → Memᴰ x (firsts gs zs) → Memᴰ x zs × (Memᴰ x.fact gs → ⊥))
        → (x ≡ z) ⊎ Memᴰ x (firsts (fs ++ (z.fact ∷ [])) zs) → Memᴰ x (z ∷ zs) × (Memᴰ x.fact fs → ⊥)
    later e below (inl q) =
        (Memᴰ.head q, λ k. any_eq_not_mem same_fact same_fact_decides e (subst (λ (y : Derived). Memᴰ y.fact fs) q k))
    later e below (inr k) =
        let (i, n) = below (fs ++ (z.fact ∷ [])) k in
        (Memᴰ.tail i, λ j. n (Memᴰ.append_left (z.fact ∷ []) j))

    go : ((gs : List Fact) → Memᴰ x (firsts gs zs) → Memᴰ x zs × (Memᴰ x.fact gs → ⊥))
        → (present fs z.fact ≡ true) ⊎ (present fs z.fact ≡ false) → Memᴰ x (z ∷ zs) × (Memᴰ x.fact fs → ⊥)
    go below (inl e) = let (i, n) = below fs (subst (Memᴰ x) (firsts_old fs z zs e) m) in (Memᴰ.tail i, n)
    go below (inr e) = later e below (Memᴰ.cases_cons (subst (Memᴰ x) (firsts_new fs z zs e) m))

firsts_rise : (fs : List Fact) (xs : List Derived) → Rises Before xs → Rises Before (firsts fs xs)
unfolding firsts
firsts_rise fs [] rises_none = rises_none
firsts_rise fs (x ∷ xs) (rises_one n r) = go (λ gs. firsts_rise gs xs r) (case (present fs x.fact))
  where
    go : ((gs : List Fact) → Rises Before (firsts gs xs)) → (present fs x.fact ≡ true) ⊎ (present fs x.fact ≡ false) → Rises Before (firsts fs (x ∷ xs))
    go below (inl e) = subst (Rises Before) (sym (firsts_old fs x xs e)) (below fs)
    go below (inr e) =
        subst (Rises Before) (sym (firsts_new fs x xs e))
        (rises_one (λ y m. n y (firsts_mem (fs ++ (x.fact ∷ [])) xs m).0) (below (fs ++ (x.fact ∷ []))))

-- and the least of its fact
firsts_least : (fs : List Fact) (xs : List Derived) → Rises Before xs → {x y : Derived} → Memᴰ x (firsts fs xs) → Memᴰ y xs → y.fact ≡ x.fact
    → (x ≡ y) ⊎ Before x y
unfolding firsts present
firsts_least fs [] rises_none m k q = absurd (Memᴰ.not-nil k)
firsts_least fs (z ∷ zs) (rises_one n r) {x} {y} m k q =
    go (λ gs i j. firsts_least gs zs r i j q) (case (present fs z.fact)) (Memᴰ.cases_cons k)
  where
    apart : (gs : List Fact) → Memᴰ z.fact gs → Memᴰ x (firsts gs zs) → y ≡ z → ⊥
    apart gs p i e = (firsts_mem gs zs i).1 (Memᴰ.cast (sym (ap (λ (w : Derived). w.fact) (sym e) ∙ q)) p)

    first : ((gs : List Fact) → Memᴰ x (firsts gs zs) → Memᴰ y zs → (x ≡ y) ⊎ Before x y) → (x ≡ z) ⊎ Memᴰ x (firsts (fs ++ (z.fact ∷ [])) zs)
        → (y ≡ z) ⊎ Memᴰ y zs → (x ≡ y) ⊎ Before x y
    first below (inl a) (inl c) = inl (a ∙ sym c)
    first below (inl a) (inr c) = inr (subst (λ (w : Derived). Before w y) (sym a) (n y c))
    first below (inr a) (inl c) = absurd (apart (fs ++ (z.fact ∷ [])) (Memᴰ.append_right fs (Memᴰ.head refl)) a c)
    first below (inr a) (inr c) = below (fs ++ (z.fact ∷ [])) a c

    old : ((gs : List Fact) → Memᴰ x (firsts gs zs) → Memᴰ y zs → (x ≡ y) ⊎ Before x y) → present fs z.fact ≡ true → Memᴰ x (firsts fs zs)
        → (y ≡ z) ⊎ Memᴰ y zs → (x ≡ y) ⊎ Before x y
    old below e i (inl c) = absurd (apart fs (any_eq_mem same_fact same_fact_decides z.fact fs e) i c)
    old below e i (inr c) = below fs i c

    go : ((gs : List Fact) → Memᴰ x (firsts gs zs) → Memᴰ y zs → (x ≡ y) ⊎ Before x y) → (present fs z.fact ≡ true) ⊎ (present fs z.fact ≡ false)
        → (y ≡ z) ⊎ Memᴰ y zs → (x ≡ y) ⊎ Before x y
    go below (inl e) c = old below e (subst (Memᴰ x) (firsts_old fs z zs e) m) c
    go below (inr e) c = first below (Memᴰ.cases_cons (subst (Memᴰ x) (firsts_new fs z zs e) m)) c

-- the theorems: what stage n + 1 adds to stage n

module _ (b : RuleSet) (n : ℕ) where
  -- the first derivation of each new fact
  abbrev pub newest : List Derived
  newest = firsts (stage b n).facts (derived (entries b) (stage b n))

  pub facts_listed : (stage b (suc n)).facts ≡ (stage b n).facts ++ facts_by newest
  facts_listed =
      stage_suc_facts b n
      ∙ ap (extend same_fact (stage b n).facts) (sym (derived_outputs (entries b) (stage b n)))
      ∙ firsts_facts (stage b n).facts (derived (entries b) (stage b n))

  pub facts_rise : Rises Before newest
  facts_rise = firsts_rise (stage b n).facts (derived (entries b) (stage b n)) (derived_rises (entries b) (stage b n) (terms_distinct b n))

  pub fact_first : {x y : Derived} → Memᴰ x newest → Memᴰ y (derived (entries b) (stage b n)) → y.fact ≡ x.fact → (x ≡ y) ⊎ Before x y
  fact_first = firsts_least (stage b n).facts (derived (entries b) (stage b n)) (derived_rises (entries b) (stage b n) (terms_distinct b n))

  pub fact_new : {x : Derived} → Memᴰ x newest → Memᴰ x (derived (entries b) (stage b n)) × (Memᴰ x.fact (stage b n).facts → ⊥)
  fact_new = firsts_mem (stage b n).facts (derived (entries b) (stage b n))

  pub terms_listed : (stage b (suc n)).terms ≡ extend same (stage b n).terms (terms_of (facts_by newest))
  terms_listed =
      stage_suc_terms b n
      ∙ ap (λ (fs : List Fact). extend same (stage b n).terms (terms_of fs)) facts_listed
      ∙ ap (extend same (stage b n).terms) (terms_of_append (stage b n).facts (facts_by newest))
      ∙ extend_absorb same same_decides (stage b n).terms (terms_of (stage b n).facts) (terms_of (facts_by newest))
      (λ t m. let (f, i, j) = terms_of_mem (stage b n).facts m in arguments_in_terms b n i j)

-- the first element of a kind, among those that are added

module _ {A B : Type 0} (eq : A → A → Bool) (dec : Decides eq) (f : A → List B) (p : B → Bool) where
  keep_collect_nothing : (xs : List A) → ((x : A) → Memᴰ x xs → keep p (f x) ≡ []) → keep p (collect f xs) ≡ []
  unfolding collect keep
  keep_collect_nothing [] h = refl
  keep_collect_nothing (x ∷ xs) h =
      keep_append p (f x) (collect f xs) ∙ ap₂ ◌++◌ (h x (Memᴰ.head refl)) (keep_collect_nothing xs (λ y m. h y (Memᴰ.tail m)))

  first_added : (xs ys : List A) → ((x : A) → Memᴰ x xs → keep p (f x) ≡ []) → take 1 (keep p (collect f (extend eq xs ys))) ≡ take 1 (keep p (collect f ys))
  unfolding extend collect keep
  first_added xs [] h = ap (take 1) (keep_collect_nothing xs h)
  first_added xs (y ∷ ys) h = go (λ zs k. first_added zs ys k) (case (any (eq y) xs))
    where
      step : (us : List B) → keep p (f y) ≡ us → keep p (collect f (y ∷ ys)) ≡ us ++ keep p (collect f ys)
      step us e = keep_append p (f y) (collect f ys) ∙ ap (λ (vs : List B). vs ++ keep p (collect f ys)) e

      found : (v : B) (vs : List B) → keep p (f y) ≡ v ∷ vs → take 1 (keep p (collect f (extend eq (xs ++ (y ∷ [])) ys))) ≡ v ∷ []
      found v vs e =
          let (zs, k) = extend_prefix eq (xs ++ (y ∷ [])) ys in
          ap (λ (us : List A). take 1 (keep p (collect f us))) (k ∙ append_assoc xs (y ∷ []) zs)
          ∙ ap (λ (us : List B). take 1 (keep p us)) (collect_append f xs (y ∷ zs))
          ∙ ap (take 1) (keep_append p (collect f xs) (f y ++ collect f zs))
          ∙ ap (λ (us : List B). take 1 (us ++ keep p (f y ++ collect f zs))) (keep_collect_nothing xs h)
          ∙ ap (take 1) (keep_append p (f y) (collect f zs))
          ∙ ap (λ (us : List B). take 1 (us ++ keep p (collect f zs))) e

      with : (us : List B) → keep p (f y) ≡ us → ((zs : List A) → ((x : A) → Memᴰ x zs → keep p (f x) ≡ []) → take 1 (keep p (collect f (extend eq zs ys))) ≡ take 1 (keep p (collect f ys)))
          → take 1 (keep p (collect f (extend eq (xs ++ (y ∷ [])) ys))) ≡ take 1 (keep p (collect f (y ∷ ys)))
      with (v ∷ vs) e below = found v vs e ∙ sym (ap (take 1) (step (v ∷ vs) e))
      with [] e below =
          below (xs ++ (y ∷ []))
          (λ x m. ⊎_elim (λ (i : Memᴰ x xs). h x i) (λ (i : Memᴰ x (y ∷ [])). ap (λ (w : A). keep p (f w)) (Memᴰ.eq_of_singleton i) ∙ e) (Memᴰ.append_cases xs m))
          ∙ sym (ap (take 1) (step [] e))

      go : ((zs : List A) → ((x : A) → Memᴰ x zs → keep p (f x) ≡ []) → take 1 (keep p (collect f (extend eq zs ys))) ≡ take 1 (keep p (collect f ys)))
          → (any (eq y) xs ≡ true) ⊎ (any (eq y) xs ≡ false) → take 1 (keep p (collect f (extend eq xs (y ∷ ys)))) ≡ take 1 (keep p (collect f (y ∷ ys)))
      go below (inl e) =
          ap (λ (us : List A). take 1 (keep p (collect f us))) (extend_old eq xs y ys e)
          ∙ below xs h
          ∙ sym (ap (take 1) (step [] (h y (any_eq_mem eq dec y xs e))))
      go below (inr e) = ap (λ (us : List A). take 1 (keep p (collect f us))) (extend_new eq xs y ys e) ∙ with (keep p (f y)) refl below

-- where no term of stage n is cyclic, the shown term is the first cyclic one among those of stage n + 1
pub shown_first : (d : ℕ) (b : RuleSet) (n : ℕ) → ((t : Term) → Memᴰ t (stage b n).terms → cyclic d t ≡ false)
    → take 1 (cyclic_terms d (entries b) (stage b n)) ≡ take 1 (keep (cyclic d) (stage b (suc n)).terms)
unfolding cyclic_terms terms_of keep
shown_first d b n acyclic =
    sym
    (ap (λ (ts : List Term). take 1 (keep (cyclic d) ts)) (stage_suc_terms b n ∙ sym (collect_self (extend same (stage b n).terms (terms_of (stage b (suc n)).facts))))
    ∙ first_added same same_decides (λ (t : Term). t ∷ []) (cyclic d) (stage b n).terms (terms_of (stage b (suc n)).facts) (λ t m. keep_no (cyclic d) t [] (acyclic t m))
    ∙ ap (λ (ts : List Term). take 1 (keep (cyclic d) ts)) (collect_self (terms_of (stage b (suc n)).facts))
    ∙ ap (λ (fs : List Fact). take 1 (keep (cyclic d) (terms_of fs))) (stage_suc_facts b n)
    ∙ first_added same_fact same_fact_decides (λ (f : Fact). f.arguments) (cyclic d) (stage b n).facts (outputs (entries b) (stage b n))
    (λ f m. keep_nothing (cyclic d) f.arguments (λ t k. acyclic t (arguments_in_terms b n m k))))
  where
    map_self : (ts : List Term) → map (λ (t : Term). t) ts ≡ ts
    map_self [] = refl
    map_self (t ∷ ts) = ap (λ (us : List Term). t ∷ us) (map_self ts)

    collect_self : (ts : List Term) → collect (λ (t : Term). t ∷ []) ts ≡ ts
    collect_self ts = collect_single (λ (t : Term). t) ts ∙ map_self ts

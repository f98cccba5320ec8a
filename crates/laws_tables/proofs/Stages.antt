-- The stages of a well-formed rule set can be recorded, with more terms of the next stage after their own. Assumes nothing.
use mathlib.Core.Path.{◌≡◌, refl, sym, ap, ◌∙◌, subst}
use mathlib.Core.Logic.{◌⊎◌, inl, inr, ⊎_elim}
use mathlib.Core.List.Memᴰ
use mathlib.Core.List.{List, ◌∷◌, ◌++◌, Memᴰ}
use Prim.Native.Nat.{ℕ, zero, suc, ◌+◌, ◌-◌, ◌≤◌, ◌<◌}
use native.Mathlib.Decide.{dec_lt}
use native.Mathlib.Omega.{arith}
use lib.Dec.{eqb}
use lib.ListN.{length, get_or, take, drop, length-append, take-append-drop, get_or-append}
use lib.Seq.{length-take-le, drop-cons, get_or-append-add}
use Rattle.model.specs.Term.{Term, star, constant, fixed, apart, fresh, skolem, list}
use Rattle.model.specs.Rules.{RuleSet, Entry, entries, existential}
use Rattle.model.specs.WellFormed.{WellFormed}
use Rattle.model.specs.Stages.{stage}
use Rattle.model.specs.Tables.{number, term_row}
use Rattle.laws.proofs.WellFormed.{predicates_few}
use Rattle.laws.proofs.Lists.{eqb_decides, index_mem, get_or_mem}
use Rattle.laws.proofs.Terms.{number_append}
use Rattle.laws_stages.specs.Reached.{Reached}
use Rattle.laws_stages.proofs.Tuples.{LeafOf, leaves_mem}
use Rattle.laws_stages.proofs.Growth.{stage_zero_terms, arguments_in_terms}
use Rattle.laws_stages.proofs.Arities.{facts_well_formed, arguments_range}
use Rattle.laws_stages.proofs.Order.{Invented, Proper, proper_star, proper_fixed, proper_skolem, Ordered, terms_from, terms_proper, terms_ordered}
use Rattle.laws_stages.proofs.Verdict.{reached_facts_within, reached_terms_within}
use Rattle.laws_tables.proofs.Numbering.{number_below, get_or_number}
use Rattle.laws_tables.proofs.Terms.{Recordable, plain, known, marked, TermList}
use Rattle.laws_tables.proofs.Recorded.{Recorded}
use Rattle.laws_tables.proofs.Fronts.{Within}
use Rattle.laws_tables.proofs.Functions.{last_function_bounded}

star_plain : (ts : List Term) (i : ℕ) → Recordable (λ j. star) ts i star
unfolding term_row
star_plain ts i = plain refl refl

-- a term that stands before place i has a number below it
number_before : (ts : List Term) (i : ℕ) → i ≤ length ts → {a : Term} → Memᴰ a (take i ts) → number ts a < i
number_before ts i l {a} m =
    let k = number_below a m in
    let e : number ts a ≡ number (take i ts) a = ap (λ (xs : List Term). number xs a) (sym (take-append-drop i ts)) ∙ number_append a (take i ts) (drop i ts) m in
    let n = length-take-le i ts l in
    omega arith

-- terms whose own number is small: Skolem functions up to 2,048, and the first three rule constants
abbrev Small : Term → Type 0
Small star = Unit {0}
Small (constant c) = Unit {0}
Small (fixed c) = c < 3
Small (apart p) = Unit {0}
Small (fresh t v) = Unit {0}
Small (skolem f as') = f ≤ 2048

-- the term at place i of a list of proper terms in order
recordable_at : (ts : List Term) → Ordered ts → (i : ℕ) → i < length ts → (t : Term) → get_or ts i star ≡ t → Proper t → Small t → Recordable (λ j. star) ts i t
recordable_at ts o i l t e proper_star h = star_plain ts i
recordable_at ts o i l t e proper_fixed h = known h
recordable_at ts o i l t e (proper_skolem {f} {ts = as'} p some few each) h =
    marked p h few (λ a m. let k = before a m in (subst (λ (xs : List Term). Memᴰ a xs) (take-append-drop i ts) (Memᴰ.append_left (drop i ts) k), number_before ts i (omega arith) k))
  where
    split : ts ≡ take i ts ++ (skolem f as' ∷ drop (suc i) ts)
    split = sym (take-append-drop i ts) ∙ ap (λ (xs : List Term). take i ts ++ xs) (drop-cons ts i star l ∙ ap (λ (x : Term). x ∷ drop (suc i) ts) e)

    before : (a : Term) → Memᴰ a (list as') → Memᴰ a (take i ts)
    before a m = o (take i ts) f as' (drop (suc i) ts) split a m

-- a record may stand later
recordable_later : {ts : List Term} {i j : ℕ} {t : Term} → i ≤ j → Recordable (λ j. star) ts i t → Recordable (λ j. star) ts j t
recordable_later l (plain e k) = plain e k
recordable_later l (known p) = known p
recordable_later l (marked p b q h) = marked p b q (λ a m. let (i, k) = h a m in (i, omega arith))

invented_recordable : {es : List Entry} {ts : List Term} {t : Term} (i : ℕ) → length ts ≤ i → Small t → Invented es ts t → Recordable (λ j. star) ts i t
invented_recordable {ts = ts} i l s h =
    subst (λ (x : Term). Recordable (λ j. star) ts i x) (sym h.term)
    (marked (omega arith) (subst Small h.term s) h.few (λ a m. let k = h.old a m in let n = number_below a k in (k, omega arith)))

-- a term of the list, or a Skolem term over it
abbrev pub Next : List Entry → List Term → Term → Type 0
Next es ts t = Memᴰ t ts ⊎ Invented es ts t

term_list : (es : List Entry) (ts us : List Term) → Ordered ts → ((t : Term) → Memᴰ t ts → Proper t) → ((t : Term) → Next es ts t → Small t)
    → ((u : Term) → Memᴰ u us → Next es ts u) → TermList (λ j. star) ts us
term_list es ts us o p s n i l = go (dec_lt i (length ts))
  where
    own : (i : ℕ) → i < length ts → Recordable (λ j. star) ts i (get_or ts i star)
    own i k = let m = get_or_mem ts i star k in recordable_at ts o i k (get_or ts i star) refl (p (get_or ts i star) m) (s (get_or ts i star) (inl m))

    next : (u : Term) → length ts ≤ i → Next es ts u → Recordable (λ j. star) ts i u
    next u k (inl m) =
        let j = number_below u m in
        recordable_later (omega arith) (subst (λ (x : Term). Recordable (λ j. star) ts (number ts u) x) (get_or_number u star m) (own (number ts u) j))
    next u k (inr m) = invented_recordable i k (s u (inr m)) m

    more : (j : ℕ) → length ts + j ≡ i → j < length us → length ts ≤ i → Recordable (λ j. star) ts i (get_or (ts ++ us) i star)
    more j e m k = rw (← e, get_or-append-add ts us j star, e) (next (get_or us j star) k (n (get_or us j star) (get_or_mem us j star m)))

    go : Dec (i < length ts) → Recordable (λ j. star) ts i (get_or (ts ++ us) i star)
    go (yes k) = rw (get_or-append ts us star i k) (own i k)
    go (no k) =
        let s = length-append ts us in
        more (i - length ts) (omega arith) (omega arith) (omega arith)

-- the terms of the stages and of what comes next are such

fixed_few : {b : RuleSet} → WellFormed b → b.fixed ≤ 3
fixed_few w = omega (arith, w.unnamed)

module _ (b : RuleSet) (w : WellFormed b) where
  invented_small : {ts : List Term} {t : Term} → Invented (entries b) ts t → Small t
  invented_small h =
      let l = (index_mem eqb eqb_decides h.variable (existential h.disjunct.rule h.disjunct.atoms) 0 h.exists).0 in
      let k = last_function_bounded b w h.known h.own in
      subst Small (sym h.term) (omega arith)

  next_small : {ts : List Term} → ((t : Term) → Memᴰ t ts → Small t) → (t : Term) → Next (entries b) ts t → Small t
  next_small h t (inl m) = h t m
  next_small h t (inr m) = invented_small m

  stage_small : (n : ℕ) (t : Term) → Memᴰ t (stage b n).terms → Small t
  stage_small zero t m = go (leaves_mem b (rw (stage_zero_terms b) at m))
    where
      go : LeafOf b t → Small t
      go (inl e) = subst Small (sym e) tt
      go (inr (c, l, e)) = let k = fixed_few w in subst Small (sym e) (omega arith)
  stage_small (suc n) t m = next_small (stage_small n) t (terms_from b w n m)

module _ (b : RuleSet) (w : WellFormed b) (n : ℕ) (us : List Term) (next : (u : Term) → Memᴰ u us → Next (entries b) (stage b n).terms u) where
  pub stage_recorded : Recorded b.arities (stage b n) us
  stage_recorded =
      record {
        terms = term_list (entries b) (stage b n).terms us (terms_ordered b w n) (λ t m. terms_proper b w n m) (next_small b w (stage_small b w n)) next;
        facts = λ f m.
            let k = facts_well_formed b w n m in
            record { arity = k.arity; few = (arguments_range b w k).1; arguments = λ a i. arguments_in_terms b n m i };
      }

  all_small : (t : Term) → Memᴰ t ((stage b n).terms ++ us) → Small t
  all_small t m =
      ⊎_elim (stage_small b w n t) (λ (k : Memᴰ t us). next_small b w (stage_small b w n) t (next t k)) (Memᴰ.append_cases (stage b n).terms m)

  pub stage_within : {d : ℕ} → Reached d b n → length us ≤ 1 → Within (stage b n) us
  stage_within r l =
      record {
        terms = reached_terms_within b w n r;
        more = l;
        facts = reached_facts_within b w n r;
        functions = λ f as' m. all_small (skolem f as') m;
        names = λ c m. all_small (fixed c) m;
        predicates = λ f m. let k = (facts_well_formed b w n m).declared in let j = predicates_few w in omega arith;
      }

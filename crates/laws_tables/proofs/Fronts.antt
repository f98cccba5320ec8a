-- The records of a stage within the limits fit the fronts of the tables, and no number is above 60,003 in those of terms, or above 2,048 in those
-- of facts. Assumes nothing.
use mathlib.Core.Path.{◌≡◌, ap, ◌∙◌}
use mathlib.Core.Logic.{◌⊎◌, inl, inr, ⊎_elim}
use mathlib.Core.List.{List, [], ◌∷◌, ◌++◌, map, Memᴰ}
use Prim.Native.Nat.{ℕ, ◌+◌, ◌≤◌, ◌<◌}
use native.Mathlib.Omega.{arith}
use lib.ListN.{length, take, drop, length-append}
use Rattle.model.specs.Lists.{padded}
use Rattle.model.specs.Term.{Term, Terms, star, fixed, skolem, list}
use Rattle.model.specs.Triggers.{Fact}
use Rattle.model.specs.Stages.{Stage, Verdict}
use Rattle.model.specs.Limits.{fixed_mark, terms_front, facts_front}
use Rattle.model.specs.Tables.{Checked, number, term_row, fact_row, recorded}
use Rattle.laws.proofs.Lists.{collect_mem, map_mem, mem_replicate}
use Rattle.laws_format.proofs.Lists.{length_collect}
use Rattle.laws_tables.proofs.Rows.{length_fronted, take_fronted, drop_fronted, padded_mem, fronted_within}
use Rattle.laws_tables.proofs.Numbering.{number_below}
use Rattle.laws_tables.proofs.Terms.{Recordable as RecordableTerm, plain, known, marked, length_term_row, recordable_mem}
use Rattle.laws_tables.proofs.Facts.{Recordable, length_fact_row}
use Rattle.laws_tables.proofs.Recorded.{Recorded, term_records, fact_records, recorded_terms, recorded_facts}

-- within the limits of document 01, with at most one more term
pub record Within (s : Stage) (us : List Term) : Type 0 where
  pub terms : length s.terms ≤ 512
  pub more : length us ≤ 1
  pub facts : length s.facts ≤ 2048
  pub functions : (f : ℕ) (as' : Terms) → Memᴰ (skolem f as') (s.terms ++ us) → f ≤ 2048
  pub names : (c : ℕ) → Memᴰ (fixed c) (s.terms ++ us) → c < 3
  pub predicates : (f : Fact) → Memᴰ f s.facts → f.predicate < 1024

term_row_within : {ts : List Term} {i : ℕ} {t : Term} → RecordableTerm (λ j. star) ts i t → length ts ≤ 512 → (x : ℕ) → Memᴰ x (term_row ts t) → x ≤ 60003
unfolding term_row
term_row_within (plain e k) l x m = let z : x ≡ 0 = mem_replicate 10 (rw e at m) in omega arith
term_row_within (known {n} h) l x m =
    ⊎_elim (λ (k : Memᴰ x ((fixed_mark + n) ∷ [])). let e = mathlib.Core.List.Memᴰ.eq_of_singleton k in omega arith) (λ (e : x ≡ 0). omega arith)
    (padded_mem 10 ((fixed_mark + n) ∷ []) m)
term_row_within {ts} (marked {f} {us = as'} p b q ms) l x m = go (padded_mem 10 (f ∷ length (list as') ∷ map (number ts) (list as')) m)
  where
    argument : Memᴰ x (map (number ts) (list as')) → x ≤ 60003
    argument k =
        let (a, i, e) = map_mem (number ts) (list as') k in
        let n = number_below a (ms a i).0 in
        omega arith

    go : Memᴰ x (f ∷ length (list as') ∷ map (number ts) (list as')) ⊎ (x ≡ 0) → x ≤ 60003
    go (inl k) =
        ⊎_elim (λ (e : x ≡ f). omega arith)
        (λ (i : Memᴰ x (length (list as') ∷ map (number ts) (list as'))).
        ⊎_elim (λ (e : x ≡ length (list as')). omega arith) (λ (j : Memᴰ x (map (number ts) (list as'))). argument j) (mathlib.Core.List.Memᴰ.cases_cons i))
        (mathlib.Core.List.Memᴰ.cases_cons k)
    go (inr e) = omega arith

fact_row_within : {arities : List ℕ} {ts : List Term} {f : Fact} → Recordable arities ts f → length ts ≤ 512 → f.predicate < 1024 → (x : ℕ)
    → Memᴰ x (fact_row ts f) → x ≤ 2048
unfolding fact_row
fact_row_within {ts = ts} {f} h l p x m = go (padded_mem 5 (f.predicate ∷ map (number ts) f.arguments) m)
  where
    argument : Memᴰ x (map (number ts) f.arguments) → x ≤ 2048
    argument k =
        let (a, i, e) = map_mem (number ts) f.arguments k in
        let n = number_below a (h.arguments a i) in
        omega arith

    go : Memᴰ x (f.predicate ∷ map (number ts) f.arguments) ⊎ (x ≡ 0) → x ≤ 2048
    go (inl k) =
        ⊎_elim (λ (e : x ≡ f.predicate). omega arith) (λ (j : Memᴰ x (map (number ts) f.arguments)). argument j) (mathlib.Core.List.Memᴰ.cases_cons k)
    go (inr e) = omega arith

module _ {arities : List ℕ} {s : Stage} {us : List Term} (h : Recorded arities s us) (w : Within s us) where
  terms_fit : length (term_records s us) ≤ terms_front
  terms_fit =
      let k = w.terms in
      let l = w.more in
      rw (length_collect (term_row s.terms) 10 (s.terms ++ us) (λ t m. length_term_row (recordable_mem (λ j. star) s.terms us h.terms m)), length-append) (omega arith)

  facts_fit : length (fact_records s) ≤ facts_front
  facts_fit =
      let k = w.facts in
      rw (length_collect (fact_row s.terms) 5 s.facts (λ f m. length_fact_row (h.facts f m))) (omega arith)

  module _ (v : Verdict) (terms₀ facts₀ : List ℕ) where
    abbrev left : Checked
    left = recorded v s us terms₀ facts₀

    -- records first and zeros after
    pub terms_front_is : take terms_front left.terms ≡ padded terms_front (term_records s us)
    terms_front_is = ap (take terms_front) (recorded_terms v s us terms₀ facts₀) ∙ take_fronted terms_front (term_records s us) terms₀ terms_fit

    -- beyond the fronts nothing changes
    pub terms_beyond : drop terms_front left.terms ≡ drop terms_front terms₀
    terms_beyond = ap (drop terms_front) (recorded_terms v s us terms₀ facts₀) ∙ drop_fronted terms_front (term_records s us) terms₀ terms_fit

    pub facts_beyond : drop facts_front left.facts ≡ drop facts_front facts₀
    facts_beyond = ap (drop facts_front) (recorded_facts v s us terms₀ facts₀) ∙ drop_fronted facts_front (fact_records s) facts₀ facts_fit

    pub terms_length : terms_front ≤ length terms₀ → length left.terms ≡ length terms₀
    terms_length k = ap length (recorded_terms v s us terms₀ facts₀) ∙ length_fronted terms_front (term_records s us) terms₀ terms_fit k

    pub facts_length : facts_front ≤ length facts₀ → length left.facts ≡ length facts₀
    facts_length k = ap length (recorded_facts v s us terms₀ facts₀) ∙ length_fronted facts_front (fact_records s) facts₀ facts_fit k

    -- no number of a record is above 60,003, so tables of 16-bit numbers stay such
    pub terms_small : (c : ℕ) → 60003 ≤ c → ((x : ℕ) → Memᴰ x terms₀ → x ≤ c) → (x : ℕ) → Memᴰ x left.terms → x ≤ c
    terms_small c l k x m =
        fronted_within c terms_front (term_records s us) terms₀ record_small k x (rw (recorded_terms v s us terms₀ facts₀) at m)
      where
        record_small : (x : ℕ) → Memᴰ x (term_records s us) → x ≤ c
        record_small x m =
            let (t, i, j) = collect_mem (term_row s.terms) (s.terms ++ us) m in
            let n = term_row_within (recordable_mem (λ j. star) s.terms us h.terms i) w.terms x j in
            omega arith

    pub facts_small : (c : ℕ) → 2048 ≤ c → ((x : ℕ) → Memᴰ x facts₀ → x ≤ c) → (x : ℕ) → Memᴰ x left.facts → x ≤ c
    facts_small c l k x m =
        fronted_within c facts_front (fact_records s) facts₀ record_small k x (rw (recorded_facts v s us terms₀ facts₀) at m)
      where
        record_small : (x : ℕ) → Memᴰ x (fact_records s) → x ≤ c
        record_small x m =
            let (f, i, j) = collect_mem (fact_row s.terms) s.facts m in
            let n = fact_row_within (h.facts f i) w.terms (w.predicates f i) x j in
            omega arith

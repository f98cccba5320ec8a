-- The tables that the check leaves are legible: their rows are within them, and no arity is greater than a row has room for. Assumes nothing.
use mathlib.Core.Path.{◌≡◌, sym, ap, ◌∙◌, subst}
use mathlib.Core.List.{List, [], ◌++◌}
use Prim.Native.Nat.{ℕ, suc, ◌+◌, ◌*◌, ◌≤◌, ◌<◌}
use native.Mathlib.Omega.{arith}
use lib.ListN.{length, get_or, length-append}
use Rattle.model.specs.Lists.{collect, padded, row}
use Rattle.model.specs.Term.{Term, star}
use Rattle.model.specs.Triggers.{Fact}
use Rattle.model.specs.Rules.{RuleSet}
use Rattle.model.specs.WellFormed.{WellFormed}
use Rattle.model.specs.Stages as stages
use Rattle.model.specs.Tables.{Checked, term_row, fact_row, recorded, left, checked}
use Rattle.laws.proofs.Lists.{get_or_mem}
use Rattle.laws_format.proofs.Lists.{length_collect}
use Rattle.laws_format.proofs.Bytes.{read_well_formed}
use Rattle.laws_tables.proofs.Rows.{row_collect}
use Rattle.laws_tables.proofs.Terms.{Recordable, plain, known, marked, recordable_mem, length_term_row, row_table}
use Rattle.laws_tables.proofs.Facts.{length_fact_row}
use Rattle.laws_tables.proofs.Recorded.{Recorded, terms_begin, facts_begin}
use Rattle.laws_tables.proofs.Fronts.{Within}
use Rattle.laws_tables.proofs.Courses.{Course, short, shallow, faulty, judged, course, left_verdict}
use Rattle.laws_tables.proofs.Spelled.{Held, accepted_held, cyclic_at_held}
use Rattle.judging.specs.declared.verdict.Verdict.{Verdict}
use Rattle.judging.specs.declared.verdict.Verdict.TheVariants.{Accepted, Cyclic, Refused}
use Rattle.judging.specs.Verdict.{meant}
use Rattle.text.specs.Legible.{LegibleTerms, LegibleFacts, Legible}
use Rattle.text.proofs.Rows.{row_at, row_head, fewer_terms}
use Rattle.report.proofs.Arities.{Declares}

-- the arity in a term's row
row_arity : {c : ℕ → Term} {ts : List Term} {i : ℕ} {t : Term} → Recordable c ts i t → get_or (term_row ts t) 1 0 ≤ 8
unfolding term_row padded
row_arity (plain e k) = let a = ap (λ (xs : List ℕ). get_or xs 1 0) e in omega arith
row_arity (known h) = omega arith
row_arity (marked p b q ms) = q

module _ {arities : List ℕ} {s : stages.Stage} {us : List Term} (h : Recorded arities s us) (w : Within s us) (v : stages.Verdict) (terms₀ facts₀ : List ℕ) where
  recorded_terms : LegibleTerms (recorded v s us terms₀ facts₀).terms (length (s.terms ++ us))
  recorded_terms =
      let (rest, e) = terms_begin h v terms₀ facts₀ in
      let l = length_collect (term_row s.terms) 10 (s.terms ++ us) (λ t m. length_term_row (recordable_mem (λ j. star) s.terms us h.terms m)) in
      let k = ap length e ∙ length-append (collect (term_row s.terms) (s.terms ++ us)) rest in
      record {
        within = omega arith;
        arity = λ i m.
            rw (← row_at 10 i 1 (recorded v s us terms₀ facts₀).terms (omega arith), row_table (λ j. star) s.terms us h.terms (recorded v s us terms₀ facts₀).terms rest e i m)
            (row_arity (h.terms i m));
      }

  none : Fact
  none = record { predicate = 0; arguments = [] }

  -- the row of a fact begins with its predicate
  row_predicate : (i : ℕ) → i < length s.facts → get_or (recorded v s us terms₀ facts₀).facts (i * 5) 0 ≡ (get_or s.facts i none).predicate
  unfolding fact_row padded
  row_predicate i m =
      let (rest, e) = facts_begin h v terms₀ facts₀ in
      sym (row_head 5 i (recorded v s us terms₀ facts₀).facts (omega arith))
      ∙ ap (λ (xs : List ℕ). get_or xs 0 0)
      (ap (row 5 i) e ∙ row_collect 5 (fact_row s.terms) s.facts rest none (λ f k. length_fact_row (h.facts f k)) i m)

  -- whatever list has the arities, and room for 1,024 of them
  recorded_facts : (as' : List ℕ) → 1024 ≤ length as' → ((p : ℕ) → get_or as' p 0 ≡ get_or arities p 0)
      → LegibleFacts as' (recorded v s us terms₀ facts₀).facts (length s.facts)
  recorded_facts as' r g =
      let (rest, e) = facts_begin h v terms₀ facts₀ in
      let l = length_collect (fact_row s.terms) 5 s.facts (λ f m. length_fact_row (h.facts f m)) in
      let k = ap length e ∙ length-append (collect (fact_row s.terms) s.facts) rest in
      record {
        within = omega arith;
        predicate = λ i m.
            let q = w.predicates (get_or s.facts i none) (get_or_mem s.facts i none m) in
            rw (row_predicate i m) (omega arith);
        arity = λ i m.
            let f = h.facts (get_or s.facts i none) (get_or_mem s.facts i none m) in
            rw (row_predicate i m, g (get_or s.facts i none).predicate, ← f.arity) f.few;
      }

module _ {depth : ℕ} {b : RuleSet} {v : stages.Verdict} {n f t : ℕ} {more : List Term} (h : Held depth b v n f t more) (terms₀ facts₀ : List ℕ) where
  held_terms : LegibleTerms (left depth b v terms₀ facts₀).terms (t + length more)
  held_terms =
      rw (h.tables terms₀ facts₀, h.terms, ← length-append (stages.stage b n).terms more) (recorded_terms h.records h.within v terms₀ facts₀)

  held_facts : (as' : List ℕ) → 1024 ≤ length as' → ((p : ℕ) → get_or as' p 0 ≡ get_or b.arities p 0) → LegibleFacts as' (left depth b v terms₀ facts₀).facts f
  held_facts as' r g = rw (h.tables terms₀ facts₀, h.facts) (recorded_facts h.records h.within v terms₀ facts₀ as' r g)

-- the tables of a rule set that was judged, by its verdict
left_legible : (depth : ℕ) (b : RuleSet) → WellFormed b → (terms₀ facts₀ as' : List ℕ) → 1024 ≤ length as' → ((p : ℕ) → get_or as' p 0 ≡ get_or b.arities p 0)
    → (v : Verdict) → stages.verdict depth b ≡ meant v → Legible as' v (left depth b (meant v) terms₀ facts₀).terms (left depth b (meant v) terms₀ facts₀).facts
left_legible depth b w terms₀ facts₀ as' r g (Accepted n f t) e =
    let h = accepted_held depth b w e in (fewer_terms (held_terms h terms₀ facts₀) t (omega arith), held_facts h terms₀ facts₀ as' r g)
left_legible depth b w terms₀ facts₀ as' r g (Cyclic n f t) e =
    let h = cyclic_at_held depth b w e in (fewer_terms (held_terms h terms₀ facts₀) (suc t) (omega arith), held_facts h terms₀ facts₀ as' r g)
left_legible depth b w terms₀ facts₀ as' r g (Refused n p) e = tt

pub checked_legible : (depth : ℕ) (bytes terms₀ facts₀ as' : List ℕ) → Declares bytes as' → (v : Verdict) → (checked depth bytes terms₀ facts₀).verdict ≡ meant v
    → Legible as' v (checked depth bytes terms₀ facts₀).terms (checked depth bytes terms₀ facts₀).facts
checked_legible depth bytes terms₀ facts₀ as' d v e = go (course depth bytes terms₀ facts₀)
  where
    c : Checked
    c = checked depth bytes terms₀ facts₀

    -- a refusal shows no rows
    refusal : (v : Verdict) (n p : ℕ) → stages.refused n p ≡ meant v → Legible as' v c.terms c.facts
    refusal (Accepted m f t) n p q = let z : ◌≡◌ {A = ℕ} 0 1 = cc in absurd (omega arith)
    refusal (Cyclic m f t) n p q = let z : ◌≡◌ {A = ℕ} 0 1 = cc in absurd (omega arith)
    refusal (Refused m q') n p q = tt

    go : Course depth bytes terms₀ facts₀ → Legible as' v c.terms c.facts
    go (short h q) = refusal v 1 0 (sym (ap (λ (x : Checked). x.verdict) q) ∙ e)
    go (shallow h a q) = refusal v 18 0 (sym (ap (λ (x : Checked). x.verdict) q) ∙ e)
    go (faulty n p i j h a r q) = refusal v n p (sym (ap (λ (x : Checked). x.verdict) q) ∙ e)
    go (judged b i h a r q) =
        let u : stages.verdict depth b ≡ meant v = sym (left_verdict depth b (stages.verdict depth b) terms₀ facts₀) ∙ sym (ap (λ (x : Checked). x.verdict) q) ∙ e in
        subst (λ (x : Checked). Legible as' v x.terms x.facts) (sym (q ∙ ap (λ (x : stages.Verdict). left depth b x terms₀ facts₀) u))
        (left_legible depth b (read_well_formed bytes b i r) terms₀ facts₀ as' d.room (d.same b i r) v u)

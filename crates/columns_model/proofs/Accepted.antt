-- The tables that `check` leaves with an accepted answer are given back by their store, number for number. Assumes nothing.
use mathlib.Core.Path.{◌≡◌, sym, ap, ap₂, ◌∙◌}
use mathlib.Core.List.{List, [], ◌++◌, append-nil}
use Prim.Native.Nat.{ℕ, ◌*◌, ◌≤◌}
use native.Mathlib.Omega.{arith}
use lib.ListN.{length, take, drop}
use lib.Seq.{take_at}
use borrow.Author.Tests.{le-leb}
use Rattle.model.specs.Limits.{terms_front, facts_front}
use Rattle.model.specs.Term.{star}
use Rattle.model.specs.Rules.{RuleSet}
use Rattle.model.specs.Format.{good, read}
use Rattle.model.specs.Form.{done}
use Rattle.model.specs.Stages.{stage, accepted}
use Rattle.model.specs.Tables.{Checked, checked, fronted, term_row, fact_row}
use Rattle.laws.proofs.Bools.{true_and}
use Rattle.laws_format.proofs.Lists.{length_collect}
use Rattle.laws_format.proofs.Bytes.{read_well_formed}
use Rattle.laws_tables.specs.Lent.{Fronts, Depth}
use Rattle.laws_tables.proofs.Rows.{fronted_append, take_fronted}
use Rattle.laws_tables.proofs.Terms.{length_term_row, recordable_mem}
use Rattle.laws_tables.proofs.Facts.{length_fact_row}
use Rattle.laws_tables.proofs.Recorded.{term_records, fact_records, recorded_terms, recorded_facts}
use Rattle.laws_tables.proofs.Spelled.{accepted_held}
use Rattle.laws_tables.proofs.Courses.{checked_parsed}
use Rattle.laws_tables.proofs.Checked.{Bounded, accepted_judged, checked_kept, checked_bounded}
use Rattle.columns_model.specs.Differences.{modulus}
use Rattle.columns_model.specs.Store.{store_room, stored, packed, counts, unpacked}
use Rattle.columns_model.proofs.Differences.{Below}
use Rattle.columns_model.proofs.Answers.{packed_good}
use Rattle.columns_model.proofs.Stores.{unpacked_stored, Within, fronts_hold, within_holds}

-- records in front of one table, taken and put in front of another
other_front : (front n : ℕ) (records table other left : List ℕ) → length records ≡ n → n ≤ front → left ≡ fronted front records table
    → fronted front (take n left) other ≡ take front left ++ drop front other
unfolding fronted
other_front front n records table other left l h e =
    let (rest, p) = fronted_append front records table in
    ap (λ (xs : List ℕ). fronted front xs other) (ap (take n) (e ∙ p) ∙ take_at records rest n l)
    ∙ ap (λ (xs : List ℕ). xs ++ drop front other) (sym (ap (take front) e ∙ take_fronted front records table (omega arith)))

module _ (d : ℕ) (bytes terms₀ facts₀ : List ℕ) (n f t : ℕ) (yes : (checked d bytes terms₀ facts₀).verdict ≡ accepted n f t) (small : Bounded 65535 terms₀ facts₀) where
  abbrev c : Checked
  c = checked d bytes terms₀ facts₀

  small_terms : Below modulus c.terms
  small_terms x m = let h = (checked_bounded d bytes terms₀ facts₀ 65535 (omega arith) small).terms x m in omega arith

  small_facts : Below modulus c.facts
  small_facts x m = let h = (checked_bounded d bytes terms₀ facts₀ 65535 (omega arith) small).facts x m in omega arith

  parsed : Fronts terms₀ facts₀ × Depth d × ((b : RuleSet) × (i : ℕ) × (read bytes ≡ good b i))
  parsed = checked_parsed d bytes terms₀ facts₀ (λ m p l e. let z : ◌≡◌ {A = ℕ} 0 1 = cc in omega arith)

  -- the records are in front, as many as the answer counts
  record Records : Type 0 where
    terms : List ℕ
    facts : List ℕ
    terms_counted : length terms ≡ t * 10
    facts_counted : length facts ≡ f * 5
    few : Within t f
    terms_front_is : c.terms ≡ fronted terms_front terms terms₀
    facts_front_is : c.facts ≡ fronted facts_front facts facts₀

  records : Records
  records =
      let (l, deep, (b, i, r)) = parsed in
      let j = accepted_judged d bytes terms₀ facts₀ b i n f t r yes in
      let h = accepted_held d b (read_well_formed bytes b i r) j.verdict in
      let p = j.tables ∙ h.tables terms₀ facts₀ in
      let terms = h.terms in
      let facts = h.facts in
      record {
        terms = term_records (stage b n) [];
        facts = fact_records (stage b n);
        terms_counted =
            length_collect (term_row (stage b n).terms) 10 ((stage b n).terms ++ []) (λ u m. length_term_row (recordable_mem (λ k. star) (stage b n).terms [] h.records.terms m))
            ∙ ap (λ (k : ℕ). k * 10) (ap length (append-nil (stage b n).terms) ∙ sym terms);
        facts_counted = length_collect (fact_row (stage b n).terms) 5 (stage b n).facts (λ u m. length_fact_row (h.records.facts u m)) ∙ ap (λ (k : ℕ). k * 5) (sym facts);
        few = record { terms = let k = h.within.terms in omega arith; facts = let k = h.within.facts in omega arith };
        terms_front_is = ap (λ (x : Checked). x.terms) p ∙ recorded_terms (accepted n f t) (stage b n) [] terms₀ facts₀;
        facts_front_is = ap (λ (x : Checked). x.facts) p ∙ recorded_facts (accepted n f t) (stage b n) [] terms₀ facts₀;
      }

  fronts_left : Fronts c.terms c.facts
  fronts_left =
      let l = parsed.0 in
      let k = checked_kept d bytes terms₀ facts₀ in
      let i = l.terms in
      let j = l.facts in
      let p = k.terms_length in
      let q = k.facts_length in
      record { terms = omega arith; facts = omega arith }

  -- `pack` takes them
  pub accepted_packed : (out : List ℕ) → store_room ≤ length out
      → packed t f c.terms c.facts out
      ≡ record { answer = done (length (stored t f c.terms c.facts)); bytes = stored t f c.terms c.facts ++ drop (length (stored t f c.terms c.facts)) out }
  accepted_packed out l =
      packed_good t f c.terms c.facts out (true_and _ _ (fronts_hold fronts_left) (le-leb _ _ l)) (within_holds records.few)

  -- and `unpack` gives their front parts back, whatever the tables held that it is given
  pub accepted_back : (terms₁ facts₁ : List ℕ) → Fronts terms₁ facts₁
      → unpacked (stored t f c.terms c.facts) terms₁ facts₁
      ≡ record {
        answer = counts t f;
        terms = take terms_front c.terms ++ drop terms_front terms₁;
        facts = take facts_front c.facts ++ drop facts_front facts₁;
      }
  accepted_back terms₁ facts₁ h =
      let r = records in
      let i = r.few.terms in
      let j = r.few.facts in
      unpacked_stored t f c.terms c.facts r.few fronts_left small_terms small_facts terms₁ facts₁ h
      ∙ ap₂ (λ (ts fs : List ℕ). record { answer = counts t f; terms = ts; facts = fs })
      (other_front terms_front (t * 10) r.terms terms₀ terms₁ c.terms r.terms_counted (omega arith) r.terms_front_is)
      (other_front facts_front (f * 5) r.facts facts₀ facts₁ c.facts r.facts_counted (omega arith) r.facts_front_is)

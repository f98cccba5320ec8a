-- The records of a stage, some more terms' after its own: what they spell out, how long they are, and what the lines of the text show of them.
-- Assumes nothing.
use mathlib.Core.Path.{◌≡◌, refl, ◌∙◌}
use mathlib.Core.List.{List, ◌++◌, Memᴰ}
use Prim.Native.Nat.{ℕ, ◌≤◌, ◌<◌}
use lib.ListN.{length, get_or}
use Rattle.model.specs.Lists.{collect}
use Rattle.model.specs.Term.{Term, star}
use Rattle.model.specs.Triggers.{Fact}
use Rattle.model.specs.Stages.{Stage, Verdict}
use Rattle.model.specs.Limits.{terms_front, facts_front}
use Rattle.model.specs.Tables.{Checked, term_row, fact_row, fronted, recorded}
use Rattle.model.specs.Spelled.{term_at, spelled_terms, spelled_facts}
use Rattle.laws_tables.proofs.Rows.{fronted_append}
use Rattle.laws_tables.proofs.Terms.{TermList, term_at_table, spelled_terms_table}
use Rattle.laws_tables.proofs.Facts.{Recordable, spelled_facts_table}

-- a stage that the tables can hold, and more terms after its own
pub record Recorded (arities : List ℕ) (s : Stage) (us : List Term) : Type 0 where
  pub terms : TermList (λ j. star) s.terms us
  pub facts : (f : Fact) → Memᴰ f s.facts → Recordable arities s.terms f

abbrev pub term_records : Stage → List Term → List ℕ
term_records s us = collect (term_row s.terms) (s.terms ++ us)

abbrev pub fact_records : Stage → List ℕ
fact_records s = collect (fact_row s.terms) s.facts

pub recorded_terms : (v : Verdict) (s : Stage) (us : List Term) (terms₀ facts₀ : List ℕ)
    → (recorded v s us terms₀ facts₀).terms ≡ fronted terms_front (term_records s us) terms₀
unfolding recorded
recorded_terms v s us terms₀ facts₀ = refl

pub recorded_facts : (v : Verdict) (s : Stage) (us : List Term) (terms₀ facts₀ : List ℕ)
    → (recorded v s us terms₀ facts₀).facts ≡ fronted facts_front (fact_records s) facts₀
unfolding recorded
recorded_facts v s us terms₀ facts₀ = refl

module _ {arities : List ℕ} {s : Stage} {us : List Term} (h : Recorded arities s us) (v : Verdict) (terms₀ facts₀ : List ℕ) where
  abbrev left : Checked
  left = recorded v s us terms₀ facts₀

  -- how the tables begin
  pub terms_begin : (rest : List ℕ) × (left.terms ≡ term_records s us ++ rest)
  terms_begin =
      let (rest, e) = fronted_append terms_front (term_records s us) terms₀ in (rest, recorded_terms v s us terms₀ facts₀ ∙ e)

  pub facts_begin : (rest : List ℕ) × (left.facts ≡ fact_records s ++ rest)
  facts_begin =
      let (rest, e) = fronted_append facts_front (fact_records s) facts₀ in (rest, recorded_facts v s us terms₀ facts₀ ∙ e)

  pub terms_spelled : (k : ℕ) → length s.terms ≤ k → spelled_terms (λ j. star) k (length s.terms) left.terms 0 ≡ s.terms
  terms_spelled k l = let (rest, e) = terms_begin in spelled_terms_table (λ j. star) s.terms us h.terms k l left.terms rest e

  pub facts_spelled : (k : ℕ) → length s.terms ≤ k → spelled_facts arities (λ j. star) k (length s.facts) left.terms left.facts 0 ≡ s.facts
  facts_spelled k l =
      let (rest, e) = terms_begin in
      let (more, q) = facts_begin in
      spelled_facts_table arities (λ j. star) s.terms us h.terms k l left.terms rest e s.facts h.facts left.facts more q

  -- the terms after the stage's own too
  pub term_spelled : (k i : ℕ) → i < k → i < length (s.terms ++ us) → term_at (λ j. star) k left.terms i ≡ get_or (s.terms ++ us) i star
  term_spelled k i l m = let (rest, e) = terms_begin in term_at_table (λ j. star) s.terms us h.terms left.terms rest e k i l m

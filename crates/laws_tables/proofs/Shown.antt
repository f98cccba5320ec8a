-- What the lines of the text show of the records of a stage: Skolem functions and predicates of at most four digits, term numbers of three, and
-- rule constants of five. Assumes nothing.
use mathlib.Core.Path.{◌≡◌, refl, sym, ap, ◌∙◌, subst}
use mathlib.Core.List.Memᴰ
use mathlib.Core.List.{List, [], ◌∷◌, ◌++◌, map, Memᴰ}
use Prim.Native.Nat.{ℕ, suc, ◌+◌, ◌-◌, ◌^◌, ◌≤◌, ◌<◌}
use native.Mathlib.Omega.{arith}
use lib.ListN.{length, get_or, take, drop, replicate, length-map, length-append}
use lib.Seq.{take_at}
use Rattle.model.specs.Limits.{fixed_mark}
use Rattle.model.specs.Lists.{padded, row}
use Rattle.model.specs.Term.{Term, star, list}
use Rattle.model.specs.Triggers.{Fact}
use Rattle.model.specs.Stages.{Stage, Verdict}
use Rattle.model.specs.Tables.{number, term_row, fact_row, recorded}
use Rattle.model.specs.Text.{term_numbers, fact_numbers}
use Rattle.laws.proofs.Lists.{map_mem, get_or_mem}
use Rattle.laws_tables.proofs.Rows.{row_collect}
use Rattle.laws_tables.proofs.Numbering.{number_below}
use Rattle.laws_tables.proofs.Terms.{Recordable, plain, known, marked, row_table}
use Rattle.laws_tables.proofs.Facts.{Recordable as RecordableFact, length_fact_row}
use Rattle.laws_tables.proofs.Recorded.{Recorded, terms_begin, facts_begin}
use Rattle.laws_tables.proofs.Fronts.{Within}
use Rattle.laws_tables.proofs.Text.{TermLine, FactLine, Shown}

abbrev shown_term : List ℕ → List ℕ
shown_term r = get_or r 0 0 ∷ take (get_or r 1 0) (drop 2 r)

abbrev shown_fact : List ℕ → List ℕ → List ℕ
shown_fact arities r = get_or r 0 0 ∷ take (get_or arities (get_or r 0 0) 0) (drop 1 r)

numbers_small : (ts : List Term) → length ts ≤ 512 → (us : List Term) → ((a : Term) → Memᴰ a us → Memᴰ a ts) → (x : ℕ)
    → Memᴰ x (map (number ts) us) → x < 10 ^ 3
numbers_small ts l us h x m =
    let (a, i, e) = map_mem (number ts) us m in
    let n = number_below a (h a i) in
    omega arith

-- a number without arguments
alone : {ns : List ℕ} (f d : ℕ) → ns ≡ f ∷ [] → f < 10 ^ suc d → d ≤ 35 → TermLine ns
alone f d e h l = record { function = f; arguments = []; whole = e; rest = d; function_small = h; short = omega arith; small = λ n m. absurd (Memᴰ.not-nil m) }

shown_term_line : {ts : List Term} {i : ℕ} {t : Term} → Recordable (λ j. star) ts i t → length ts ≤ 512 → TermLine (shown_term (term_row ts t))
unfolding term_row padded
shown_term_line (plain e k) l = alone 0 0 (ap shown_term e) (omega arith) (omega arith)
shown_term_line (known {n} h) l = alone (fixed_mark + n) 4 refl (omega arith) (omega arith)
shown_term_line {ts} (marked {f} {us = as'} p b q ms) l =
    record {
      function = f;
      arguments = map (number ts) (list as');
      whole =
          ap (λ (xs : List ℕ). f ∷ xs)
          (take_at (map (number ts) (list as')) (replicate (10 - suc (suc (length (map (number ts) (list as'))))) 0) (length (list as')) (length-map (list as') (number ts)));
      rest = 3;
      function_small = omega arith;
      short = rw (length-map (list as') (number ts)) (omega arith);
      small = numbers_small ts l (list as') (λ a m. (ms a m).0);
    }

shown_fact_line : {arities : List ℕ} {ts : List Term} {f : Fact} → RecordableFact arities ts f → length ts ≤ 512 → f.predicate < 1024
    → FactLine (shown_fact arities (fact_row ts f))
unfolding fact_row padded
shown_fact_line {arities} {ts} {f} h l p =
    record {
      predicate = f.predicate;
      arguments = map (number ts) f.arguments;
      whole =
          ap (λ (xs : List ℕ). f.predicate ∷ xs)
          (take_at (map (number ts) f.arguments) (replicate (5 - suc (length (map (number ts) f.arguments))) 0) (get_or arities f.predicate 0)
          (length-map f.arguments (number ts) ∙ h.arity));
      predicate_small = omega arith;
      few = rw (length-map f.arguments (number ts)) h.few;
      small = numbers_small ts l f.arguments h.arguments;
    }

module _ {arities : List ℕ} {s : Stage} {us : List Term} (h : Recorded arities s us) (w : Within s us) (v : Verdict) (terms₀ facts₀ : List ℕ) where
  -- the stage's terms, and those after them
  pub term_shown : (i : ℕ) → i < length (s.terms ++ us) → TermLine (term_numbers (recorded v s us terms₀ facts₀).terms i)
  unfolding term_numbers
  term_shown i l =
      let (rest, e) = terms_begin h v terms₀ facts₀ in
      let r = row_table (λ j. star) s.terms us h.terms (recorded v s us terms₀ facts₀).terms rest e i l in
      subst (λ (xs : List ℕ). TermLine (shown_term xs)) (sym r)
      (shown_term_line (h.terms i l) w.terms)

  fact_shown : (i : ℕ) → i < length s.facts → FactLine (fact_numbers arities (recorded v s us terms₀ facts₀).facts i)
  unfolding fact_numbers
  fact_shown i l =
      let (rest, e) = facts_begin h v terms₀ facts₀ in
      let m = get_or_mem s.facts i none l in
      subst (λ (xs : List ℕ). FactLine (shown_fact arities xs))
      (sym (ap (row 5 i) e ∙ row_collect 5 (fact_row s.terms) s.facts rest none (λ f k. length_fact_row (h.facts f k)) i l))
      (shown_fact_line (h.facts (get_or s.facts i none) m) w.terms (w.predicates (get_or s.facts i none) m))
    where
      none : Fact
      none = record { predicate = 0; arguments = [] }

  pub recorded_shown : Shown arities (recorded v s us terms₀ facts₀).terms (recorded v s us terms₀ facts₀).facts (length s.facts) (length s.terms)
  recorded_shown =
      record {
        terms_few_is = w.terms;
        facts_few_is = w.facts;
        term = λ i l. term_shown i (rw (length-append s.terms us) (omega arith));
        fact = fact_shown;
      }

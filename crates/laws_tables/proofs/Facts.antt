-- A table of fact rows spells out the facts that it was made from. Assumes nothing.
use mathlib.Core.Path.{◌≡◌, refl, ap, ap₂, ◌∙◌}
use mathlib.Core.List.{List, [], ◌∷◌, ◌++◌, map, Memᴰ}
use Prim.Native.Nat.{ℕ, suc, ◌+◌, ◌-◌, ◌≤◌, ◌<◌}
use native.Mathlib.Nat.{zero-add, add-zero, add-suc, suc-add}
use native.Mathlib.Omega.{arith}
use lib.ListN.{length, get_or, take, drop, replicate, length-map}
use lib.Seq.{take_at}
use Rattle.model.specs.Lists.{collect, padded, row}
use Rattle.model.specs.Term.{Term}
use Rattle.model.specs.Triggers.{Fact}
use Rattle.model.specs.Tables.{number, term_row, fact_row}
use Rattle.model.specs.Spelled.{term_at, fact_at, spelled_facts}
use Rattle.laws.proofs.Facts.{fact_path}
use Rattle.laws.proofs.Lists.{get_or_mem}
use Rattle.laws.proofs.Places.{length_padded}
use Rattle.laws_tables.proofs.Rows.{row_collect}
use Rattle.laws_tables.proofs.Terms.{TermList, map_read, term_at_number}

-- a fact that a record can hold, over terms numbered by ts
pub record Recordable (arities : List ℕ) (ts : List Term) (f : Fact) : Type 0 where
  pub arity : length f.arguments ≡ get_or arities f.predicate 0
  pub few : length f.arguments ≤ 4
  pub arguments : (a : Term) → Memᴰ a f.arguments → Memᴰ a ts

pub length_fact_row : {arities : List ℕ} {ts : List Term} {f : Fact} → Recordable arities ts f → length (fact_row ts f) ≡ 5
unfolding fact_row
length_fact_row {ts = ts} {f} h =
    let l = h.few in
    length_padded 5 (f.predicate ∷ map (number ts) f.arguments) (rw (length-map f.arguments (number ts)) (omega arith))

-- one record, read

abbrev from_row : List ℕ → (ℕ → Term) → List ℕ → Fact
from_row arities g r = record { predicate = get_or r 0 0; arguments = map g (take (get_or arities (get_or r 0 0) 0) (drop 1 r)) }

from_row_padded : (arities : List ℕ) (g : ℕ → Term) (p : ℕ) (ns : List ℕ) → length ns ≡ get_or arities p 0
    → from_row arities g (padded 5 (p ∷ ns)) ≡ record { predicate = p; arguments = map g ns }
unfolding padded
from_row_padded arities g p ns l = fact_path refl (ap (map g) (take_at ns (replicate (5 - suc (length ns)) 0) (get_or arities p 0) l))

fact_at_recorded : (arities : List ℕ) (c : ℕ → Term) (k i : ℕ) (ts : List Term) (f : Fact) (terms facts : List ℕ) → row 5 i facts ≡ fact_row ts f
    → Recordable arities ts f → ((a : Term) → Memᴰ a ts → term_at c k terms (number ts a) ≡ a) → fact_at arities c k terms facts i ≡ f
unfolding fact_at fact_row
fact_at_recorded arities c k i ts f terms facts e h r =
    ap (from_row arities (term_at c k terms)) e
    ∙ from_row_padded arities (term_at c k terms) f.predicate (map (number ts) f.arguments) (length-map f.arguments (number ts) ∙ h.arity)
    ∙ fact_path refl (map_read (term_at c k terms) (number ts) f.arguments (λ a m. r a (h.arguments a m)))

-- facts i, i + 1 and so on
spelled_facts_from : (arities : List ℕ) (c : ℕ → Term) (k : ℕ) (fs : List Fact) (d : Fact) (terms facts : List ℕ) (i : ℕ)
    → ((j : ℕ) → j < length fs → fact_at arities c k terms facts (i + j) ≡ get_or fs j d) → spelled_facts arities c k (length fs) terms facts i ≡ fs
unfolding spelled_facts
spelled_facts_from arities c k [] d terms facts i h = refl
spelled_facts_from arities c k (f ∷ fs) d terms facts i h =
    ap₂ (λ (x : Fact) (xs : List Fact). x ∷ xs) (rw (add-zero i) at (h 0 (omega arith)))
    (spelled_facts_from arities c k fs d terms facts (suc i) (λ j l. rw (suc-add i j, ← add-suc i j) (h (suc j) (omega arith))))

pub spelled_facts_table : (arities : List ℕ) (c : ℕ → Term) (ts us : List Term) → TermList c ts us → (k : ℕ) → length ts ≤ k → (terms rest : List ℕ)
    → terms ≡ collect (term_row ts) (ts ++ us) ++ rest
    → (fs : List Fact) → ((f : Fact) → Memᴰ f fs → Recordable arities ts f) → (facts more : List ℕ) → facts ≡ collect (fact_row ts) fs ++ more
    → spelled_facts arities c k (length fs) terms facts 0 ≡ fs
spelled_facts_table arities c ts us h k l terms rest e fs r facts more q = spelled_facts_from arities c k fs none terms facts 0 each
  where
    none : Fact
    none = record { predicate = 0; arguments = [] }

    each : (j : ℕ) → j < length fs → fact_at arities c k terms facts (0 + j) ≡ get_or fs j none
    each j m =
        rw zero-add
        (fact_at_recorded arities c k j ts (get_or fs j none) terms facts
        (ap (row 5 j) q ∙ row_collect 5 (fact_row ts) fs more none (λ f n. length_fact_row (r f n)) j m)
        (r (get_or fs j none) (get_or_mem fs j none m)) (λ a n. term_at_number c ts us h terms rest e k l n))

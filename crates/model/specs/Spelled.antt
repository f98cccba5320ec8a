-- The other way: the terms and facts that two tables spell out (document 01, "Filling": the accepted list). Assumes nothing.
use Rattle.std.specs.Prelude.{List, [], ◌∷◌, map, true, false, ℕ, zero, suc, ◌-◌, eqb, ltb, get_or, take, drop}
use Rattle.model.specs.Limits.{term_width, fixed_mark}
use Rattle.model.specs.Lists.{row}
use Rattle.model.specs.Term.{Term, fixed, skolem, terms}
use Rattle.model.specs.Triggers.{Fact}

-- Term number i of a table. c says what a row without a mark is; k bounds the depth, and a term's number is enough for it.
unfoldable pub term_at : (ℕ → Term) → ℕ → List ℕ → ℕ → Term
term_at c zero ts i = c i
term_at c (suc k) ts i =
    let r : List ℕ = row term_width i ts in
    elim (eqb (get_or r 0 0) 0) [
      | true ↦ c i
      | false ↦
          elim (ltb (get_or r 0 0) fixed_mark) [
            | true ↦ skolem (get_or r 0 0) (terms (map (term_at c k ts) (take (get_or r 1 0) (drop 2 r))))
            | false ↦ fixed (get_or r 0 0 - fixed_mark)
          ]
    ]

unfoldable pub fact_at : List ℕ → (ℕ → Term) → ℕ → List ℕ → List ℕ → ℕ → Fact
fact_at arities c k ts fs i =
    let r : List ℕ = row 5 i fs in
    record { predicate = get_or r 0 0; arguments = map (term_at c k ts) (take (get_or arities (get_or r 0 0) 0) (drop 1 r)) }

-- Terms i, i + 1 and so on, as many as stated.
unfoldable pub spelled_terms : (ℕ → Term) → ℕ → ℕ → List ℕ → ℕ → List Term
spelled_terms c k zero ts i = []
spelled_terms c k (suc n) ts i = term_at c k ts i ∷ spelled_terms c k n ts (suc i)

-- Exactly as many facts as stated, arities from the rule set: a row of zeros after them would spell the first fact again.
unfoldable pub spelled_facts : List ℕ → (ℕ → Term) → ℕ → ℕ → List ℕ → List ℕ → ℕ → List Fact
spelled_facts arities c k zero ts fs i = []
spelled_facts arities c k (suc n) ts fs i = fact_at arities c k ts fs i ∷ spelled_facts arities c k n ts fs (suc i)

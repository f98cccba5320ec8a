-- Fillings worked out by hand, and River's accepted list. Their theorems stand in proofs/Examples.antt. Assumes nothing.
use Rattle.std.specs.Prelude.{List, [], ◌∷◌, ℕ}
use Rattle.model.specs.Term.{Term, star, constant, skolem, none, more}
use Rattle.model.specs.Rules.{RuleSet}
use Rattle.model.specs.Triggers.{Fact}
use Rattle.model.specs.Chase.{Attempt, State, attempt, chase, initial}

-- the count of steps after each attempt, and the facts at the end
pub record Outcome : Type 0 where
  pub counts : List ℕ
  pub facts : List Fact

pub record Filling : Type 0 where
  pub rules : RuleSet
  pub instance' : List Fact
  pub attempts : List Attempt
  pub outcome : Outcome

unfoldable pub counts_of : RuleSet → List Attempt → State → List ℕ
counts_of b [] s = []
counts_of b (a ∷ as') s = let t : State = attempt b a s in t.steps ∷ counts_of b as' t

-- what the definitions give
unfoldable pub outcome_of : Filling → Outcome
outcome_of x =
    let s : State = initial x.instance' in
    record { counts = counts_of x.rules x.attempts s; facts = (chase x.rules x.attempts s).facts }

-- River: 0 Batch, 1 Transfer, 2 Closed
unfoldable pub river : RuleSet
river =
    record {
      version = 1;
      fixed = 0;
      arities = 1 ∷ 2 ∷ 1 ∷ [];
      rules =
          record {
            body = record { predicate = 0; variables = 0 ∷ [] } ∷ [];
            head = (record { predicate = 1; variables = 0 ∷ 1 ∷ [] } ∷ []) ∷ [];
          } ∷
          record {
            body = record { predicate = 1; variables = 0 ∷ 1 ∷ [] } ∷ [];
            head = (record { predicate = 2; variables = 1 ∷ [] } ∷ []) ∷ (record { predicate = 0; variables = 1 ∷ [] } ∷ []) ∷ [];
          } ∷
          record {
            body = record { predicate = 1; variables = 0 ∷ 1 ∷ [] } ∷ [];
            head = (record { predicate = 2; variables = 1 ∷ [] } ∷ []) ∷ [];
          } ∷
          [];
    }

-- 0 A, 1 B, 2 C: A(x) → B(x) ∨ C(x)
unfoldable pub either : RuleSet
either =
    record {
      version = 1;
      fixed = 0;
      arities = 1 ∷ 1 ∷ 1 ∷ [];
      rules =
          record {
            body = record { predicate = 0; variables = 0 ∷ [] } ∷ [];
            head = (record { predicate = 1; variables = 0 ∷ [] } ∷ []) ∷ (record { predicate = 2; variables = 0 ∷ [] } ∷ []) ∷ [];
          } ∷
          [];
    }

-- the Skolem term of River's existential variable
abbrev receipt : Term → Term
receipt t = skolem 1 (more t none)

unfoldable pub worked_fillings : List Filling
worked_fillings =
    -- River from two batches
    record {
      rules = river;
      instance' = record { predicate = 0; arguments = constant 0 ∷ [] } ∷ record { predicate = 0; arguments = constant 1 ∷ [] } ∷ [];
      attempts =
          -- no transfer yet
          record { rule = 1; terms = constant 0 ∷ constant 1 ∷ []; disjunct = 0 } ∷
          record { rule = 0; terms = constant 0 ∷ []; disjunct = 0 } ∷
          -- rules 1 and 0 wait for rule 2
          record { rule = 1; terms = constant 0 ∷ receipt (constant 0) ∷ []; disjunct = 0 } ∷
          record { rule = 1; terms = constant 0 ∷ receipt (constant 0) ∷ []; disjunct = 1 } ∷
          record { rule = 0; terms = constant 1 ∷ []; disjunct = 0 } ∷
          record { rule = 2; terms = constant 0 ∷ receipt (constant 0) ∷ []; disjunct = 0 } ∷
          -- rule 1 has a disjunct that is wholly present
          record { rule = 1; terms = constant 0 ∷ receipt (constant 0) ∷ []; disjunct = 0 } ∷
          record { rule = 1; terms = constant 0 ∷ receipt (constant 0) ∷ []; disjunct = 1 } ∷
          -- repeated
          record { rule = 0; terms = constant 0 ∷ []; disjunct = 0 } ∷
          record { rule = 2; terms = constant 0 ∷ receipt (constant 0) ∷ []; disjunct = 0 } ∷
          record { rule = 0; terms = constant 1 ∷ []; disjunct = 0 } ∷
          record { rule = 1; terms = constant 1 ∷ receipt (constant 1) ∷ []; disjunct = 1 } ∷
          record { rule = 2; terms = constant 1 ∷ receipt (constant 1) ∷ []; disjunct = 0 } ∷
          record { rule = 1; terms = constant 1 ∷ receipt (constant 1) ∷ []; disjunct = 1 } ∷
          [];
      outcome =
          record {
            counts = 0 ∷ 1 ∷ 1 ∷ 1 ∷ 1 ∷ 2 ∷ 2 ∷ 2 ∷ 2 ∷ 2 ∷ 3 ∷ 3 ∷ 4 ∷ 4 ∷ [];
            facts =
                record { predicate = 0; arguments = constant 0 ∷ [] } ∷
                record { predicate = 0; arguments = constant 1 ∷ [] } ∷
                record { predicate = 1; arguments = constant 0 ∷ receipt (constant 0) ∷ [] } ∷
                record { predicate = 2; arguments = receipt (constant 0) ∷ [] } ∷
                record { predicate = 1; arguments = constant 1 ∷ receipt (constant 1) ∷ [] } ∷
                record { predicate = 2; arguments = receipt (constant 1) ∷ [] } ∷
                [];
          };
    } ∷
    -- A(x) → B(x) ∨ C(x) along its first disjunct
    record {
      rules = either;
      instance' = record { predicate = 0; arguments = constant 0 ∷ [] } ∷ [];
      attempts =
          -- no such rule, no such disjunct
          record { rule = 1; terms = constant 0 ∷ []; disjunct = 0 } ∷
          record { rule = 0; terms = constant 0 ∷ []; disjunct = 2 } ∷
          -- no trigger: no term, another constant, ⋆, a Skolem term that nothing made
          record { rule = 0; terms = []; disjunct = 0 } ∷
          record { rule = 0; terms = constant 5 ∷ []; disjunct = 0 } ∷
          record { rule = 0; terms = star ∷ []; disjunct = 0 } ∷
          record { rule = 0; terms = skolem 9 (more star none) ∷ []; disjunct = 0 } ∷
          -- a step; the further term is ignored
          record { rule = 0; terms = constant 0 ∷ star ∷ []; disjunct = 0 } ∷
          -- repeated, and along the other disjunct
          record { rule = 0; terms = constant 0 ∷ []; disjunct = 0 } ∷
          record { rule = 0; terms = constant 0 ∷ []; disjunct = 1 } ∷
          [];
      outcome =
          record {
            counts = 0 ∷ 0 ∷ 0 ∷ 0 ∷ 0 ∷ 0 ∷ 1 ∷ 1 ∷ 1 ∷ [];
            facts = record { predicate = 0; arguments = constant 0 ∷ [] } ∷ record { predicate = 1; arguments = constant 0 ∷ [] } ∷ [];
          };
    } ∷
    -- along its second
    record {
      rules = either;
      instance' = record { predicate = 0; arguments = constant 0 ∷ [] } ∷ [];
      attempts =
          record { rule = 0; terms = constant 0 ∷ []; disjunct = 1 } ∷
          record { rule = 0; terms = constant 0 ∷ []; disjunct = 1 } ∷
          record { rule = 0; terms = constant 0 ∷ []; disjunct = 0 } ∷
          [];
      outcome =
          record {
            counts = 1 ∷ 1 ∷ 1 ∷ [];
            facts = record { predicate = 0; arguments = constant 0 ∷ [] } ∷ record { predicate = 2; arguments = constant 0 ∷ [] } ∷ [];
          };
    } ∷
    -- along both, each for a constant of its own; a fact that is given twice stands once
    record {
      rules = either;
      instance' =
          record { predicate = 0; arguments = constant 0 ∷ [] } ∷
          record { predicate = 0; arguments = constant 1 ∷ [] } ∷
          record { predicate = 0; arguments = constant 0 ∷ [] } ∷
          [];
      attempts =
          record { rule = 0; terms = constant 0 ∷ []; disjunct = 1 } ∷
          record { rule = 0; terms = constant 1 ∷ []; disjunct = 0 } ∷
          record { rule = 0; terms = constant 1 ∷ []; disjunct = 1 } ∷
          [];
      outcome =
          record {
            counts = 1 ∷ 2 ∷ 2 ∷ [];
            facts =
                record { predicate = 0; arguments = constant 0 ∷ [] } ∷
                record { predicate = 0; arguments = constant 1 ∷ [] } ∷
                record { predicate = 2; arguments = constant 0 ∷ [] } ∷
                record { predicate = 1; arguments = constant 1 ∷ [] } ∷
                [];
          };
    } ∷
    []

-- the facts that River's tables spell out
unfoldable pub river_listed : List Fact
river_listed =
    record { predicate = 0; arguments = star ∷ [] } ∷
    record { predicate = 1; arguments = star ∷ star ∷ [] } ∷
    record { predicate = 2; arguments = star ∷ [] } ∷
    record { predicate = 1; arguments = star ∷ receipt star ∷ [] } ∷
    record { predicate = 2; arguments = receipt star ∷ [] } ∷
    []

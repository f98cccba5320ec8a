-- For which variables a trigger is blocked. Assumes nothing.
use Rattle.std.specs.Prelude.{◌≡◌, Bool, true, false, List, ℕ}
use Rattle.model.specs.Limits.{term_width}
use Rattle.model.specs.Rules.{frontier, entries}
use Rattle.model.specs.Form.{decoded}
use Rattle.tables.specs.Rows.{rows}
use Rattle.tables.specs.Terms.{Ordered}
use Rattle.form.specs.Places.{rule_of}
use Rattle.form_functions.specs.Functions.{EntryAt, entry_of}
use Rattle.form_variables.specs.Sets.{set_of}
use Rattle.blocking.specs.Start.{chosen_terms, Testing}
use Rattle.rows.specs.Test.{Outcome, over, blocked, free, test}
use Rattle.stage_output.specs.declared.cyclic.Ground.{Ground}
use Rattle.stage_reasons.specs.Starred.{EnoughIn, starred}

unfoldable pub is_blocked : Outcome → Bool
is_blocked o = elim o [ over ↦ false | blocked ↦ true | free ↦ false ]

-- with ⋆ outside the set the trigger is blocked, and the set is enough to speak for others
pub record BlockedFor (form : List ℕ) (i : ℕ) (terms : List (List ℕ)) (trigger : List ℕ) (set : ℕ) : Type 0 where
  pub enough : EnoughIn (rule_of form i) set
  pub starred_blocked : test (entries (decoded form)) (entry_of form i) terms (chosen_terms form i (starred set trigger)) ≡ blocked

-- the trigger can be tested with ⋆ outside any set, and all are the variables of the frontier
pub record Starrable (form before : List ℕ) (i all : ℕ) (trigger : List ℕ) (left : Ground) (terms : List ℕ) : Type 0 where
  pub rule : EntryAt form before i
  pub frontier_is : all ≡ set_of (frontier (rule_of form i))
  pub ordered : Ordered left.terms terms
  pub testing : (set : ℕ) → Testing form i (rows term_width left.terms terms) (starred set trigger)

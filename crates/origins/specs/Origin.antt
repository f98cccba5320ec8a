-- The origin of a term as the code enters it: what stands for a variable, by the sets of the frontier and of the body's other variables; one row's
-- step; and the terms that have an origin. Assumes nothing.
use Rattle.std.specs.Prelude.{List, [], ◌∷◌, true, false, ℕ, ◌+◌, ◌≤◌, ◌<◌, eqb, get_or}
use Rattle.model.specs.Lists.{index, keep}
use Rattle.model.specs.Rules.{Disjunct, owns, entries}
use Rattle.model.specs.Form.{decoded}
use Rattle.rows.specs.Tables.{Rows}
use Rattle.form_variables.specs.Sets.{has, elements}
use Rattle.rows.specs.Copies.{arguments_in}
use Rattle.rows.specs.Origins.{enter_origin, enter_origins}
use Rattle.rows.specs.Test.{disjuncts_of}
use Rattle.tables.specs.Rows.{rows}
use Rattle.tables.specs.Terms.{function_of}
use Rattle.form.specs.Places.{Held}
use Rattle.form_functions.specs.Functions.{Numbered, places, functions_before}
use Rattle.outputs.specs.Skolem.{number_limit}
use Rattle.outputs.specs.Naming.{held}

unfoldable pub origin_number : ℕ → ℕ → List ℕ → ℕ → ℕ → ℕ
origin_number frontier others arguments base v =
    elim (has frontier v) [
      | true ↦ get_or arguments (index eqb v (elements frontier)) 0
      | false ↦ elim (has others v) [ true ↦ base + index eqb v (elements others) | false ↦ 0 ]
    ]

-- the origin of one row, if it has a Skolem function; ds are the disjuncts of the rule set
unfoldable pub origin_step : List Disjunct → List ℕ → Rows → Rows
origin_step ds r s = elim (keep (owns (get_or r 0 0)) ds) [ [] ↦ s | d ∷ rest ↦ enter_origin d (arguments_in r) s ]

-- the disjuncts of a form's rules
abbrev pub disjuncts_in : List ℕ → List Disjunct
disjuncts_in form = disjuncts_of (entries (decoded form))

-- what the origins of the first n terms of a table add to it and to a table of facts
abbrev pub origins_in : List ℕ → List ℕ → ℕ → List ℕ → ℕ → Rows
origins_in form table n facts m = enter_origins (disjuncts_in form) (rows 10 n table) (held table n facts m)

-- the first n terms of a table have Skolem functions of the form
pub record TermsOf (form before table : List ℕ) (n : ℕ) : Type 0 where
  pub held : Held form
  pub numbered : Numbered form before
  pub functions : (j : ℕ) → j < n → function_of table j ≤ functions_before form (places form)

-- term j of the first n of a table has one
pub record TermAt (form before table : List ℕ) (j n : ℕ) : Type 0 where
  pub held : Held form
  pub numbered : Numbered form before
  pub within : j < n
  pub few : n < number_limit
  pub function : function_of table j ≤ functions_before form (places form)

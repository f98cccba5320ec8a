-- A copy of a term, argument by argument, as the code makes it. Assumes nothing.
use Rattle.std.specs.Prelude.{◌≡◌, List, map, true, false, ℕ, ◌-◌, ◌<◌, get_or, set}
use Rattle.rows.specs.Triggers.{numbers}
use Rattle.tables.specs.Rows.{rows}
use Rattle.tables.specs.TermHash.{KeptTerms}
use Rattle.form_variables.specs.Sets.{has, elements}
use Rattle.facts.specs.Atoms.{value_of}
use Rattle.rows.specs.Copies.{copy_term, copies}

-- the term of a variable is copied, if the set has the variable

unfoldable pub copied_at : List (List ℕ) → ℕ → ℕ → ℕ → ℕ → List (List ℕ) → List (List ℕ)
copied_at source count variables v i terms = elim (has variables v) [ true ↦ copy_term count source i terms | false ↦ terms ]

unfoldable pub numbered_at : ℕ → ℕ → List ℕ → ℕ → List ℕ
numbered_at variables v names m = elim (has variables v) [ true ↦ set names v (m - 1) | false ↦ names ]

-- the copies of a trigger's terms: what the table holds, and the copies' numbers by variable
pub record Copied (source : List (List ℕ)) (variables : ℕ) (assignment : List ℕ) (table : List ℕ) (n : ℕ) (names : List ℕ) : Type 0 where
  pub held : rows 10 n table ≡ (copies source (map (value_of assignment) (elements variables))).terms
  pub found : KeptTerms table n
  pub each : (v : ℕ) → v < 8 → get_or names v 0 ≡ numbers (elements variables) (copies source (map (value_of assignment) (elements variables))).numbers v

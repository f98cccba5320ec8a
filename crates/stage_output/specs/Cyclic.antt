-- The first cyclic row, as the code has it. Skolem rows come from a variable's function, 0 for a variable of
-- the body, and the row of the Skolem terms but for their function. Assumes nothing.
use Rattle.std.specs.Prelude.{◌≡◌, List, [], ◌∷◌, true, false, ℕ, ◌+◌, ◌≤◌, ◌<◌, eqb, get_or, set, Option, option_to_list}
use Rattle.model.specs.Limits.{term_width, term_limit}
use Rattle.model.specs.Lists.{collect}
use Rattle.tables.specs.Rows.{rows}
use Rattle.tables.specs.Terms.{Ordered}
use Rattle.rows.specs.Making.{Ground as Told, first_cyclic}
use Rattle.stage_output.specs.declared.cyclic.Ground.{Ground}
use Rattle.stage_output.specs.declared.cyclic.Tested.{Tested}

-- what a row is told cyclic by, where the stage that is left has the first terms of a table
abbrev pub ground_in : Ground → List ℕ → Told
ground_in g terms = record { terms = rows term_width g.terms terms; depth = g.depth }

-- the terms of a stage that is left, in a table, and a depth
pub record Standable (g : Ground) (terms : List ℕ) : Type 0 where
  pub ordered : Ordered g.terms terms
  pub few : g.terms ≤ term_limit
  pub deep : 1 ≤ g.depth

-- the arguments of a Skolem row, whatever its function, are among the first n terms
pub record Arguments (n : ℕ) (row : List ℕ) : Type 0 where
  pub few : get_or row 1 0 ≤ 8
  pub within : (j : ℕ) → j < get_or row 1 0 → get_or row (j + 2) 0 < n

unfoldable pub row_with : ℕ → List ℕ → List (List ℕ)
row_with function template = elim (eqb function 0) [ true ↦ [] | false ↦ set template 0 function ∷ [] ]

-- the Skolem rows of variables, in order
unfoldable pub rows_with : List ℕ → List ℕ → List ℕ → List (List ℕ)
rows_with functions template vs = collect (λ (v : ℕ). row_with (get_or functions v 0) template) vs

-- the row of a function makes no difference to the first cyclic row: one was found, or the function was tested, or it is 0
abbrev pub Unchanging : Told → List ℕ → Option (List ℕ) → ℕ → Type 0
Unchanging g template c function = option_to_list c ≡ first_cyclic g (option_to_list c) (row_with function template)

-- Skolem rows over these terms can be looked at, and the function tested last need not be
pub record Testable (g : Ground) (terms template : List ℕ) (before : Tested) : Type 0 where
  pub standing : Standable g terms
  pub arguments : Arguments g.terms template
  pub unchanging : Unchanging (ground_in g terms) template before.cyclic before.function

-- the first cyclic row once some Skolem rows were looked at
pub record Looked (g : Ground) (terms template : List ℕ) (skolem : List (List ℕ)) (before after : Tested) : Type 0 where
  pub first : option_to_list after.cyclic ≡ first_cyclic (ground_in g terms) (option_to_list before.cyclic) skolem
  pub unchanging : Unchanging (ground_in g terms) template after.cyclic after.function

-- Tables as lists of rows, a row a list of numbers: a term is ten, a fact five (document 01, "Lent lists"). Nobody has to believe these
-- definitions: proofs/ says that they encode those of `model`. Assumes nothing.
use Rattle.std.specs.Prelude.{List, [], ◌∷◌, map, Bool, true, false, ◌&&◌, ℕ, eqb, take}
use Rattle.model.specs.Lists.{any, extend, index, collect}
use Rattle.model.specs.Term.{Term}
use Rattle.model.specs.Triggers.{Fact}
use Rattle.model.specs.Tables.{term_row, fact_row}

-- the same numbers, in order
unfoldable pub same_row : List ℕ → List ℕ → Bool
same_row [] [] = true
same_row [] (y ∷ ys) = false
same_row (x ∷ xs) [] = false
same_row (x ∷ xs) (y ∷ ys) = eqb x y && same_row xs ys

-- the rows with one among them: as they are, or with it behind them
unfoldable pub enter : List ℕ → List (List ℕ) → List (List ℕ)
enter r rows = extend same_row rows (r ∷ [])

-- rows with others entered, as far as a limit lets them
abbrev pub capped : ℕ → List (List ℕ) → List (List ℕ) → List (List ℕ)
capped limit rs new = take limit (extend same_row rs new)

-- the number of the first row that is r, or of a row behind them
unfoldable pub number_of : List ℕ → List (List ℕ) → ℕ
number_of r rows = index same_row r rows

unfoldable pub stands : List (List ℕ) → List ℕ → Bool
stands rows r = any (same_row r) rows

-- the numbers of all rows, one row after the other
unfoldable pub flat : List (List ℕ) → List ℕ
flat rows = collect (λ (r : List ℕ). r) rows

-- terms and facts
pub record Rows : Type 0 where
  pub terms : List (List ℕ)
  pub facts : List (List ℕ)

-- the rows of terms and facts
unfoldable pub encode : List Term → List Fact → Rows
encode ts fs = record { terms = map (term_row ts) ts; facts = map (fact_row ts) fs }

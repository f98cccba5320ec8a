-- The Skolem functions and Skolem rows of a disjunct, by the sets of its existential variables and of its rule's frontier. Assumes nothing.
use Rattle.std.specs.Prelude.{List, ◌∷◌, map, true, false, ℕ, suc, ◌+◌, eqb, length}
use Rattle.model.specs.Lists.{index, padded}
use Rattle.form_variables.specs.Sets.{has, elements}

-- numbers below it leave room in a cell of 16 bits for those of a rule's variables behind them
abbrev pub number_limit : ℕ
number_limit = 65000

-- the Skolem function of a variable, 0 if it is not existential
unfoldable pub function_with : ℕ → ℕ → ℕ → ℕ
function_with existential before v = elim (has existential v) [ true ↦ before + suc (index eqb v (elements existential)) | false ↦ 0 ]

-- the row of the Skolem terms, but for their function
unfoldable pub template_with : List ℕ → (ℕ → ℕ) → List ℕ
template_with frontier α = padded 10 (0 ∷ length frontier ∷ map α frontier)

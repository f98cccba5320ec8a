-- Triggers of a rule by some of its variables: those that have the same terms there, and a trigger with ⋆ for every other variable, as the code
-- has it. Assumes nothing.
use Rattle.std.specs.Prelude.{◌≡◌, true, false, ℕ, ◌<◌, get_or}
use mathlib.Core.List.{List, map, Memᴰ}
use Rattle.model.specs.Rules.{Atom, Rule, names, universal, frontier, existential_free}
use Rattle.rows.specs.Triggers.{numbers}
use Rattle.form_variables.specs.Sets.{has}

-- two triggers have the same terms at the variables of a set
abbrev pub SameAt : ℕ → Rule → List ℕ → List ℕ → Type 0
SameAt set r m m' = (v : ℕ) → v < 8 → has set v ≡ true → numbers (universal r) m v ≡ numbers (universal r) m' v

-- the set has the frontier, if a disjunct has existential variables
abbrev pub EnoughIn : Rule → ℕ → Type 0
EnoughIn r set = (d : List Atom) → Memᴰ d r.head → existential_free r d ≡ false → (v : ℕ) → Memᴰ v (frontier r) → has set v ≡ true

-- eight numbers by variable, with 0, the number of ⋆, for the variables outside a set
unfoldable pub starred : ℕ → List ℕ → List ℕ
starred set trigger = map (λ (v : ℕ). elim (has set v) [ true ↦ get_or trigger v 0 | false ↦ 0 ]) names

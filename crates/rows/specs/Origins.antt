-- The facts that must have made the terms of a table, over rows (004, Definition 39). Assumes nothing.
use Rattle.std.specs.Prelude.{List, [], ◌∷◌, ◌++◌, true, false, not, ℕ, ◌+◌, eqb, length, get_or, replicate}
use Rattle.model.specs.Lists.{keep, index, member}
use Rattle.model.specs.Rules.{Atom, Rule, Disjunct, universal, frontier, owns}
use Rattle.rows.specs.Tables.{enter, Rows}
use Rattle.rows.specs.Triggers.{numbers, atom_fact}
use Rattle.rows.specs.Outputs.{enter_atoms}
use Rattle.rows.specs.Copies.{constant_row, arguments_in}

-- the facts of atoms, in order
unfoldable pub enter_body : (ℕ → ℕ) → List Atom → List (List ℕ) → List (List ℕ)
enter_body α [] facts = facts
enter_body α (a ∷ as') facts = enter_body α as' (enter (atom_fact α a) facts)

-- the body's variables outside the frontier, which get fresh constants
unfoldable pub others : Rule → List ℕ
others r = keep (λ (v : ℕ). not (member v (frontier r))) (universal r)

-- the frontier gets the arguments, the others rows from a number on
unfoldable pub template_number : Rule → List ℕ → ℕ → ℕ → ℕ
template_number r arguments base v = elim (member v (frontier r)) [ true ↦ numbers (frontier r) arguments v | false ↦ base + index eqb v (others r) ]

-- the fresh constants, the body and the disjunct of one term
unfoldable pub enter_origin : Disjunct → List ℕ → Rows → Rows
enter_origin d arguments s =
    let α : ℕ → ℕ = template_number d.rule arguments (length s.terms) in
    enter_atoms d α d.atoms
    (record { terms = s.terms ++ replicate (length (others d.rule)) constant_row; facts = enter_body α d.rule.body s.facts })

-- the origin of each of these rows that has a Skolem function; ds are the disjuncts of the rule set
unfoldable pub enter_origins : List Disjunct → List (List ℕ) → Rows → Rows
enter_origins ds [] s = s
enter_origins ds (r ∷ rs) s =
    enter_origins ds rs (elim (keep (owns (get_or r 0 0)) ds) [ [] ↦ s | d ∷ rest ↦ enter_origin d (arguments_in r) s ])

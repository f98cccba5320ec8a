-- What a form holds, by rule and disjunct number, and a rule's atoms as rows of five numbers. Assumes nothing.
use Rattle.std.specs.Prelude.{◌≡◌, List, [], ◌++◌, map, ℕ, ◌+◌, ◌-◌, ◌*◌, ◌≤◌, ◌<◌, length, get_or, replicate}
use Rattle.std.specs.Borrow.{Bor}
use Rattle.model.specs.Rules.{Atom, Rule}
use Rattle.model.specs.WellFormed.{WellFormedAtom, WellFormedAtoms, WellFormed}
use Rattle.model.specs.Limits.{fact_width}
use Rattle.form.specs.declared.atoms.Atoms.{Atoms}
use Rattle.form.specs.declared.atoms.Sizes.{Sizes}
use Rattle.model.specs.Form.{group_width, rule_width, arities_place, form_length, decoded, atom_row, atom_at, group_at}

-- The places of a form: of rule i; of group g of the rule at a place, its body being group 0 and disjunct d group d + 1; of these two; of
-- atom k of the group at a place; of the arity of predicate p.
abbrev pub rule_place : ℕ → ℕ
rule_place i = 2 + i * rule_width

abbrev pub group_place : ℕ → ℕ → ℕ
group_place at g = at + 1 + g * group_width

abbrev pub body_place : ℕ → ℕ
body_place i = group_place (rule_place i) 0

abbrev pub disjunct_place : ℕ → ℕ → ℕ
disjunct_place i d = group_place (rule_place i) (d + 1)

abbrev pub atom_place : ℕ → ℕ → ℕ
atom_place at k = at + 1 + k * fact_width

abbrev pub arity_place : ℕ → ℕ
arity_place p = arities_place + p

-- a form that holds a well-formed rule set
pub record Held (form : List ℕ) : Type 0 where
  pub room : form_length ≤ length form
  pub sound : WellFormed (decoded form)

-- the declared arities
unfoldable pub arities_of : List ℕ → List ℕ
arities_of form = (decoded form).arities

unfoldable pub rules_of : List ℕ → List Rule
rules_of form = (decoded form).rules

unfoldable pub rule_of : List ℕ → ℕ → Rule
rule_of form i = get_or (rules_of form) i (record { body = []; head = [] })

-- rule i of a form that holds a well-formed rule set
pub record RuleAt (form : List ℕ) (i : ℕ) : Type 0 where
  pub held : Held form
  pub within : i < length (rules_of form)

unfoldable pub disjunct_of : List ℕ → ℕ → ℕ → List Atom
disjunct_of form i d = get_or (rule_of form i).head d []

unfoldable pub atom_of : List ℕ → ℕ → Atom
atom_of form at = atom_at form (arities_of form) at

unfoldable pub group_of : List ℕ → ℕ → List Atom
group_of form at = group_at form (arities_of form) at

-- a well-formed atom stands at a place
pub record AtomAt (form : List ℕ) (at : ℕ) : Type 0 where
  pub held : Held form
  pub room : at + fact_width ≤ form_length
  pub atom : WellFormedAtom (arities_of form) (atom_of form at)

-- a well-formed body or disjunct stands at a place
pub record GroupAt (form : List ℕ) (at : ℕ) : Type 0 where
  pub held : Held form
  pub room : at + group_width ≤ form_length
  pub atoms : WellFormedAtoms (arities_of form) (group_of form at)

module _ {A : Type 0} where
  -- xs, and then z up to n elements
  unfoldable pub filled : ℕ → A → List A → List A
  filled n z xs = xs ++ replicate (n - length xs) z

-- a call at a form and a place may have returned x
pub record Returned {R : Type 0} (post : Bor (List ℕ) → ℕ → R → Type 0) (form : List ℕ) (at : ℕ) (x : R) : Type 0 where
  pub lent : Bor (List ℕ)
  pub same : lent.now ≡ form
  pub by : post lent at x

-- four values: for each of so many places one that is given there, and then z
pub record Each {A : Type 0} (gives : ℕ → A → Type 0) (n : ℕ) (z : A) (xs : List A) : Type 0 where
  pub four : length xs ≡ 4
  pub each : (k : ℕ) → k < n → gives k (get_or xs k z)
  pub rest : (k : ℕ) → n ≤ k → get_or xs k z ≡ z

abbrev pub no_row : List ℕ
no_row = replicate fact_width 0

-- four rows: those of the atoms, then zeros
unfoldable pub atom_rows : List Atom → List (List ℕ)
atom_rows as' = filled 4 no_row (map atom_row as')

-- the arities of up to four atoms, then zeros
unfoldable pub atom_arities : List Atom → List ℕ
atom_arities as' = filled 4 0 (map (λ (a : Atom). length a.variables) as')

-- the predicates of up to four atoms, then zeros
unfoldable pub atom_predicates : List Atom → List ℕ
atom_predicates as' = filled 4 0 (map (λ (a : Atom). a.predicate) as')

-- of up to four disjuncts the rows, the arities and the count of their atoms, then zeros
unfoldable pub head_rows : List (List Atom) → List (List (List ℕ))
head_rows ds = filled 4 (replicate 4 no_row) (map atom_rows ds)

unfoldable pub head_arities : List (List Atom) → List (List ℕ)
head_arities ds = filled 4 (replicate 4 0) (map atom_arities ds)

unfoldable pub head_counts : List (List Atom) → List ℕ
head_counts ds = filled 4 0 (map length ds)

-- up to four atoms as the code has them
abbrev pub atoms_of : List Atom → Atoms
atoms_of as' = record { rows = atom_rows as'; arities = atom_arities as'; count = length as' }

-- what goes with the rows of up to four disjuncts
abbrev pub sizes_of : List (List Atom) → Sizes
sizes_of ds = record { arities = head_arities ds; counts = head_counts ds; count = length ds }

-- the disjunct at a place of these
abbrev pub disjunct_at : List (List (List ℕ)) → Sizes → ℕ → Atoms
disjunct_at head sizes d = record { rows = get_or head d []; arities = get_or sizes.arities d []; count = get_or sizes.counts d 0 }

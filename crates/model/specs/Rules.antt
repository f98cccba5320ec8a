-- Rule sets (document 01: books), what a rule's variables say of it, and the numbering of Skolem functions (001, section 2; document 01, "Words").
-- Assumes nothing.
use Rattle.std.specs.Prelude.{List, [], ◌∷◌, Bool, true, false, ◌&&◌, ◌||◌, not, ℕ, suc, ◌+◌, eqb, ltb, length}
use Rattle.model.specs.Limits.{narrow_limit, predicate_limit}
use Rattle.model.specs.Lists.{all, any, keep, collect, member}

-- a number below 8 is a variable, one from 8 on a rule constant (document 02, C-16)
pub record Atom : Type 0 where
  pub predicate : ℕ
  pub variables : List ℕ

-- a body, and the disjuncts (document 01: alternatives) of the head (001, Definition 1)
pub record Rule : Type 0 where
  pub body : List Atom
  pub head : List (List Atom)

-- The version is that of its bytes (document 02, C-15): no stage, verdict or table looks at it, and of the published notions only which rules
-- may be blocked. The rules may name so many constants (document 02, C-16).
pub record RuleSet : Type 0 where
  pub version : ℕ
  pub fixed : ℕ
  pub arities : List ℕ
  pub rules : List Rule

-- versions from 2 on have two bytes for the count of predicates and for each predicate's number, and so may have more of them
unfoldable pub wide : ℕ → Bool
wide version = ltb 1 version

unfoldable pub most_predicates : ℕ → ℕ
most_predicates version = elim (wide version) [ true ↦ predicate_limit | false ↦ narrow_limit ]

-- the numbers in atoms: variables, and rule constants
unfoldable pub variables_of : List Atom → List ℕ
variables_of atoms = collect (λ (a : Atom). a.variables) atoms

-- every variable there can be
abbrev pub names : List ℕ
names = 0 ∷ 1 ∷ 2 ∷ 3 ∷ 4 ∷ 5 ∷ 6 ∷ 7 ∷ []

-- a variable of the body
unfoldable pub in_body : Rule → ℕ → Bool
in_body r v = ltb v 8 && member v (variables_of r.body)

-- the body's variables; this and the next two in rising order
unfoldable pub universal : Rule → List ℕ
universal r = keep (in_body r) names

-- the body's variables that stand in any disjunct
unfoldable pub frontier : Rule → List ℕ
frontier r = keep (λ (v : ℕ). in_body r v && any (λ (d : List Atom). member v (variables_of d)) r.head) names

-- the variables of a disjunct that the body lacks (document 01: new)
unfoldable pub existential : Rule → List Atom → List ℕ
existential r d = keep (λ (v : ℕ). member v (variables_of d) && not (in_body r v)) names

unfoldable pub existential_free : Rule → List Atom → Bool
existential_free r d = eqb (length (existential r d)) 0

-- document 01: plain
unfoldable pub datalog : Rule → Bool
datalog r = eqb (length r.head) 1 && all (existential_free r) r.head

-- document 01: divided. Only these rules can have a blocked trigger: a theorem where rules name no constants, and said by document 02, C-16,
-- from version 3 on.
unfoldable pub blockable : Rule → Bool
blockable r = ltb 1 (length r.head) && any (existential_free r) r.head

-- an existential variable in two disjuncts (document 01, refusal 8)
unfoldable pub repeated : Rule → List (List Atom) → Bool
repeated r [] = false
repeated r (d ∷ ds) = any (λ (v : ℕ). any (λ (e : List Atom). member v (existential r e)) ds) (existential r d) || repeated r ds

-- a disjunct without a variable of the body (document 01, refusal 9)
unfoldable pub detached : Rule → List Atom → Bool
detached r d = not (any (in_body r) (variables_of d))

-- a disjunct with its rule, and how many Skolem functions are numbered before its own
pub record Disjunct : Type 0 where
  pub rule : Rule
  pub atoms : List Atom
  pub before : ℕ

-- a rule with its numbered disjuncts: sk(ρ) of 001
pub record Entry : Type 0 where
  pub rule : Rule
  pub disjuncts : List Disjunct

unfoldable pub disjuncts_from : ℕ → Rule → List (List Atom) → List Disjunct
disjuncts_from n r [] = []
disjuncts_from n r (d ∷ ds) = record { rule = r; atoms = d; before = n } ∷ disjuncts_from (n + length (existential r d)) r ds

-- how many Skolem functions the disjuncts have together
unfoldable pub count_skolem : Rule → List (List Atom) → ℕ
count_skolem r [] = 0
count_skolem r (d ∷ ds) = length (existential r d) + count_skolem r ds

unfoldable pub entries_from : ℕ → List Rule → List Entry
entries_from n [] = []
entries_from n (r ∷ rs) = record { rule = r; disjuncts = disjuncts_from n r r.head } ∷ entries_from (n + count_skolem r r.head) rs

-- the rules with their Skolem functions, numbered from 1 by rule, disjunct and variable
unfoldable pub entries : RuleSet → List Entry
entries b = entries_from 0 b.rules

-- f is the Skolem function of an existential variable of this disjunct
unfoldable pub owns : ℕ → Disjunct → Bool
owns f d = ltb d.before f && ltb f (suc (d.before + length (existential d.rule d.atoms)))

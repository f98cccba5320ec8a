-- What the parsers of the code answer and leave in the row that they fill. Assumes nothing.
use Rattle.std.specs.Prelude.{◌≡◌, true, false, ◌&&◌, List, ℕ, ◌≤◌, leb, length, get_or, replicate, Result, Ok, Err, ⊤}
use Rattle.model.specs.Limits.{predicate_limit, rule_limit}
use Rattle.model.specs.Rules.{Atom, Rule, variables_of}
use Rattle.model.specs.Format.{Parsed, good, bad, and_then, many, byte, Signature, rule}
use Rattle.form_variables.specs.Sets.{set_of}
use Rattle.refusal.specs.declared.Refused.{Refused}
use Rattle.refusal.specs.Numbers.{number_of}
use Rattle.parsing.specs.declared.Parsed.{Parsed as Read}

module _ {V : Type 0} where
  -- model's answer for that of the code
  abbrev pub parsed_of : Result (Read V) Refused → Parsed V
  parsed_of (Ok p) = good p.value p.next
  parsed_of (Err r) = bad (number_of r.refusal) r.place

  -- keep gives what the code keeps of a value
  unfoldable pub kept_of : {A : Type 0} → (A → V) → Parsed A → Parsed V
  kept_of keep (good a i) = good (keep a) i
  kept_of keep (bad n p) = bad n p

-- a number that stands at i, if it is from low to high
unfoldable pub ranged : (n low high refusal i next : ℕ) → Parsed ℕ
ranged n low high refusal i next = elim (leb low n && leb n high) [ true ↦ good n next | false ↦ bad refusal i ]

-- nothing is kept
abbrev pub none : {A : Type 0} → A → ⊤
none a = tt

abbrev pub atom_set : Atom → ℕ
atom_set a = set_of a.variables

abbrev pub atoms_set : List Atom → ℕ
atoms_set as' = set_of (variables_of as')

-- the count of the rules and the rules, as a part of model's `rule_set`
unfoldable pub parsed_rules : List ℕ → Signature → ℕ → Parsed (List Rule)
parsed_rules bs s i = and_then (byte bs 0 rule_limit 5 i) (λ n j. many n (rule bs s) j)

unfoldable pub zeros : ℕ → List ℕ
zeros n = replicate n 0

-- the answer of a parser, and the row that it leaves where the parse is good
pub record Filled {A V : Type 0} (keep : A → V) (row : A → List ℕ) (parsed : Parsed A) (r : Result (Read V) Refused) (after : List ℕ) : Type 0 where
  pub answer : parsed_of r ≡ kept_of keep parsed
  pub stored : (a : A) (j : ℕ) → parsed ≡ good a j → after ≡ row a

-- the arities of a rule set: one to 1,024 (`predicate_limit`), each at most 4
pub record Arities (arities : List ℕ) : Type 0 where
  pub some : 1 ≤ length arities
  pub few : length arities ≤ predicate_limit
  pub small : (p : ℕ) → get_or arities p 0 ≤ 4

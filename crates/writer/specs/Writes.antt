-- What the writer's functions answer and leave: the parse of any bytes that spell the same, and a list that agrees with those bytes so far.
-- Assumes nothing.
use Rattle.std.specs.Prelude.{◌≡◌, Bool, List, ◌∷◌, ◌++◌, ℕ, ◌+◌, ◌≤◌, ◌<◌, length, get_or, drop, Option, Result}
use Rattle.model.specs.Limits.{last_version}
use Rattle.model.specs.Lists.{collect, numbers_from}
use Rattle.model.specs.Rules.{Atom, Rule, RuleSet, wide, most_predicates}
use Rattle.model.specs.Format.{Parsed, good, and_then, many, byte, number, signed, atoms, number_bytes, atoms_bytes, rule_bytes, Signature}
use Rattle.model.specs.Form.{arities_place, form_length, group_width, rule_width, spaced, group_at, rule_at}
use Rattle.refusal.specs.declared.Refusal.{Refusal}
use Rattle.refusal.specs.declared.Refused.{Refused}
use Rattle.parsing.specs.Step.{parsed_of, kept_of, atoms_set, Arities, parsed_rules}
use Rattle.parsing.specs.Heads.{fault}
use Rattle.parsing.specs.declared.Parsed.{Parsed as Read}

-- w numbers of a form stand from a place on, and `size` bytes have room from i on
pub record Fits (at w i size : ℕ) (out : List ℕ) : Type 0 where
  pub within : at + w ≤ form_length
  pub room : i + size ≤ length out

-- the first n arities of a form
abbrev pub arities_in : List ℕ → ℕ → List ℕ
arities_in form n = numbers_from form arities_place n

-- what atoms are read by, with these arities
abbrev pub signature_in : List ℕ → ℕ → ℕ → Signature
signature_in form version n = signed version (arities_in form n)

-- they are those of a rule set of this version
pub record Declared (form : List ℕ) (version n : ℕ) : Type 0 where
  pub arities : Arities (arities_in form n)
  pub few : n ≤ most_predicates version

-- So many bytes an atom, a group, a rule and all rules have at most, and what follows the version and the length: in version 2, which has
-- the longer ones.
abbrev pub atom_room : ℕ
atom_room = 6

abbrev pub group_room : ℕ
group_room = 25

abbrev pub rule_room : ℕ
rule_room = 126

abbrev pub rules_room : ℕ
rules_room = 8064

abbrev pub declared_room : ℕ
declared_room = 9091

abbrev pub content_room : ℕ
content_room = 9092

-- the same bytes behind the length and before i
pub record Agree (bs : List ℕ) (i : ℕ) (out : List ℕ) : Type 0 where
  pub at : (k : ℕ) → 4 ≤ k → k < i → get_or out k 0 ≡ get_or bs k 0

pub record Written {A V : Type 0} (keep : A → V) (parsed : Parsed A) (bs rest : List ℕ) (r : Result (Read V) Refused) (out : List ℕ) : Type 0 where
  pub answer : parsed_of r ≡ kept_of keep parsed
  pub stored : (a : A) (j : ℕ) → parsed ≡ good a j → Agree bs j out
  pub left : (a : A) (j : ℕ) → parsed ≡ good a j → drop j bs ≡ rest

-- `spelled` stands at i of whatever bytes are parsed
pub record Writes {A V : Type 0} (keep : A → V) (parser : List ℕ → Parsed A) (i : ℕ) (spelled before : List ℕ) (r : Result (Read V) Refused) (after : List ℕ) : Type 0 where
  pub run : (bs rest : List ℕ) → drop i bs ≡ spelled ++ rest → Agree bs i before → Written keep (parser bs) bs rest r after

-- a number is kept as it is
abbrev pub value : ℕ → ℕ
value n = n

-- `count` disjuncts of the rule at a place, for whatever body has this set of variables; what is kept is the fault of the rule that has them
abbrev pub WritesHead : List ℕ → ℕ → ℕ → ℕ → ℕ → ℕ → ℕ → List ℕ → Result (Read (Option Refusal)) Refused → List ℕ → Type 0
WritesHead form version n body count rule i before r after =
    (b : List Atom) → body ≡ atoms_set b
    → Writes (λ ds. fault (record { body = b; head = ds })) (λ bs. many count (atoms bs (signature_in form version n)) i) i
    (collect (atoms_bytes (wide version)) (spaced (group_at form (arities_in form n)) group_width count (rule + 22))) before r after

-- parts of model's `content`, `decoded` and `rule_set`

unfoldable pub rules_bytes : Bool → List Rule → List ℕ
rules_bytes w rs = length rs ∷ collect (rule_bytes w) rs

unfoldable pub rules_at : List ℕ → List ℕ → List Rule
rules_at form arities = spaced (rule_at form arities) rule_width (get_or form 1 0) 2

-- what a form spells behind the version
unfoldable pub declared_bytes : List ℕ → ℕ → List ℕ
declared_bytes form version =
    let n : ℕ = get_or form 0 0 in
    number_bytes (wide version) n ++ (arities_in form n ++ rules_bytes (wide version) (rules_at form (arities_in form n)))

-- all but the test that the bytes end there

unfoldable pub after_count : List ℕ → ℕ → ℕ → ℕ → Parsed RuleSet
after_count bs version n i =
    and_then (many n (byte bs 1 4 4) i) (λ arities j.
    and_then (parsed_rules bs (signed version arities) j) (λ rs e. good (record { version = version; fixed = 0; arities = arities; rules = rs }) e))

unfoldable pub after_version : List ℕ → ℕ → ℕ → Parsed RuleSet
after_version bs version i = and_then (number (wide version) bs 1 (most_predicates version) 4 i) (λ n j. after_count bs version n j)

unfoldable pub parsed_content : List ℕ → Parsed RuleSet
parsed_content bs = and_then (byte bs 1 last_version 3 4) (λ v i. after_version bs v i)

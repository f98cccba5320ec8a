-- The form of a rule set (document 01: book form): numbers at fixed places, counted and uncounted, and what reading and writing leave
-- behind. Assumes nothing.
--
-- Place 0 has the count of predicates, place 1 the count of rules; 64 rules of 106 numbers stand from place 2, 1024 arities from place 6786,
-- and the version at place 7810. Place 7811 is kept for C-16 of document 02 and is not counted.
-- A rule is the count of its disjuncts and five groups of 21 numbers: the body, then the disjuncts.
-- A group is the count of its atoms and four atoms of five numbers: the predicate, then its variables.
use Rattle.std.specs.Prelude.{List, [], ◌∷◌, ◌++◌, Bool, true, false, ◌&&◌, ◌||◌, ℕ, zero, suc, ◌+◌, ◌-◌, ◌*◌, ◌/◌, ◌%◌, eqb, leb, ltb, length, get_or, drop}
use Rattle.model.specs.Limits.{predicate_limit, fact_width}
use Rattle.model.specs.Lists.{collect, padded, numbers_from}
use Rattle.model.specs.Rules.{Atom, Rule, RuleSet}
use Rattle.model.specs.Format.{good, bad, read, rule_set, bytes_of}

abbrev pub group_width : ℕ
group_width = 21

abbrev pub rule_width : ℕ
rule_width = 106

-- the numbers of all rules
abbrev pub rules_length : ℕ
rules_length = 6784

abbrev pub arities_place : ℕ
arities_place = 6786

abbrev pub version_place : ℕ
version_place = 7810

abbrev pub form_length : ℕ
form_length = 7812

unfoldable pub atom_row : Atom → List ℕ
atom_row a = padded fact_width (a.predicate ∷ a.variables)

unfoldable pub group : List Atom → List ℕ
group as' = padded group_width (length as' ∷ collect atom_row as')

unfoldable pub rule_row : Rule → List ℕ
rule_row r = padded rule_width (length r.head ∷ (group r.body ++ collect group r.head))

-- the form of a rule set: 0 in every place that is not counted
unfoldable pub encoded : RuleSet → List ℕ
encoded b =
    length b.arities ∷ length b.rules ∷ (padded rules_length (collect rule_row b.rules) ++ (padded predicate_limit b.arities ++ (b.version ∷ 0 ∷ [])))

module _ {A : Type 0} where
  -- what f reads at n places, so many numbers apart
  unfoldable pub spaced : (ℕ → A) → ℕ → ℕ → ℕ → List A
  spaced f width zero at = []
  spaced f width (suc n) at = f at ∷ spaced f width n (at + width)

unfoldable pub atom_at : List ℕ → List ℕ → ℕ → Atom
atom_at form arities at = record { predicate = get_or form at 0; variables = numbers_from form (suc at) (get_or arities (get_or form at 0) 0) }

unfoldable pub group_at : List ℕ → List ℕ → ℕ → List Atom
group_at form arities at = spaced (atom_at form arities) fact_width (get_or form at 0) (suc at)

unfoldable pub rule_at : List ℕ → List ℕ → ℕ → Rule
rule_at form arities at = record { body = group_at form arities (suc at); head = spaced (group_at form arities) group_width (get_or form at 0) (at + 22) }

-- The rule set that a form holds in its counted places, whatever its numbers are and however short it is. Out of range, a number is one
-- that the reader of the bytes refuses. `encoded (decoded form)` is the form with 0 in every place that is not counted.
unfoldable pub decoded : List ℕ → RuleSet
decoded form =
    let arities : List ℕ = numbers_from form arities_place (get_or form 0 0) in
    record { version = get_or form version_place 0; fixed = 0; arities = arities; rules = spaced (rule_at form arities) rule_width (get_or form 1 0) 2 }

-- how many bytes were read or written, or a refusal and its place
pub data Transfer : Type 0 where
  done : ℕ → Transfer
  refusal : ℕ → ℕ → Transfer

pub record Reading : Type 0 where
  pub answer : Transfer
  pub form : List ℕ

-- everything that `read` answers and leaves behind: a form too short is refusal 1
unfoldable pub reading : List ℕ → List ℕ → Reading
reading bytes form =
    elim (leb form_length (length form)) [
      | false ↦ record { answer = refusal 1 0; form = form }
      | true ↦
          elim (read bytes) [
            | bad n p ↦ record { answer = refusal n p; form = form }
            | good b i ↦ record { answer = done i; form = encoded b ++ drop form_length form }
          ]
    ]

pub record Writing : Type 0 where
  pub answer : Transfer
  pub bytes : List ℕ

-- everything that `write` answers and leaves behind: the first of 3 to 9 that the form's bytes would meet, then refusal 1 for a byte list
-- that is shorter than these
unfoldable pub writing : List ℕ → List ℕ → Writing
writing form out =
    let bytes : List ℕ = bytes_of (decoded form) in
    elim (rule_set bytes) [
      | bad n p ↦ record { answer = refusal n p; bytes = out }
      | good b i ↦
          elim (leb (length bytes) (length out)) [
            | false ↦ record { answer = refusal 1 0; bytes = out }
            | true ↦ record { answer = done (length bytes); bytes = bytes ++ drop (length bytes) out }
          ]
    ]

-- The counted places (document 01, "Part of the product"), told by the numbers of the form alone, place by place. Below, p is a place in an
-- atom, a group or a rule that stands at `at`.

-- its predicate, and as many variables as the arity of that
unfoldable pub counted_in_atom : List ℕ → ℕ → ℕ → Bool
counted_in_atom form at p = leb p (get_or form (arities_place + get_or form at 0) 0)

-- its count, and what counts in so many atoms
unfoldable pub counted_in_group : List ℕ → ℕ → ℕ → Bool
counted_in_group form at zero = true
counted_in_group form at (suc p) = ltb (p / 5) (get_or form at 0) && counted_in_atom form (suc at + (p / 5) * 5) (p % 5)

-- its count, and what counts in the body and in so many disjuncts
unfoldable pub counted_in_rule : List ℕ → ℕ → ℕ → Bool
counted_in_rule form at zero = true
counted_in_rule form at (suc p) = leb (p / group_width) (get_or form at 0) && counted_in_group form (suc at + (p / group_width) * group_width) (p % group_width)

-- both counts, what counts in so many rules, so many arities, and behind the last arity there can be the version
unfoldable pub counted : List ℕ → ℕ → Bool
counted form zero = true
counted form (suc zero) = true
counted form (suc (suc p)) =
    elim (ltb p rules_length) [
      | true ↦ ltb (p / rule_width) (get_or form 1 0) && counted_in_rule form (2 + (p / rule_width) * rule_width) (p % rule_width)
      | false ↦ ltb (p - rules_length) (get_or form 0 0) || eqb (p - rules_length) predicate_limit
    ]

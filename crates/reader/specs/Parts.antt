-- Parts of model's `rule_set` and of its form: what follows the count of predicates, what follows the arities, and the count of the rules with
-- the rules; and the set of a body's variables, kept while its atoms are read (document 02, C-13). Assumes nothing.
use Rattle.std.specs.Prelude.{◌≡◌, true, false, List, ◌∷◌, ℕ, suc, eqb, length}
use Rattle.std.specs.Int.Bits.{bit_or}
use Rattle.model.specs.Lists.{padded, collect}
use Rattle.model.specs.Rules.{Atom, Rule, RuleSet}
use Rattle.model.specs.Format.{Parsed, good, bad, and_then, many, byte, signed}
use Rattle.model.specs.Form.{rules_length, rule_row}
use Rattle.form_variables.specs.Sets.{set_of}
use Rattle.parsing.specs.Step.{parsed_rules, atoms_set}

-- a set of variables, grown by some more
abbrev pub grown_by : ℕ → List ℕ → ℕ
grown_by set vs = bit_or set (set_of vs)

-- and by those of an atom
abbrev pub grown_by_atom : ℕ → Atom → ℕ
grown_by_atom set a = grown_by set a.variables

-- the set that is kept after some atoms is the one that is collected from them afresh
abbrev pub Afresh : List Atom → ℕ → Type 0
Afresh atoms set = atoms_set atoms ≡ set

unfoldable pub after_arities : List ℕ → ℕ → List ℕ → ℕ → Parsed RuleSet
after_arities bs version arities i =
    and_then (parsed_rules bs (signed version arities) i) (λ rs e.
    elim (eqb e (length bs)) [ true ↦ good (record { version = version; fixed = 0; arities = arities; rules = rs }) e | false ↦ bad 10 e ])

unfoldable pub after_count : List ℕ → ℕ → ℕ → ℕ → Parsed RuleSet
after_count bs version n i = and_then (many n (byte bs 1 4 4) i) (λ arities j. after_arities bs version arities j)

unfoldable pub rules_row : List Rule → List ℕ
rules_row rs = padded (suc rules_length) (length rs ∷ collect rule_row rs)

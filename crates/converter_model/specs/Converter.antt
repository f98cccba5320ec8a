-- A rule set in the bytes of another version (document 02, C-15). Assumes nothing.
use Rattle.std.specs.Prelude.{List, ◌++◌, true, false, ℕ, leb, length, drop}
use Rattle.model.specs.Limits.{narrow_limit, bytes_limit}
use Rattle.model.specs.Rules.{RuleSet, wide}
use Rattle.model.specs.Format.{Parsed, good, bad, and_then, byte, number, rule_set, whole, bytes_of}
use Rattle.model.specs.Form.{done, refusal, Writing}

-- the same rules over the same predicates
abbrev pub versioned : ℕ → RuleSet → RuleSet
versioned version b = record { version = version; fixed = b.fixed; arities = b.arities; rules = b.rules }

-- the version's byte, and a count of predicates that version 1 has too
unfoldable pub opening : ℕ → List ℕ → Parsed ℕ
opening version bs = and_then (byte bs version version 3 4) (λ v i. number (wide version) bs 1 narrow_limit 4 i)

-- a rule set of this version that every version has room for: 3 and 4 stand in the order and at the places of a rule set's other faults
unfoldable pub convertible : ℕ → List ℕ → Parsed RuleSet
convertible version bs = elim (whole bs) [ true ↦ and_then (opening version bs) (λ n i. rule_set bs) | false ↦ bad 2 0 ]

-- everything that a converter from one version to another answers and leaves behind: refusal 1 for an output that has no room for the longest
-- rule set, then those of reading, all of which change nothing
unfoldable pub converting : ℕ → ℕ → List ℕ → List ℕ → Writing
converting from to bytes out =
    elim (leb bytes_limit (length out)) [
      | false ↦ record { answer = refusal 1 0; bytes = out }
      | true ↦
          elim (convertible from bytes) [
            | bad n p ↦ record { answer = refusal n p; bytes = out }
            | good b i ↦
                let new : List ℕ = bytes_of (versioned to b) in
                record { answer = done (length new); bytes = new ++ drop (length new) out }
          ]
    ]

-- from version 1 to 2, and back
abbrev pub upgrading : List ℕ → List ℕ → Writing
upgrading = converting 1 2

abbrev pub downgrading : List ℕ → List ℕ → Writing
downgrading = converting 2 1

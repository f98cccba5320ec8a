-- The numbering of Skolem functions by places: rule i has places 4 * i to 4 * i + 3, one for each disjunct that it has or could have.
-- Assumes nothing.
use Rattle.std.specs.Prelude.{◌≡◌, true, List, [], ℕ, zero, suc, ◌+◌, ◌*◌, ◌/◌, ◌%◌, ◌≤◌, ◌<◌, length, get_or}
use Rattle.model.specs.Rules.{Disjunct, Entry, existential, entries, owns}
use Rattle.model.specs.Form.{spaced, decoded}
use Rattle.form.specs.Places.{RuleAt, rules_of, rule_of, disjunct_of}

abbrev pub places : List ℕ → ℕ
places form = length (rules_of form) * 4

-- how many Skolem functions the disjunct of a place has
unfoldable pub functions_at : List ℕ → ℕ → ℕ
functions_at form j = length (existential (rule_of form (j / 4)) (disjunct_of form (j / 4) (j % 4)))

-- how many are numbered before those of a place
unfoldable pub functions_before : List ℕ → ℕ → ℕ
functions_before form zero = 0
functions_before form (suc j) = functions_before form j + functions_at form j

-- the same for n places from the first on
unfoldable pub numbering : List ℕ → ℕ → List ℕ
numbering form n = spaced (functions_before form) 1 n 0

-- disjunct d of entry i of the rule set
unfoldable pub entry_of : List ℕ → ℕ → Entry
entry_of form i = get_or (entries (decoded form)) i (record { rule = record { body = []; head = [] }; disjuncts = [] })

unfoldable pub numbered_of : List ℕ → ℕ → ℕ → Disjunct
numbered_of form i d = get_or (entry_of form i).disjuncts d (record { rule = record { body = []; head = [] }; atoms = []; before = 0 })

-- a list that holds the numbering
pub record Numbered (form before : List ℕ) : Type 0 where
  pub room : places form ≤ length before
  pub each : (j : ℕ) → j < places form → get_or before j 0 ≡ functions_before form j

-- entry i of a form's rule set, with the numbering
pub record EntryAt (form before : List ℕ) (i : ℕ) : Type 0 where
  pub rule : RuleAt form i
  pub numbered : Numbered form before

-- f is a Skolem function of disjunct d of rule i
pub record Owned (form : List ℕ) (f i d : ℕ) : Type 0 where
  pub rule : i < length (rules_of form)
  pub disjunct : d < length (rule_of form i).head
  pub owner : owns f (numbered_of form i d) ≡ true

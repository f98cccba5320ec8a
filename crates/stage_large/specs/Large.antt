-- Triggers with more than 64 places, as the search gives them: by assignments of all variables, and the set of the body's; and the rules
-- that are searched for them. Assumes nothing.
use Rattle.std.specs.Prelude.{◌≡◌, Bool, true, false, not, ◌&&◌, ℕ, zero, suc, min, max, ◌+◌, ◌≤◌, ◌<◌, ltb, length, get_or}
use mathlib.Core.List.{List, map, Memᴰ}
use Rattle.model.specs.Limits.{place_limit, term_limit}
use Rattle.model.specs.Rules.{Rule, blockable}
use Rattle.rows.specs.Judging.{total as sum, size_in}
use Rattle.rows.specs.Making.{Left, handled}
use Rattle.tables.specs.Terms.{Ordered, total, size_at}
use Rattle.laws_triggers.specs.Match.{Body, Searchable}
use Rattle.fact_index.specs.Index.{Indexed}
use Rattle.new_triggers.specs.Unhandled.{Apart}
use Rattle.form.specs.Places.{rules_of, rule_of}
use Rattle.form_variables.specs.Sets.{has, elements}
use Rattle.stage_large.specs.Stage.{triggers_of}
use Rattle.stage_large.specs.Idle.{idle}
use Rattle.stage_large.specs.declared.counts.Counts.{Counts}
use Rattle.laws.specs.Lists.{Distinct}

-- the sizes of what the variables of a set stand for, together
unfoldable pub places_of : List ℕ → ℕ → List ℕ → ℕ
places_of terms set xs = total (size_at terms) (map (λ (v : ℕ). get_or xs v 0) (elements set))

-- so they are where the variables that are kept stand for what they do, and each other for a term of size `most`
unfoldable pub places_at_most : List ℕ → ℕ → ℕ → ℕ → List ℕ → ℕ
places_at_most terms set kept most xs = total (λ (v : ℕ). elim (has kept v) [ true ↦ size_at terms (get_or xs v 0) | false ↦ most ]) (elements set)

unfoldable pub large : List ℕ → ℕ → List ℕ → Bool
large terms set xs = ltb place_limit (places_of terms set xs)

-- sizes that were found, by the terms' numbers, none above 65: 0 for a term that was not measured
abbrev pub Measured : List ℕ → List ℕ → Type 0
Measured terms sizes = (i : ℕ) → 0 < get_or sizes i 0 → get_or sizes i 0 ≡ min (size_at terms i) 65

-- the greatest size of the first n terms, where 65 stands for every size from 65 on
unfoldable pub greatest_size : List ℕ → ℕ → ℕ
greatest_size terms zero = 0
greatest_size terms (suc n) = max (greatest_size terms n) (min (size_at terms n) 65)

-- above 512 terms, none of which is measured then, 65
unfoldable pub most_size : List ℕ → ℕ → ℕ
most_size terms n = elim (ltb term_limit n) [ true ↦ 65 | false ↦ greatest_size terms n ]

-- no size of the first n terms is above `most`, where 65 stands for every size from 65 on
abbrev pub Bounding : List ℕ → ℕ → ℕ → Type 0
Bounding terms n most = (most ≤ 65) × ((i : ℕ) → i < n → min (size_at terms i) 65 ≤ most)

-- a trigger over the first n terms that has at least `slack` places left below the limit, where no size is above `most`
pub record WithSlack (terms : List ℕ) (n set : ℕ) (xs : List ℕ) (most slack : ℕ) (sizes : List ℕ) : Type 0 where
  pub ordered : Ordered n terms
  pub within : (v : ℕ) → get_or xs v 0 < n
  pub measured : Measured terms sizes
  pub bounding : Bounding terms n most
  pub left : places_of terms set xs + slack ≤ place_limit

-- a stage whose facts stand once, and whose handled triggers are not too large
pub record HandledSmall (form : List ℕ) (l : Left) : Type 0 where
  pub earlier : l.old ≤ length l.rows.facts
  pub once : Distinct l.rows.facts
  pub small : (i : ℕ) → i < length (rules_of form) → blockable (rule_of form i) ≡ true → (m : List ℕ) → Memᴰ m (triggers_of l (rule_of form i))
      → handled l (rule_of form i) m ≡ true → ltb place_limit (sum (size_in (length l.rows.terms) l.rows.terms) m) ≡ false

-- a body's triggers over a stage can be searched for large ones
pub record Sought (b : Body) (terms facts : List ℕ) (n : Counts) (index : List ℕ) (most : ℕ) (sizes : List ℕ) : Type 0 where
  pub searchable : Searchable b facts n.facts n.terms
  pub ordered : Ordered n.terms terms
  pub few : n.terms < 65536
  pub indexed : Indexed facts n.facts index
  pub apart : Apart b facts n.facts n.old
  pub bounding : Bounding terms n.terms most
  pub measured : Measured terms sizes

-- a rule is in question: it is blockable, and the stage has something new for it
abbrev pub in_question : Rule → List ℕ → Counts → Bool
in_question r facts n = blockable r && not (idle r facts n.facts n.old)

-- the first rule in question from one on, or the count of rules
pub record NextInQuestion (form facts : List ℕ) (n : Counts) (from r : ℕ) : Type 0 where
  pub onward : from ≤ r
  pub within : r ≤ length (rules_of form)
  pub passed : (k : ℕ) → from ≤ k → k < r → in_question (rule_of form k) facts n ≡ false
  pub found : r < length (rules_of form) → in_question (rule_of form r) facts n ≡ true

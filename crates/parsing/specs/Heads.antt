-- The faults of a rule as a whole, by sets of variables. Assumes nothing.
use Rattle.std.specs.Prelude.{Bool, true, false, not, ℕ, ◌-◌, eqb, Option, Some, None}
use Rattle.std.specs.Int.Bits.{bit_and}
use Rattle.model.specs.Lists.{any}
use Rattle.model.specs.Rules.{Rule, repeated, detached}
use Rattle.refusal.specs.declared.Refusal.{Refusal}
use Rattle.refusal.specs.declared.Refusal.TheVariants.{Repeated, Detached}

-- a set without the members of another, of eight variables
abbrev pub others : ℕ → ℕ → ℕ
others set body = bit_and set (255 - body)

-- a repeated existential variable before a detached disjunct
abbrev pub fault_by : Bool → Bool → Option Refusal
fault_by true apart = Some Repeated
fault_by false true = Some Detached
fault_by false false = None

-- the same, by the set of the repeated variables and whether a disjunct is detached
abbrev pub fault_of : ℕ → Bool → Option Refusal
fault_of again apart = fault_by (not (eqb again 0)) apart

-- the refusal of a rule that is read whole
unfoldable pub fault : Rule → Option Refusal
fault r = fault_by (repeated r r.head) (any (detached r) r.head)

-- Well-formed rule sets: what is left when refusals 3 to 9 are excluded (document 01, "Turned back"; 001, Definition 1). Assumes nothing.
use Rattle.std.specs.Prelude.{◌≡◌, false, ℕ, ◌≤◌, ◌<◌, length, get_or}
use mathlib.Core.List.{List, Memᴰ}
use Rattle.model.specs.Limits.{last_version, rule_limit}
use Rattle.model.specs.Lists.{any}
use Rattle.model.specs.Rules.{Atom, Rule, RuleSet, most_predicates, repeated, detached}

-- refusal 7
pub record WellFormedAtom (arities : List ℕ) (a : Atom) : Type 0 where
  pub declared : a.predicate < length arities
  pub arity : length a.variables ≡ get_or arities a.predicate 0
  pub range : (v : ℕ) → Memᴰ v a.variables → v ≤ 7

-- a body or a disjunct: refusals 6 and 7
pub record WellFormedAtoms (arities : List ℕ) (as' : List Atom) : Type 0 where
  pub some : 1 ≤ length as'
  pub few : length as' ≤ 4
  pub each : (a : Atom) → Memᴰ a as' → WellFormedAtom arities a

-- refusals 6 to 9
pub record WellFormedRule (arities : List ℕ) (r : Rule) : Type 0 where
  pub body : WellFormedAtoms arities r.body
  pub some : 1 ≤ length r.head
  pub few : length r.head ≤ 4
  pub each : (d : List Atom) → Memᴰ d r.head → WellFormedAtoms arities d
  pub separate : repeated r r.head ≡ false
  pub attached : any (detached r) r.head ≡ false

-- refusals 3 to 9
pub record WellFormed (b : RuleSet) : Type 0 where
  pub first : 1 ≤ b.version
  pub last : b.version ≤ last_version
  -- no bytes state rule constants yet (document 02, C-16)
  pub unnamed : b.fixed ≡ 0
  pub some : 1 ≤ length b.arities
  pub few : length b.arities ≤ most_predicates b.version
  pub arities : (n : ℕ) → Memᴰ n b.arities → (1 ≤ n) × (n ≤ 4)
  pub short : length b.rules ≤ rule_limit
  pub rules : (r : Rule) → Memᴰ r b.rules → WellFormedRule b.arities r

-- Demand 3: what an accepted list promises to every filling (document 01, "Filling"), as one statement about a rule set and its list, and about
-- the answer and the tables of `check`. Assumes nothing.
use Rattle.std.specs.Prelude.{◌≡◌, false, not, ℕ, ◌+◌, ◌^◌, ◌≤◌, ◌<◌, length, get_or}
use mathlib.Core.List.{List, [], ◌∷◌, map, Memᴰ}
use Rattle.model.specs.Lists.{any, keep, extend}
use Rattle.model.specs.Term.{Term, star, constant, fixed, same, is_fixed, starred, stars, cyclic}
use Rattle.model.specs.Rules.{RuleSet}
use Rattle.model.specs.Format.{good, read}
use Rattle.model.specs.Triggers.{Fact, terms_of}
use Rattle.model.specs.Stages.{accepted}
use Rattle.model.specs.Tables.{checked}
use Rattle.model.specs.Spelled.{spelled_facts}
use Rattle.model.specs.Chase.{Attempt, State, chase, initial}

unfoldable pub starred_fact : Fact → Fact
starred_fact f = record { predicate = f.predicate; arguments = map starred f.arguments }

-- k: every place of ⋆ in a listed fact
unfoldable pub stars_of : List Term → ℕ
stars_of [] = 0
stars_of (t ∷ ts) = stars t + stars_of ts

-- n: the different constants of an instance that rules do not name (document 02, C-16)
unfoldable pub constants : List Fact → ℕ
constants fs = length (extend same [] (keep (λ (t : Term). not (is_fixed t)) (terms_of fs)))

-- the sum, over listed facts, of n to the power k; n to the power 0 is 1
unfoldable pub bound : ℕ → List Fact → ℕ
bound n [] = 0
bound n (f ∷ fs) = n ^ stars_of f.arguments + bound n fs

-- constants, and k rule constants
pub data Constants (k : ℕ) : List Term → Type 0 where
  none : Constants k []
  more : {c : ℕ} {ts : List Term} → Constants k ts → Constants k (constant c ∷ ts)
  known : {c : ℕ} {ts : List Term} → c < k → Constants k ts → Constants k (fixed c ∷ ts)

-- a fact over declared predicates and constants
pub record Over (b : RuleSet) (f : Fact) : Type 0 where
  pub declared : f.predicate < length b.arities
  pub arity : length f.arguments ≡ get_or b.arities f.predicate 0
  pub constant : Constants b.fixed f.arguments

-- what is claimed of a state that a filling reached, at depth d
pub record Bounded (d : ℕ) (listed : List Fact) (instance' : List Fact) (s : State) : Type 0 where
  pub acyclic : (f : Fact) → Memᴰ f s.facts → any (cyclic d) f.arguments ≡ false
  pub covered : (f : Fact) → Memᴰ f s.facts → Memᴰ (starred_fact f) listed
  pub steps : s.steps ≤ bound (constants instance') listed

abbrev pub Demand3 : ℕ → RuleSet → List Fact → Type 0
Demand3 d b listed =
    (instance' : List Fact) → ((f : Fact) → Memᴰ f instance' → Over b f) → (attempts : List Attempt)
    → Bounded d listed instance' (chase b attempts (initial instance'))

abbrev pub Demand3OfCheck : Type 0
Demand3OfCheck =
    (d : ℕ) (bytes terms₀ facts₀ : List ℕ) (b : RuleSet) (i n f t : ℕ) → read bytes ≡ good b i → (checked d bytes terms₀ facts₀).verdict ≡ accepted n f t
    → Demand3 d b (spelled_facts b.arities (λ j. star) t f (checked d bytes terms₀ facts₀).terms (checked d bytes terms₀ facts₀).facts 0)

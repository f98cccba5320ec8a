-- What a well-formed rule set bounds: its predicates, arities, and the variables of atoms. Assumes nothing.
use mathlib.Core.Path.{◌≡◌, refl, subst}
use mathlib.Core.Bool.{Bool, true, false}
use mathlib.Core.List.{List, [], ◌∷◌, map, Memᴰ}
use Prim.Native.Nat.{ℕ, zero, suc, ◌-◌, ◌≤◌, ◌<◌}
use native.Mathlib.Omega.{arith}
use lib.Dec.{ltb}
use lib.ListN.{length, get_or}
use Rattle.model.specs.Limits.{narrow_limit, predicate_limit}
use Rattle.model.specs.Rules.{Atom, Rule, RuleSet, Entry, wide, most_predicates, variables_of, in_body, universal, entries}
use Rattle.model.specs.Term.{Term}
use Rattle.model.specs.Triggers.{Fact, valued, instantiate}
use Rattle.model.specs.WellFormed.{WellFormedAtom, WellFormedAtoms, WellFormedRule, WellFormed}
use Rattle.laws.proofs.Lists.{map_mem}
use Rattle.laws.proofs.Facts.{fact_path}
use Rattle.laws.proofs.Rules.{entries_mem, variables_of_mem, in_body_small, mem_universal}
use Rattle.laws.proofs.Triggers.{map_agree, valued_variable}

get_or_within : (c : ℕ) (xs : List ℕ) → ((x : ℕ) → Memᴰ x xs → x ≤ c) → (i : ℕ) → get_or xs i 0 ≤ c
get_or_within c [] h i = omega arith
get_or_within c (x ∷ xs) h zero = h x (Memᴰ.head refl)
get_or_within c (x ∷ xs) h (suc i) = get_or_within c xs (λ y m. h y (Memᴰ.tail m)) i

-- no version has more predicates than the last
pub most_few : (version : ℕ) → most_predicates version ≤ predicate_limit
unfolding most_predicates
most_few version = go (wide version)
  where
    go : (w : Bool) → elim w [ true ↦ predicate_limit | false ↦ narrow_limit ] ≤ predicate_limit
    go true = omega arith
    go false = omega arith

pub predicates_few : {b : RuleSet} → WellFormed b → length b.arities ≤ predicate_limit
predicates_few {b} w = let f = w.few in omega (arith, most_few b.version)

-- an arity is at most 4, and a predicate that is not declared has none
pub arities_few : {b : RuleSet} → WellFormed b → (p : ℕ) → get_or b.arities p 0 ≤ 4
arities_few {b} w p = get_or_within 4 b.arities (λ a m. (w.arities a m).1) p

pub entry_well_formed : {b : RuleSet} → WellFormed b → {e : Entry} → Memᴰ e (entries b) → WellFormedRule b.arities e.rule
entry_well_formed {b} w {e} i = w.rules e.rule (entries_mem b i).rule

pub variable_range : {arities : List ℕ} {as' : List Atom} → WellFormedAtoms arities as' → {v : ℕ} → Memᴰ v (variables_of as') → v ≤ 7
variable_range {as' = as'} w {v} k = let (a, i, j) = variables_of_mem as' k in (w.each a i).range v j

-- no well-formed rule set states rule constants yet, of whatever version
pub older_unnamed : {b : RuleSet} → WellFormed b → ltb 2 b.version ≡ false → b.fixed ≡ 0
older_unnamed w h = w.unnamed

-- a well-formed atom names no constant yet, so that whatever it names is below any number
pub constant_declared : {arities : List ℕ} {a : Atom} → WellFormedAtom arities a → {v : ℕ} → 8 ≤ v → Memᴰ v a.variables → (k : ℕ) → v - 8 < k
constant_declared w {v} h m k = let r = w.range v m in absurd (omega arith)

-- an instance of a well-formed atom: the values of its variables
abbrev pub of_variables : (ℕ → Term) → Atom → Fact
of_variables σ a = record { predicate = a.predicate; arguments = map σ a.variables }

pub instance_of_variables : {arities : List ℕ} {a : Atom} → WellFormedAtom arities a → (σ : ℕ → Term) → instantiate σ a ≡ of_variables σ a
unfolding instantiate
instance_of_variables {a = a} w σ = fact_path refl (map_agree (valued σ) σ a.variables (λ v m. valued_variable σ v (w.range v m)))

pub value_of_variable : {arities : List ℕ} {a : Atom} → WellFormedAtom arities a → (σ : ℕ → Term) {s : Term} → Memᴰ s (instantiate σ a).arguments
    → (v : ℕ) × Memᴰ v a.variables × (s ≡ σ v)
value_of_variable {a = a} w σ {s} m = map_mem σ a.variables (subst (λ (f : Fact). Memᴰ s f.arguments) (instance_of_variables w σ) m)

pub in_body_universal : {arities : List ℕ} {r : Rule} → WellFormedRule arities r → {v : ℕ} → in_body r v ≡ true → Memᴰ v (universal r)
in_body_universal {r = r} w {v} e = mem_universal r (in_body_small r v e) e

-- A number tells the refusal: no two refusals have the same. Assumes nothing.
use mathlib.Core.Path.{◌≡◌, ap}
use mathlib.Core.Bool.{false, Bool-set}
use mathlib.Core.HLevel.{Σ_prop_path}
use Prim.Native.Nat.{ℕ}
use native.Mathlib.Omega.{arith}
use Rattle.refusal.specs.declared.spare.Spare.{Spare}
use Rattle.refusal.specs.declared.Refusal.{Refusal}
use Rattle.refusal.specs.declared.Refusal.TheVariants.{Other}
use Rattle.refusal.specs.Taken.{taken}
use Rattle.refusal.specs.Numbers.{number_of}

-- a number, and that no refusal has it by name
abbrev Pair : Type 0
Pair = (n : ℕ) × (taken n ≡ false)

abbrev pair : Spare → Pair
pair s = (s.number, s.spare)

abbrev other : Pair → Refusal
other p = Other (record { number = p.0; spare = p.1 })

spare_told : (s t : Spare) → s.number ≡ t.number → Other s ≡ Other t
spare_told s t e = let same : pair s ≡ pair t = Σ_prop_path (λ n. Bool-set (taken n) false) e in ap other same

pub refusal_told : (r q : Refusal) → number_of r ≡ number_of q → r ≡ q
refusal_told (Other s) (Other t) e = spare_told s t e
refusal_told (Other s) q e = let h : taken s.number ≡ false = s.spare in grind arith
refusal_told r (Other t) e = let h : taken t.number ≡ false = t.spare in grind arith
refusal_told r q e = grind arith

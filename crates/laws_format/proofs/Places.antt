-- Numbers by their places: in what is read from a place on, in rows of one width, and in a form. Assumes nothing.
use mathlib.Core.Path.{◌≡◌, ap, ◌∙◌}
use mathlib.Core.Bool.{Bool, true, false, ◌&&◌, ◌||◌}
use mathlib.Core.List.{List, Memᴰ}
use Prim.Native.Nat.{ℕ, zero, suc, ◌+◌, ◌-◌, ◌*◌, ◌/◌, ◌%◌, ◌≤◌, ◌<◌}
use native.Mathlib.Omega.{arith}
use native.Mathlib.Nat.{suc-mul}
use lib.Dec.{eqb, ltb, leb-zero, leb-suc-zero, leb-suc-suc}
use lib.ListN.{length, get_or}
use borrow.Author.Tests.{lt-ltb, le-ltb}
use Rattle.model.specs.Lists.{numbers_from}
use Rattle.model.specs.WellFormed.{WellFormedAtom, WellFormedAtoms, WellFormedRule, WellFormed}
use Rattle.model.specs.Form.{arities_place, spaced, atom_at, group_at, rule_at, decoded, counted_in_rule, counted}
use Rattle.laws.proofs.WellFormed.{predicates_few}
use Rattle.laws.proofs.Places.{length_numbers_from, length_spaced}
use Rattle.laws_format.proofs.Bytes.{arity_at_most}

-- a number where a test passes, 0 where it fails
abbrev pub only : Bool → ℕ → ℕ
only t n = elim t [ true ↦ n | false ↦ 0 ]

pub numbers_from_place : (xs : List ℕ) (at n p : ℕ) → get_or (numbers_from xs at n) p 0 ≡ only (ltb p n) (get_or xs (at + p) 0)
unfolding numbers_from
numbers_from_place xs at zero p = rw (leb-suc-zero p)
numbers_from_place xs at (suc n) zero = rw (leb-suc-suc 0 n, leb-zero n) (ap (λ (k : ℕ). get_or xs k 0) (omega arith))
numbers_from_place xs at (suc n) (suc p) =
    rw (leb-suc-suc (suc p) n) (numbers_from_place xs (suc at) n p ∙ ap (λ (k : ℕ). only (ltb p n) (get_or xs k 0)) (omega arith))

module _ {A : Type 0} (f : ℕ → A) (width : ℕ) where
  pub spaced_mem : (n at i : ℕ) → i < n → Memᴰ (f (at + i * width)) (spaced f width n at)
  unfolding spaced
  spaced_mem zero at i h = absurd (omega arith)
  spaced_mem (suc n) at zero h = let start : at + 0 * width ≡ at = omega arith in Memᴰ.head (ap f start)
  spaced_mem (suc n) at (suc i) h =
      let next : at + suc i * width ≡ at + width + i * width = omega (arith, suc-mul i width) in
      rw next (Memᴰ.tail (spaced_mem n (at + width) i (omega arith)))

-- the clauses of `counted`

pub counted_rules : (form : List ℕ) (p : ℕ) → p < 6784
    → counted form (suc (suc p)) ≡ ltb (p / 106) (get_or form 1 0) && counted_in_rule form (2 + (p / 106) * 106) (p % 106)
unfolding counted
counted_rules form p h = rw (lt-ltb p 6784 h, counted)

pub counted_behind : (form : List ℕ) (p : ℕ) → 6784 ≤ p → counted form (suc (suc p)) ≡ ltb (p - 6784) (get_or form 0 0) || eqb (p - 6784) 1024
unfolding counted
counted_behind form p h = rw (le-ltb p 6784 h, counted)

-- what is read in a part of a form, if the part is well-formed
module _ (form arities : List ℕ) (at : ℕ) where
  module _ (w : WellFormedAtoms arities (group_at form arities at)) where
    pub atoms_few : get_or form at 0 ≤ 4
    unfolding group_at
    atoms_few = let few = w.few in omega (arith, length_spaced (atom_at form arities) 5 (get_or form at 0) (suc at))

    pub atom_well_formed : (k : ℕ) → k < get_or form at 0 → WellFormedAtom arities (atom_at form arities (suc at + k * 5))
    unfolding group_at
    atom_well_formed k m = w.each (atom_at form arities (suc at + k * 5)) (spaced_mem (atom_at form arities) 5 (get_or form at 0) (suc at) k m)

  module _ (w : WellFormedRule arities (rule_at form arities at)) where
    pub disjuncts_few : get_or form at 0 ≤ 4
    unfolding rule_at
    disjuncts_few = let few = w.few in omega (arith, length_spaced (group_at form arities) 21 (get_or form at 0) (at + 22))

    -- the body is group 0
    pub group_well_formed : (k : ℕ) → k ≤ get_or form at 0 → WellFormedAtoms arities (group_at form arities (suc at + k * 21))
    unfolding rule_at
    group_well_formed zero m = let start : suc at + 0 * 21 ≡ suc at = omega arith in rw start w.body
    group_well_formed (suc k) m =
        let next : suc at + suc k * 21 ≡ at + 22 + k * 21 = omega arith in
        rw next (w.each (group_at form arities (at + 22 + k * 21)) (spaced_mem (group_at form arities) 21 (get_or form at 0) (at + 22) k m))

abbrev pub arities_of : List ℕ → List ℕ
arities_of form = numbers_from form arities_place (get_or form 0 0)

module _ (form : List ℕ) (w : WellFormed (decoded form)) where
  pub arities_few : get_or form 0 0 ≤ 1024
  unfolding decoded
  arities_few = let few = predicates_few w in omega (arith, length_numbers_from form arities_place (get_or form 0 0))

  pub rules_few : get_or form 1 0 ≤ 64
  unfolding decoded
  rules_few = let few = w.short in omega (arith, length_spaced (rule_at form (arities_of form)) 106 (get_or form 1 0) 2)

  pub rule_well_formed : (k : ℕ) → k < get_or form 1 0 → WellFormedRule (arities_of form) (rule_at form (arities_of form) (2 + k * 106))
  unfolding decoded
  rule_well_formed k m = w.rules (rule_at form (arities_of form) (2 + k * 106)) (spaced_mem (rule_at form (arities_of form)) 106 (get_or form 1 0) 2 k m)

  pub arities_same : (p : ℕ) → p < length (arities_of form) → get_or (arities_of form) p 0 ≡ get_or form (arities_place + p) 0
  arities_same p h =
      numbers_from_place form arities_place (get_or form 0 0) p ∙
      ap (λ (t : Bool). only t (get_or form (arities_place + p) 0)) (lt-ltb p (get_or form 0 0) (omega (arith, length_numbers_from form arities_place (get_or form 0 0))))

  pub arities_low : (p : ℕ) → p < length (arities_of form) → get_or (arities_of form) p 0 ≤ 4
  unfolding decoded
  arities_low = arity_at_most w

-- The places of a trigger, variable by variable, and the sizes that were found. Assumes nothing.
use mathlib.Core.Path.{◌≡◌, refl, sym, ap, ◌∙◌, subst}
use mathlib.Core.Bool.{true, false}
use mathlib.Core.List.{List, [], ◌∷◌, ◌++◌, map, map-append}
use Prim.Native.Nat.{ℕ, min, ◌+◌, ◌<◌}
use native.Mathlib.Nat.{add-zero, zero-add, add_assoc}
use native.Mathlib.Numerals.{add-one}
use native.Mathlib.Decide.{ℕ_discrete}
use native.Mathlib.Omega.{arith}
use lib.ListN.{length, get_or, set, take, replicate}
use lib.Seq.{take-suc, get_or-set_same, get_or-set_other}
use borrow.Author.Tests.{lt-ltb}
use Rattle.model.specs.Lists.{keep}
use Rattle.model.specs.Rules.{names}
use Rattle.laws.proofs.Lists.{keep_yes, keep_no, keep_append}
use Rattle.tables.specs.Terms.{total, size_at}
use Rattle.laws.proofs.Places.{zeros_at}
use Rattle.form_variables.specs.Sets.{has, elements}
use Rattle.stage_large.specs.Large.{places_of, large, Measured}
use Rattle.rows.proofs.Triggers.{names_at}

total_append : (f : ℕ → ℕ) (xs ys : List ℕ) → total f (xs ++ ys) ≡ total f xs + total f ys
unfolding total
total_append f [] ys = sym (zero-add (total f ys))
total_append f (x ∷ xs) ys = ap (λ (k : ℕ). f x + k) (total_append f xs ys) ∙ sym (add_assoc (f x) (total f xs) (total f ys))

-- nothing was measured yet
pub measured_none : (t : List ℕ) (n : ℕ) → Measured t (replicate n 0)
measured_none t n i positive = absurd (omega (arith, zeros_at n i))

-- a size that was found is put down
pub measured_with : (t sizes : List ℕ) (i k : ℕ) → i < length sizes → k ≡ min (size_at t i) 65 → Measured t sizes → Measured t (set sizes i k)
measured_with t sizes i k h e measured j positive = go (ℕ_discrete j i)
  where
    go : Dec (j ≡ i) → get_or (set sizes i k) j 0 ≡ min (size_at t j) 65
    go (yes p) =
        ap (λ (x : ℕ). get_or (set sizes i k) x 0) p ∙ get_or-set_same sizes i k 0 h ∙ e ∙ ap (λ (x : ℕ). min (size_at t x) 65) (sym p)
    go (no p) =
        let q = get_or-set_other sizes i j k 0 p in
        q ∙ measured j (subst (λ (x : ℕ). 0 < x) q positive)

module _ (t : List ℕ) (set : ℕ) (xs : List ℕ) where
  -- of the variables before v
  unfoldable pub places_before : ℕ → ℕ
  places_before v = total (size_at t) (map (λ (u : ℕ). get_or xs u 0) (keep (has set) (take v names)))

  one_more : (v : ℕ) → v < 8 → places_before (v + 1) ≡ places_before v + total (size_at t) (map (λ (u : ℕ). get_or xs u 0) (keep (has set) (v ∷ [])))
  unfolding places_before
  one_more v h =
      let e : take (v + 1) names ≡ take v names ++ (v ∷ []) =
      ap (λ (k : ℕ). take k names) (add-one v) ∙ take-suc names v 0 h ∙ ap (λ (u : ℕ). take v names ++ (u ∷ [])) (names_at v (omega arith)) in
      ap (λ (us : List ℕ). total (size_at t) (map (λ (u : ℕ). get_or xs u 0) (keep (has set) us))) e
      ∙ ap (λ (us : List ℕ). total (size_at t) (map (λ (u : ℕ). get_or xs u 0) us)) (keep_append (has set) (take v names) (v ∷ []))
      ∙ ap (total (size_at t)) (map-append (λ (u : ℕ). get_or xs u 0) (keep (has set) (take v names)) (keep (has set) (v ∷ [])))
      ∙ total_append (size_at t) (map (λ (u : ℕ). get_or xs u 0) (keep (has set) (take v names))) (map (λ (u : ℕ). get_or xs u 0) (keep (has set) (v ∷ [])))

  pub places_none : places_before 0 ≡ 0
  unfolding places_before keep total
  places_none = refl

  pub places_with : (v : ℕ) → v < 8 → has set v ≡ true → places_before (v + 1) ≡ places_before v + size_at t (get_or xs v 0)
  unfolding keep total
  places_with v h e =
      one_more v h
      ∙ ap (λ (us : List ℕ). places_before v + total (size_at t) (map (λ (u : ℕ). get_or xs u 0) us)) (keep_yes (has set) v [] e)
      ∙ ap (λ (k : ℕ). places_before v + k) (add-zero (size_at t (get_or xs v 0)))

  pub places_without : (v : ℕ) → v < 8 → has set v ≡ false → places_before (v + 1) ≡ places_before v
  unfolding keep total
  places_without v h e =
      one_more v h
      ∙ ap (λ (us : List ℕ). places_before v + total (size_at t) (map (λ (u : ℕ). get_or xs u 0) us)) (keep_no (has set) v [] e)
      ∙ add-zero (places_before v)

  pub places_all : places_before 8 ≡ places_of t set xs
  unfolding places_before places_of elements
  places_all = refl

-- places counted up to 65
pub large_yes : (t : List ℕ) (set : ℕ) (xs : List ℕ) (r : ℕ) → min r 65 ≡ min (places_of t set xs) 65 → 64 < r → large t set xs ≡ true
unfolding large
large_yes t set xs r e h = lt-ltb 64 (places_of t set xs) (omega arith)

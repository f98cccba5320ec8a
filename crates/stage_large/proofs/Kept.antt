-- The variables that keep a trigger's places at 64 or below: one is let go, and what agrees with the trigger at the others is not large. Assumes
-- nothing.
use mathlib.Core.Path.{◌≡◌, refl, sym, ap, ◌∙◌, subst}
use mathlib.Core.Bool.{Bool, true, false, not, ◌&&◌}
use mathlib.Core.Logic.{◌⊎◌, inl, inr}
use mathlib.Core.List.{List, [], ◌∷◌, map, Memᴰ}
use Prim.Native.Nat.{ℕ, min, ◌+◌, ◌*◌, ◌-◌, ◌^◌, ◌%◌, ◌≤◌, ◌<◌}
use native.Mathlib.Decide.{ℕ_discrete}
use native.Mathlib.Omega.{arith}
use lib.Bits.{bit_and}
use lib.Dec.{eqb}
use lib.ListN.{get_or}
use borrow.Author.Tests.{le-ltb, eq-eqb, ne_eqb}
use Rattle.model.specs.Rules.{names}
use Rattle.laws.specs.Lists.{Distinct, none, one}
use Rattle.laws.proofs.Bools.{case}
use Rattle.laws.proofs.Lists.{keep_mem}
use Rattle.laws.proofs.Rules.{names_mem, names_distinct, keep_distinct}
use Rattle.tables.specs.Terms.{total, size_at}
use Rattle.form_variables.specs.Sets.{has, elements}
use Rattle.form_variables.proofs.Sets.{digit, has_and, has_digit, has_complement}
use Rattle.stage_output.proofs.Flat.{total_agree}
use Rattle.stage_large.specs.Large.{places_of, places_at_most, large, Bounding}
use Rattle.stage_large.proofs.Bounds.{total_bounded}

-- sums

agree : (f g : ℕ → ℕ) (vs : List ℕ) → ((v : ℕ) → Memᴰ v vs → f v ≡ g v) → total f vs ≡ total g vs
agree f g vs h = sym (total_agree f f vs (λ v m. refl)) ∙ total_agree f g vs h

total_map : (f g : ℕ → ℕ) (vs : List ℕ) → total f (map g vs) ≡ total (λ (v : ℕ). f (g v)) vs
unfolding total
total_map f g [] = refl
total_map f g (v ∷ vs) = ap (λ (k : ℕ). f (g v) + k) (total_map f g vs)

-- one number of the sum grows
but_one : (f g : ℕ → ℕ) (v : ℕ) {vs : List ℕ} → Distinct vs → ((u : ℕ) → Memᴰ u vs → (u ≡ v → ⊥) → f u ≡ g u) → min (f v) 65 ≤ g v → total f vs ≤ 64
    → total g vs + min (f v) 65 ≤ total f vs + g v
unfolding total
but_one f g v none same grows few = omega arith
but_one f g v (one {x = u} {xs = us} new d) same grows few = go (but_one f g v d (λ w m. same w (Memᴰ.tail m)) grows (omega arith)) (ℕ_discrete u v)
  where
    go : total g us + min (f v) 65 ≤ total f us + g v → Dec (u ≡ v) → g u + total g us + min (f v) 65 ≤ f u + total f us + g v
    go below (yes e) =
        let p = ap f e in
        let q = ap g e in
        let r = agree f g us (λ w m. same w (Memᴰ.tail m) (λ i. new (subst (λ (x : ℕ). Memᴰ x us) (i ∙ sym e) m))) in
        omega arith
    go below (no n) = let p = same u (Memᴰ.head refl) n in omega arith

-- the set as the code computes it when variable v is let go
abbrev pub without : ℕ → ℕ → ℕ
without kept v = bit_and kept (256 - 1 - 1 * 2 ^ v % 256)

has_without : (kept v u : ℕ) → v < 8 → u < 8 → has (without kept v) u ≡ has kept u && not (eqb u v)
has_without kept v u h l =
    let e = digit v (omega arith) in
    has_and kept (256 - 1 - 1 * 2 ^ v % 256) u
    ∙ ap (λ (b : Bool). has kept u && b) (ap (λ (x : ℕ). has (256 - 1 - x) u) e ∙ has_complement 8 (2 ^ v) u (omega arith) l ∙ ap not (has_digit v u))

element_small : (set : ℕ) {v : ℕ} → Memᴰ v (elements set) → (v < 8) × (has set v ≡ true)
unfolding elements
element_small set m = let (i, e) = keep_mem (has set) names m in (let h = names_mem i in omega arith, e)

elements_distinct : (set : ℕ) → Distinct (elements set)
unfolding elements
elements_distinct set = keep_distinct (has set) names_distinct

-- what a variable counts for, kept or not
abbrev counted : List ℕ → ℕ → List ℕ → Bool → ℕ → ℕ
counted terms most xs b v = elim b [ true ↦ size_at terms (get_or xs v 0) | false ↦ most ]

module _ (terms : List ℕ) (set most : ℕ) (xs : List ℕ) where
  -- all are kept
  pub all_kept : places_at_most terms set set most xs ≡ places_of terms set xs
  unfolding places_at_most places_of
  all_kept =
      agree (λ (v : ℕ). counted terms most xs (has set v) v) (λ (v : ℕ). size_at terms (get_or xs v 0)) (elements set)
      (λ v m. ap (λ (b : Bool). counted terms most xs b v) (element_small set m).1)
      ∙ sym (total_map (size_at terms) (λ (v : ℕ). get_or xs v 0) (elements set))

  -- one is let go, where what that costs is left
  pub one_less : (kept v size left : ℕ) → v < 8 → has kept v ≡ true → size ≡ min (size_at terms (get_or xs v 0)) 65 → size ≤ most → most - size ≤ left
      → places_at_most terms set kept most xs + left ≤ 64 → places_at_most terms set (without kept v) most xs + (left - (most - size)) ≤ 64
  unfolding places_at_most
  one_less kept v size left h e is bound enough few =
      let f : ℕ → ℕ = λ u. counted terms most xs (has kept u) u in
      let g : ℕ → ℕ = λ u. counted terms most xs (has (without kept v) u) u in
      let old : f v ≡ size_at terms (get_or xs v 0) = ap (λ (b : Bool). counted terms most xs b v) e in
      let new : g v ≡ most =
      ap (λ (b : Bool). counted terms most xs b v) (has_without kept v v h h ∙ ap (λ (b : Bool). has kept v && not b) (eq-eqb v v refl) ∙ ap (λ (b : Bool). b && false) e) in
      let q = but_one f g v (elements_distinct set)
      (λ u m n.
      ap (λ (b : Bool). counted terms most xs b u)
      (sym (has_without kept v u h (element_small set m).0 ∙ ap (λ (b : Bool). has kept u && not b) (ne_eqb u v n) ∙ and_true (has kept u)))) (omega arith) (omega arith) in
      omega arith
    where
      and_true : (b : Bool) → b && true ≡ b
      and_true true = refl
      and_true false = refl

  -- what agrees with the trigger at the variables that are kept is not large
  pub kept_small : (kept : ℕ) {n : ℕ} → Bounding terms n most → places_at_most terms set kept most xs ≤ 64 → (zs : List ℕ) → ((v : ℕ) → v < 8 → get_or zs v 0 < n)
      → ((v : ℕ) → v < 8 → has kept v ≡ true → get_or zs v 0 ≡ get_or xs v 0) → large terms set zs ≡ false
  unfolding places_at_most places_of large
  kept_small kept bounding few zs within same =
      let e = total_map (size_at terms) (λ (v : ℕ). get_or zs v 0) (elements set) in
      let q = total_bounded (λ (v : ℕ). size_at terms (get_or zs v 0)) (λ (v : ℕ). counted terms most xs (has kept v) v) (elements set) (λ v m. at v (element_small set m).0 (case (has kept v))) in
      le-ltb 64 (places_of terms set zs) (omega arith)
    where
      at : (v : ℕ) → v < 8 → (has kept v ≡ true) ⊎ (has kept v ≡ false) → min (size_at terms (get_or zs v 0)) 65 ≤ counted terms most xs (has kept v) v
      at v h (inl e) =
          let p = ap (size_at terms) (same v h e) in
          let q : counted terms most xs (has kept v) v ≡ size_at terms (get_or xs v 0) = ap (λ (b : Bool). counted terms most xs b v) e in
          omega arith
      at v h (inr e) =
          let p = bounding.1 (get_or zs v 0) (within v h) in
          let q : counted terms most xs (has kept v) v ≡ most = ap (λ (b : Bool). counted terms most xs b v) e in
          omega arith

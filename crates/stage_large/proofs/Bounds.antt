-- Bounds of the sizes of terms, and rules that have too few variables for a large trigger. Assumes nothing.
use mathlib.Core.Path.{◌≡◌, refl, sym, ap, ◌∙◌, subst}
use mathlib.Core.Bool.{true, false}
use mathlib.Core.Logic.{◌⊎◌, inl, inr}
use mathlib.Core.List.{List, [], ◌∷◌, Memᴰ}
use Prim.Native.Nat.{ℕ, zero, suc, min, max, ◌+◌, ◌*◌, ◌≤◌, ◌<◌}
use native.Mathlib.Nat.{mul-suc}
use native.Mathlib.Numerals.{add-one}
use native.Mathlib.Decide.{ℕ_discrete}
use native.Mathlib.Omega.{arith}
use lib.Dec.{ltb}
use lib.ListN.{length, get_or, set, drop}
use lib.Seq.{get_or-set_same, get_or-set_other}
use borrow.Author.Tests.{le-ltb, ltb-false}
use Rattle.model.specs.Rules.{Rule, universal}
use Rattle.laws.proofs.Bools.{case}
use Rattle.laws.proofs.Lists.{false_any}
use Rattle.rows.specs.Triggers.{triggers_at}
use Rattle.tables.specs.Rows.{rows}
use Rattle.tables.specs.Terms.{Ordered, arity_of, argument_of, arguments_of, total, size_at}
use Rattle.tables.proofs.Tables.{rows_length}
use Rattle.tables.proofs.Terms.{arguments_of_more, arguments_of_end, arguments_of_before, size_at_is}
use Rattle.form_variables.specs.Sets.{set_of, elements}
use Rattle.form_variables.proofs.Elements.{universal_elements}
use Rattle.rows.specs.Judging.{total as total_in, size_in}
use Rattle.stage_large.specs.Large.{greatest_size, most_size, Bounding}
use Rattle.stage_large.specs.Stage.{Tabled, tables}
use Rattle.stage_output.proofs.Flat.{total_agree, size_in_is}
use Rattle.rows.proofs.Triggers.{trigger_below}
use Rattle.stage_large.proofs.Triggers.{trigger_length}
use Rattle.stage_large.proofs.Sizes.{large_over, large_rule, no_large}

-- the bounds of the arguments from the j-th on

pub bounds_more : (f : ℕ → ℕ) (t : List ℕ) (i j : ℕ) → j < arity_of t i
    → total f (drop j (arguments_of t i)) ≡ f (argument_of t i j) + total f (drop (j + 1) (arguments_of t i))
unfolding total
bounds_more f t i j h = ap (total f) (arguments_of_more t i j h)

pub bounds_end : (f : ℕ → ℕ) (t : List ℕ) (i j : ℕ) → arity_of t i ≤ j → total f (drop j (arguments_of t i)) ≡ 0
unfolding total
bounds_end f t i j h = ap (total f) (arguments_of_end t i j h)

-- sums of what is bounded one by one
pub total_bounded : (f g : ℕ → ℕ) (xs : List ℕ) → ((x : ℕ) → Memᴰ x xs → min (f x) 65 ≤ g x) → min (total f xs) 65 ≤ total g xs
unfolding total
total_bounded f g [] h = omega arith
total_bounded f g (x ∷ xs) h =
    let p = h x (Memᴰ.head refl) in
    let q = total_bounded f g xs (λ y m. h y (Memᴰ.tail m)) in
    omega arith

-- sums of what is counted one by one
total_counted : (f g : ℕ → ℕ) (xs : List ℕ) → ((x : ℕ) → Memᴰ x xs → g x ≡ min (f x) 65) → min (total g xs) 65 ≡ min (total f xs) 65
unfolding total
total_counted f g [] h = refl
total_counted f g (x ∷ xs) h =
    let p = h x (Memᴰ.head refl) in
    let q = total_counted f g xs (λ y m. h y (Memᴰ.tail m)) in
    omega arith

total_times : (f : ℕ → ℕ) (k : ℕ) (xs : List ℕ) → ((x : ℕ) → Memᴰ x xs → min (f x) 65 ≤ k) → k * length xs ≤ 64 → total f xs ≤ k * length xs
unfolding total
total_times f k [] h l = omega arith
total_times f k (x ∷ xs) h l =
    let e = mul-suc k (length xs) in
    let p = h x (Memᴰ.head refl) in
    let q = total_times f k xs (λ y m. h y (Memᴰ.tail m)) (omega arith) in
    omega arith

-- the sizes of the first i terms, and the greatest of them
abbrev pub Bounds : List ℕ → List ℕ → ℕ → ℕ → Type 0
Bounds t bounds i most = ((k : ℕ) → k < i → get_or bounds k 0 ≡ min (size_at t k) 65) × (most ≡ greatest_size t i)

-- with the size of term i
pub bounds_with : {n : ℕ} {t : List ℕ} → Ordered n t → (bounds : List ℕ) (i most more bound : ℕ) → i < n → i < length bounds
    → bound ≡ min (suc (total (λ (x : ℕ). get_or bounds x 0) (arguments_of t i))) 65 → more ≡ max most bound → Bounds t bounds i most
    → Bounds t (set bounds i bound) (i + 1) more
unfolding greatest_size
bounds_with {n} {t} o bounds i most more bound h l e a (before, greatest) = (
  (λ k below. go k below (ℕ_discrete k i)),
  rw add-one (let q = own in omega arith),
)
  where
    own : bound ≡ min (size_at t i) 65
    own =
        let s = size_at_is o i h in
        let q = total_counted (size_at t) (λ (x : ℕ). get_or bounds x 0) (arguments_of t i) (λ x m. before x (arguments_of_before o i x h m)) in
        omega arith

    go : (k : ℕ) → k < i + 1 → Dec (k ≡ i) → get_or (set bounds i bound) k 0 ≡ min (size_at t k) 65
    go k below (yes p) = subst (λ (x : ℕ). get_or (set bounds i bound) x 0 ≡ min (size_at t x) 65) (sym p) (get_or-set_same bounds i bound 0 l ∙ own)
    go k below (no p) = get_or-set_other bounds i k bound 0 p ∙ before k (omega arith)

-- no size is above the greatest
greatest_bounding : (t : List ℕ) (n : ℕ) → Bounding t n (greatest_size t n)
unfolding greatest_size
greatest_bounding t zero = (omega arith, λ i h. absurd (omega arith))
greatest_bounding t (suc n) =
    let (most, below) = greatest_bounding t n in
    (omega arith, λ i h. go i h (ℕ_discrete i n) (λ l. below i l))
  where
    go : (i : ℕ) → i < suc n → Dec (i ≡ n) → (i < n → min (size_at t i) 65 ≤ greatest_size t n) → min (size_at t i) 65 ≤ max (greatest_size t n) (min (size_at t n) 65)
    go i h (yes p) below = let q : size_at t i ≡ size_at t n = ap (size_at t) p in omega arith
    go i h (no p) below = let q = below (omega arith) in omega arith

pub most_bounding : (t : List ℕ) (n : ℕ) {most : ℕ} → most ≡ most_size t n → Bounding t n most
unfolding most_size
most_bounding t n e = subst (Bounding t n) (sym e) (go (case (ltb 512 n)))
  where
    go : (ltb 512 n ≡ true) ⊎ (ltb 512 n ≡ false) → Bounding t n (most_size t n)
    go (inl f) = rw (f, most_size) (omega arith, λ i h. omega arith)
    go (inr f) = rw (f, most_size) (greatest_bounding t n)

module _ (form terms : List ℕ) (n : ℕ) (facts : List ℕ) (m : ℕ) (h : Tabled form terms n facts m) (most : ℕ) (bounding : Bounding terms n most) (r : Rule) where
  -- a trigger's places, by the number of its variables
  pub trigger_places : most * length (universal r) ≤ 64 → (ms : List ℕ) → Memᴰ ms (triggers_at r (length (tables terms n facts m).terms) (tables terms n facts m).facts)
      → total_in (size_in (length (tables terms n facts m).terms) (tables terms n facts m).terms) ms ≤ most * length (universal r)
  unfolding tables
  trigger_places few ms k =
      let c = rows_length 10 n terms in
      let below = trigger_below r (length (rows 10 n terms)) (rows 5 m facts) k in
      let e = total_agree (size_in (length (rows 10 n terms)) (rows 10 n terms)) (size_at terms) ms
      (λ x i. let l = below x i in size_in_is h.ordered (length (rows 10 n terms)) x (omega arith) (omega arith)) in
      let q : length ms ≡ length (universal r) = trigger_length r (length (rows 10 n terms)) (rows 5 m facts) k in
      let b = total_times (size_at terms) most ms (λ x i. bounding.1 x (let l = below x i in omega arith)) (rw q few) in
      let z : most * length ms ≡ most * length (universal r) = ap (λ (z : ℕ). most * z) q in
      omega arith

  -- a rule with too few variables has no large trigger
  pub bounded_not_large : ltb 64 (most * length (elements (set_of (universal r)))) ≡ false → large_rule (tables terms n facts m) r ≡ false
  unfolding large_over
  bounded_not_large under =
      let few : most * length (universal r) ≤ 64 = rw universal_elements at (ltb-false 64 (most * length (elements (set_of (universal r)))) under) in
      no_large (tables terms n facts m) r
      (false_any (large_over (tables terms n facts m)) (triggers_at r (length (tables terms n facts m).terms) (tables terms n facts m).facts)
      (λ ms k. let p = trigger_places few ms k in le-ltb 64 (total_in (size_in (length (tables terms n facts m).terms) (tables terms n facts m).terms) ms) (omega arith)))

-- How long a collected list is by the lengths of its parts. Assumes nothing.
use mathlib.Core.Path.{◌≡◌, refl, sym}
use mathlib.Core.List.{List, [], ◌∷◌, Memᴰ}
use Prim.Native.Nat.{ℕ, ◌*◌, ◌≤◌}
use native.Mathlib.Omega.{arith}
use native.Mathlib.Nat.{zero-mul, suc-mul}
use lib.ListN.{length, length-append}
use Rattle.model.specs.Lists.{collect}

module _ {A : Type 0} (f : A → List ℕ) (k : ℕ) where
  pub length_collect_le : (xs : List A) → ((x : A) → Memᴰ x xs → length (f x) ≤ k) → length (collect f xs) ≤ length xs * k
  unfolding collect
  length_collect_le [] h = omega arith
  length_collect_le (x ∷ xs) h =
      let l = h x (Memᴰ.head refl) in
      let m = length_collect_le xs (λ y i. h y (Memᴰ.tail i)) in
      omega (arith, length-append (f x) (collect f xs), suc-mul (length xs) k)

  pub length_collect : (xs : List A) → ((x : A) → Memᴰ x xs → length (f x) ≡ k) → length (collect f xs) ≡ length xs * k
  unfolding collect
  length_collect [] h = sym (zero-mul k)
  length_collect (x ∷ xs) h =
      let l = h x (Memᴰ.head refl) in
      let m = length_collect xs (λ y i. h y (Memᴰ.tail i)) in
      omega (arith, length-append (f x) (collect f xs), suc-mul (length xs) k)

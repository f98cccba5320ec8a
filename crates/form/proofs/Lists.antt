-- Laws of lists that are read row by row, and of rows that are filled from the front. Assumes nothing.
use mathlib.Core.Path.{◌≡◌, refl, sym, ap, ◌∙◌}
use mathlib.Core.List.{List, [], ◌∷◌, ◌++◌, append_assoc}
use mathlib.Core.Bool.{Bool, true, false, ◌||◌}
use Prim.Native.Nat.{ℕ, zero, suc, ◌+◌, ◌-◌, ◌*◌, ◌≤◌, ◌<◌}
use native.Mathlib.Omega.{arith}
use native.Mathlib.Nat.{zero-mul, suc-mul}
use native.Mathlib.Numerals.{add-one}
use lib.ListN.{length, get_or, set, drop, replicate, length-append, drop_of_length-le}
use lib.Seq.{set_at, drop-cons}
use Rattle.model.specs.Lists.{any, padded}
use Rattle.model.specs.Form.{spaced}
use Rattle.laws.proofs.Bools.{or_left}
pub use Rattle.laws.proofs.Lists.{get_or_mem}
pub use Rattle.laws.proofs.Places.{length_numbers_from, get_or_numbers_from}
use Rattle.form.specs.Places.{filled}

module _ {A : Type 0} where
  module _ (f : ℕ → A) (width : ℕ) where
    pub get_or_spaced : (n at i : ℕ) (d : A) → i < n → get_or (spaced f width n at) i d ≡ f (at + i * width)
    unfolding spaced
    get_or_spaced zero at i d h = absurd (omega arith)
    get_or_spaced (suc n) at zero d h = let e : at ≡ at + 0 * width = omega (arith, zero-mul width) in ap f e
    get_or_spaced (suc n) at (suc i) d h =
        let e : at + width + i * width ≡ at + suc i * width = omega (arith, suc-mul i width) in
        get_or_spaced n (at + width) i d (omega arith) ∙ ap f e

    -- one row more
    pub spaced_more : (n at : ℕ) → spaced f width (suc n) at ≡ spaced f width n at ++ (f (at + n * width) ∷ [])
    unfolding spaced
    spaced_more zero at = let e : at ≡ at + 0 * width = omega (arith, zero-mul width) in ap (λ (p : ℕ). f p ∷ []) e
    spaced_more (suc n) at =
        let e : at + width + n * width ≡ at + suc n * width = omega (arith, suc-mul n width) in
        ap (λ (ys : List A). f at ∷ ys) (spaced_more n (at + width) ∙ ap (λ (p : ℕ). spaced f width n (at + width) ++ (f p ∷ [])) e)

  -- one place more is filled
  pub filled_more : (n : ℕ) (z : A) (xs : List A) (k : ℕ) (x : A) → length xs ≡ k → k < n → set (filled n z xs) k x ≡ filled n z (xs ++ (x ∷ []))
  unfolding filled
  filled_more n z xs k x e h =
      let m : n - length xs ≡ suc (n - suc k) = omega arith in
      let l : n - length (xs ++ (x ∷ [])) ≡ n - suc k = omega (arith, length-append xs (x ∷ [])) in
      ap (λ (j : ℕ). set (xs ++ replicate j z) k x) m
      ∙ set_at xs z (replicate (n - suc k) z) x k e
      ∙ sym (append_assoc xs (x ∷ []) (replicate (n - suc k) z))
      ∙ ap (λ (j : ℕ). (xs ++ (x ∷ [])) ++ replicate j z) (sym l)

  -- a search through a list, element by element

  pub any_found : (p : A → Bool) (xs : List A) (i : ℕ) (d : A) → i < length xs → p (get_or xs i d) ≡ true → any p (drop i xs) ≡ true
  unfolding any
  any_found p xs i d h e = ap (any p) (drop-cons xs i d h) ∙ or_left (p (get_or xs i d)) (any p (drop (suc i) xs)) e

  pub any_passed : (p : A → Bool) (xs : List A) (i : ℕ) (d : A) → i < length xs → p (get_or xs i d) ≡ false → any p (drop i xs) ≡ any p (drop (i + 1) xs)
  unfolding any
  any_passed p xs i d h e =
      ap (any p) (drop-cons xs i d h) ∙ ap (λ (b : Bool). b || any p (drop (suc i) xs)) e ∙ ap (λ (j : ℕ). any p (drop j xs)) (sym (add-one i))

  pub any_end : (p : A → Bool) (xs : List A) (i : ℕ) → length xs ≤ i → any p (drop i xs) ≡ false
  unfolding any
  any_end p xs i h = ap (any p) (drop_of_length-le xs h)

pub padded_filled : (n : ℕ) (xs : List ℕ) → padded n xs ≡ filled n 0 xs
unfolding padded filled
padded_filled n xs = refl

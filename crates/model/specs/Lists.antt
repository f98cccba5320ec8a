-- Short functions on lists that the definitions share. Assumes nothing.
use Rattle.std.specs.Prelude.{List, [], ◌∷◌, ◌++◌, Bool, true, false, ◌&&◌, ◌||◌, ℕ, zero, suc, ◌+◌, ◌-◌, ◌*◌, eqb, length, get_or, take, drop, replicate}

module _ {ℓ} {A : Type ℓ} where
  unfoldable pub all : (A → Bool) → List A → Bool
  all p [] = true
  all p (x ∷ xs) = p x && all p xs

  unfoldable pub any : (A → Bool) → List A → Bool
  any p [] = false
  any p (x ∷ xs) = p x || any p xs

  unfoldable pub keep : (A → Bool) → List A → List A
  keep p [] = []
  keep p (x ∷ xs) = elim (p x) [ true ↦ x ∷ keep p xs | false ↦ keep p xs ]

  -- xs, and then each of ys that is not there yet, in order
  unfoldable pub extend : (A → A → Bool) → List A → List A → List A
  extend eq xs [] = xs
  extend eq xs (y ∷ ys) = elim (any (eq y) xs) [ true ↦ extend eq xs ys | false ↦ extend eq (xs ++ (y ∷ [])) ys ]

  -- the index of the first x, or the length
  unfoldable pub index : (A → A → Bool) → A → List A → ℕ
  index eq x [] = 0
  index eq x (y ∷ ys) = elim (eq x y) [ true ↦ 0 | false ↦ suc (index eq x ys) ]

module _ {ℓ ℓ'} {A : Type ℓ} {B : Type ℓ'} where
  unfoldable pub collect : (A → List B) → List A → List B
  collect f [] = []
  collect f (x ∷ xs) = f x ++ collect f xs

unfoldable pub member : ℕ → List ℕ → Bool
member x xs = any (eqb x) xs

-- xs, and zeros up to n numbers
unfoldable pub padded : ℕ → List ℕ → List ℕ
padded n xs = xs ++ replicate (n - length xs) 0

-- n numbers from a place on; places that the list lacks read as 0
unfoldable pub numbers_from : List ℕ → ℕ → ℕ → List ℕ
numbers_from xs at zero = []
numbers_from xs at (suc n) = get_or xs at 0 ∷ numbers_from xs (suc at) n

-- row i of a table of rows of w numbers
unfoldable pub row : ℕ → ℕ → List ℕ → List ℕ
row w i xs = take w (drop (i * w) xs)

-- Numbers by their places: in padded lists, in what is read from a place on, and in rows of one width. Assumes nothing.
use mathlib.Core.Path.{◌≡◌, refl, sym, ap, ◌∙◌}
use mathlib.Core.Logic.{◌⊎◌, inl, inr}
use mathlib.Core.List.Memᴰ
use mathlib.Core.List.{List, [], ◌∷◌, ◌++◌, Memᴰ}
use Prim.Native.Nat.{ℕ, zero, suc, ◌+◌, ◌-◌, ◌≤◌, ◌<◌}
use native.Mathlib.Nat.{add-zero, suc-add, add-suc}
use native.Mathlib.Omega.{arith}
use lib.ListN.{length, get_or, replicate, length-append, length-replicate}
use Rattle.model.specs.Lists.{padded, numbers_from}
use Rattle.model.specs.Form.{spaced}

pub zeros_at : (n p : ℕ) → ◌≡◌ {A = ℕ} (get_or (replicate n 0) p 0) 0
zeros_at zero p = refl
zeros_at (suc n) zero = refl
zeros_at (suc n) (suc p) = zeros_at n p

-- `padded`; a place that a list lacks reads as 0

pub length_padded : (n : ℕ) (xs : List ℕ) → length xs ≤ n → length (padded n xs) ≡ n
unfolding padded
length_padded n xs h = omega (arith, length-append xs (replicate (n - length xs) 0), length-replicate {A = ℕ} (n - length xs) 0)

pub get_or_padded : (n : ℕ) (xs : List ℕ) (p : ℕ) → get_or (padded n xs) p 0 ≡ get_or xs p 0
unfolding padded
get_or_padded n xs p = go xs p (n - length xs)
  where
    go : (xs : List ℕ) (p k : ℕ) → get_or (xs ++ replicate k 0) p 0 ≡ get_or xs p 0
    go [] p k = zeros_at k p
    go (x ∷ xs) zero k = refl
    go (x ∷ xs) (suc p) k = go xs p k

-- `numbers_from`

pub length_numbers_from : (xs : List ℕ) (at n : ℕ) → length (numbers_from xs at n) ≡ n
unfolding numbers_from
length_numbers_from xs at zero = refl
length_numbers_from xs at (suc n) = ap suc (length_numbers_from xs (suc at) n)

pub get_or_numbers_from : (xs : List ℕ) (at n i : ℕ) → i < n → get_or (numbers_from xs at n) i 0 ≡ get_or xs (at + i) 0
unfolding numbers_from
get_or_numbers_from xs at zero i h = absurd (omega arith)
get_or_numbers_from xs at (suc n) zero h = let e : at ≡ at + 0 = omega arith in ap (λ (p : ℕ). get_or xs p 0) e
get_or_numbers_from xs at (suc n) (suc i) h =
    let e : suc at + i ≡ at + suc i = omega arith in
    get_or_numbers_from xs (suc at) n i (omega arith) ∙ ap (λ (p : ℕ). get_or xs p 0) e

-- one number more
pub numbers_from_more : (xs : List ℕ) (at n : ℕ) → numbers_from xs at (suc n) ≡ numbers_from xs at n ++ (get_or xs (at + n) 0 ∷ [])
unfolding numbers_from
numbers_from_more xs at zero = let e : at ≡ at + 0 = omega arith in ap (λ (p : ℕ). get_or xs p 0 ∷ []) e
numbers_from_more xs at (suc n) =
    let e : suc at + n ≡ at + suc n = omega arith in
    ap (λ (ys : List ℕ). get_or xs at 0 ∷ ys) (numbers_from_more xs (suc at) n ∙ ap (λ (p : ℕ). numbers_from xs (suc at) n ++ (get_or xs p 0 ∷ [])) e)

-- `spaced`

pub length_spaced : {A : Type 0} (f : ℕ → A) (width n at : ℕ) → length (spaced f width n at) ≡ n
unfolding spaced
length_spaced f width zero at = refl
length_spaced f width (suc n) at = ap suc (length_spaced f width n (at + width))

pub get_d_beyond : (xs : List ℕ) (i : ℕ) → length xs ≤ i → get_or xs i 0 ≡ 0
get_d_beyond [] i h = refl
get_d_beyond (x ∷ xs) zero h = absurd (omega arith)
get_d_beyond (x ∷ xs) (suc i) h = get_d_beyond xs i (omega arith)

pub padded_zeros : (n : ℕ) (xs : List ℕ) (i : ℕ) → length xs ≤ i → get_or (padded n xs) i 0 ≡ 0
padded_zeros n xs i h = get_or_padded n xs i ∙ get_d_beyond xs i h

pub numbers_from_mem : (xs : List ℕ) (at n : ℕ) {a : ℕ} → Memᴰ a (numbers_from xs at n) → (j : ℕ) × (j < n) × (a ≡ get_or xs (at + j) 0)
unfolding numbers_from
numbers_from_mem xs at zero m = absurd (Memᴰ.not-nil m)
numbers_from_mem xs at (suc n) {a} m = go (λ k. numbers_from_mem xs (suc at) n k) (Memᴰ.cases_cons m)
  where
    go : (Memᴰ a (numbers_from xs (suc at) n) → (j : ℕ) × (j < n) × (a ≡ get_or xs (suc at + j) 0)) → (a ≡ get_or xs at 0) ⊎ Memᴰ a (numbers_from xs (suc at) n)
        → (j : ℕ) × (j < suc n) × (a ≡ get_or xs (at + j) 0)
    go below (inl e) = (0, omega arith, e ∙ ap (λ (k : ℕ). get_or xs k 0) (sym (add-zero at)))
    go below (inr k) = let (j, h, e) = below k in (suc j, omega arith, e ∙ ap (λ (k : ℕ). get_or xs k 0) (suc-add at j ∙ sym (add-suc at j)))

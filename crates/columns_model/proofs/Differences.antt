-- Laws of differences and of two bytes: each gives back what the other made. Assumes nothing.
use mathlib.Core.Path.{◌≡◌, refl, sym, ap, ap₂, ◌∙◌}
use mathlib.Core.List.Memᴰ
use mathlib.Core.List.{List, [], ◌∷◌, ◌++◌, Memᴰ}
use mathlib.Core.Logic.{◌⊎◌, inl, inr}
use Prim.Native.Nat.{ℕ, zero, suc, ◌+◌, ◌*◌, ◌/◌, ◌%◌, ◌<◌}
use native.Mathlib.Omega.{arith}
use lib.ListN.{length, drop, drop_of_length-le}
use lib.Seq.{drop-nil}
use Rattle.model.specs.Lists.{collect}
use Rattle.columns_model.specs.Differences.{modulus, difference, sum, differences, sums, two_bytes, paired, numbers_of}

-- numbers below a bound
abbrev pub Below : ℕ → List ℕ → Type 0
Below b xs = (x : ℕ) → Memᴰ x xs → x < b

pub below_head : {b x : ℕ} {xs : List ℕ} → Below b (x ∷ xs) → x < b
below_head {x = x} h = h x (Memᴰ.head refl)

pub below_tail : {b x : ℕ} {xs : List ℕ} → Below b (x ∷ xs) → Below b xs
below_tail h y m = h y (Memᴰ.tail m)

-- one number

pub difference_below : (above x : ℕ) → difference above x < modulus
difference_below above x = omega arith

pub sum_below : (above d : ℕ) → sum above d < modulus
sum_below above d = omega arith

pub sum_difference : (above x : ℕ) → above < modulus → x < modulus → sum above (difference above x) ≡ x
sum_difference above x h k = omega arith

pub difference_sum : (above d : ℕ) → above < modulus → d < modulus → difference above (sum above d) ≡ d
difference_sum above d h k = omega arith

pub paired_bytes : (n : ℕ) → paired (n / 256) (n % 256) ≡ n
paired_bytes n = omega arith

pub paired_below : (a b : ℕ) → a < 256 → b < 256 → paired a b < modulus
paired_below a b h k = omega arith

pub bytes_paired : (a b : ℕ) → b < 256 → two_bytes (paired a b) ≡ a ∷ b ∷ []
unfolding two_bytes
bytes_paired a b k =
    let p : (a * 256 + b) / 256 ≡ a = omega arith in
    let q : (a * 256 + b) % 256 ≡ b = omega arith in
    λ t. p t ∷ q t ∷ []

-- a column

pub sums_differences : (above : ℕ) (xs : List ℕ) → above < modulus → Below modulus xs → sums above (differences above xs) ≡ xs
unfolding sums differences
sums_differences above [] h k = refl
sums_differences above (x ∷ xs) h k =
    let e = sum_difference above x h (below_head k) in
    ap₂ (λ (y : ℕ) (ys : List ℕ). y ∷ ys) e (ap (λ (a : ℕ). sums a (differences x xs)) e ∙ sums_differences x xs (below_head k) (below_tail k))

pub differences_sums : (above : ℕ) (ds : List ℕ) → above < modulus → Below modulus ds → differences above (sums above ds) ≡ ds
unfolding sums differences
differences_sums above [] h k = refl
differences_sums above (d ∷ ds) h k =
    ap₂ (λ (y : ℕ) (ys : List ℕ). y ∷ ys) (difference_sum above d h (below_head k)) (differences_sums (sum above d) ds (sum_below above d) (below_tail k))

pub length_differences : (above : ℕ) (xs : List ℕ) → length (differences above xs) ≡ length xs
unfolding differences
length_differences above [] = refl
length_differences above (x ∷ xs) = ap suc (length_differences x xs)

pub length_sums : (above : ℕ) (ds : List ℕ) → length (sums above ds) ≡ length ds
unfolding sums
length_sums above [] = refl
length_sums above (d ∷ ds) = ap suc (length_sums (sum above d) ds)

-- the bytes of numbers

pub length_bytes : (xs : List ℕ) → length (collect two_bytes xs) ≡ length xs + length xs
unfolding collect two_bytes
length_bytes [] = refl
length_bytes (x ∷ xs) = let e = length_bytes xs in omega arith

pub numbers_bytes : (xs bs : List ℕ) → numbers_of (collect two_bytes xs ++ bs) ≡ xs ++ numbers_of bs
unfolding collect two_bytes numbers_of
numbers_bytes [] bs = refl
numbers_bytes (x ∷ xs) bs = ap₂ (λ (y : ℕ) (ys : List ℕ). y ∷ ys) (paired_bytes x) (numbers_bytes xs bs)

pub bytes_numbers : (n : ℕ) (bs : List ℕ) → Below 256 bs → length bs ≡ n + n → collect two_bytes (numbers_of bs) ≡ bs
unfolding collect numbers_of
bytes_numbers n [] h e = refl
bytes_numbers n (a ∷ []) h e = absurd (omega arith)
bytes_numbers zero (a ∷ b ∷ bs) h e = absurd (omega arith)
bytes_numbers (suc n) (a ∷ b ∷ bs) h e =
    ap₂ (λ (xs ys : List ℕ). xs ++ ys) (bytes_paired a b (below_head (below_tail h))) (bytes_numbers n bs (below_tail (below_tail h)) (omega arith))

-- from the n-th number on
pub drop_numbers : (n : ℕ) (bs : List ℕ) → drop n (numbers_of bs) ≡ numbers_of (drop (n + n) bs)
unfolding numbers_of
drop_numbers zero bs = refl
drop_numbers (suc n) [] = ap numbers_of (sym (drop-nil (suc n + suc n)))
drop_numbers (suc n) (a ∷ []) = ap numbers_of (sym (drop_of_length-le (a ∷ []) {i = suc n + suc n} (omega arith)))
drop_numbers (suc n) (a ∷ b ∷ bs) =
    let e : suc n + suc n ≡ suc (suc (n + n)) = omega arith in
    drop_numbers n bs ∙ ap (λ (k : ℕ). numbers_of (drop k (a ∷ b ∷ bs))) (sym e)

pub length_numbers : (bs : List ℕ) → length (numbers_of bs) ≡ length bs / 2
unfolding numbers_of
length_numbers [] = omega arith
length_numbers (a ∷ []) = omega arith
length_numbers (a ∷ b ∷ bs) = let e = length_numbers bs in omega arith

pub numbers_below : (bs : List ℕ) → Below 256 bs → Below modulus (numbers_of bs)
unfolding numbers_of
numbers_below [] h x m = absurd (Memᴰ.not-nil m)
numbers_below (a ∷ []) h x m = absurd (Memᴰ.not-nil m)
numbers_below (a ∷ b ∷ bs) h x m = go (λ k. numbers_below bs (below_tail (below_tail h)) x k) (Memᴰ.cases_cons m)
  where
    go : (Memᴰ x (numbers_of bs) → x < modulus) → (x ≡ paired a b) ⊎ Memᴰ x (numbers_of bs) → x < modulus
    go below (inl e) = rw e (paired_below a b (below_head h) (below_head (below_tail h)))
    go below (inr k) = below k

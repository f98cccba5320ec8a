-- Numbers of a form: what they spell, from one place to the next, and bounds of all of them. Assumes nothing.
use mathlib.Core.Path.{◌≡◌, ap₂}
use mathlib.Core.List.{List, [], ◌∷◌, ◌++◌}
use Prim.Native.Nat.{ℕ, suc, ◌+◌, ◌-◌, ◌≤◌, ◌<◌}
use native.Mathlib.Decide.{dec_lt}
use native.Mathlib.Omega.{arith}
use lib.ListN.{get_or, get_or-eq_default}
use Rattle.model.specs.Lists.{numbers_from}
use Rattle.laws.proofs.Places.{get_or_numbers_from, length_numbers_from}

pub numbers_next : (xs : List ℕ) (at n k v : ℕ) → k < n → v ≡ get_or xs (at + k) 0 → numbers_from xs (at + k) (n - k) ≡ (v ∷ []) ++ numbers_from xs (at + (k + 1)) (n - (k + 1))
unfolding numbers_from
numbers_next xs at n k v h e =
    let m : n - k ≡ suc (n - (k + 1)) = omega arith in
    let o : at + (k + 1) ≡ suc (at + k) = omega arith in
    rw (m, o, e)

pub numbers_none : (xs : List ℕ) (at n k : ℕ) → n ≤ k → numbers_from xs (at + k) (n - k) ≡ []
unfolding numbers_from
numbers_none xs at n k h = let m : n - k ≡ 0 = omega arith in rw m

pub numbers_whole : (xs : List ℕ) (at n : ℕ) → numbers_from xs at n ≡ numbers_from xs (at + 0) (n - 0)
numbers_whole xs at n =
    let m : n ≡ n - 0 = omega arith in
    let o : at ≡ at + 0 = omega arith in
    ap₂ (λ (a k : ℕ). numbers_from xs a k) o m

pub numbers_small : (xs : List ℕ) (at n m : ℕ) → ((p : ℕ) → p < n → get_or xs (at + p) 0 ≤ m) → (p : ℕ) → get_or (numbers_from xs at n) p 0 ≤ m
numbers_small xs at n m f p = go (dec_lt p n)
  where
    go : Dec (p < n) → get_or (numbers_from xs at n) p 0 ≤ m
    go (yes h) = let e = get_or_numbers_from xs at n p h in let l = f p h in omega arith
    go (no h) =
        let l = length_numbers_from xs at n in
        let e : get_or (numbers_from xs at n) p 0 ≡ 0 = get_or-eq_default (numbers_from xs at n) 0 (omega arith) in
        omega arith

-- one more place is small
pub small_more : (xs : List ℕ) (at k m : ℕ) → ((p : ℕ) → p < k → get_or xs (at + p) 0 ≤ m) → get_or xs (at + k) 0 ≤ m → (p : ℕ) → p < k + 1 → get_or xs (at + p) 0 ≤ m
small_more xs at k m f h p l = go (dec_lt p k)
  where
    go : Dec (p < k) → get_or xs (at + p) 0 ≤ m
    go (yes i) = f p i
    go (no i) = let e : p ≡ k = omega arith in rw e h

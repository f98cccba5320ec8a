-- Lists of zeros, their parts, and rows put together. Assumes nothing.
use mathlib.Core.Path.{◌≡◌, refl, sym, ap, ◌∙◌}
use mathlib.Core.List.{List, [], ◌∷◌, ◌++◌, append-nil}
use Prim.Native.Nat.{ℕ, zero, suc, ◌+◌, ◌-◌, ◌≤◌, ◌<◌}
use native.Mathlib.Omega.{arith}
use lib.ListN.{length, take, drop, set, length-replicate}
use lib.Seq.{set_split, drop-drop}
use Rattle.model.specs.Lists.{collect, padded}
use Rattle.parsing.specs.Step.{zeros}

-- zeros

pub zeros_suc : (m : ℕ) → zeros (suc m) ≡ 0 ∷ zeros m
unfolding zeros
zeros_suc m = refl

pub length_zeros : (m : ℕ) → length (zeros m) ≡ m
unfolding zeros
length_zeros m = length-replicate m 0

pub drop_zeros : (o m : ℕ) → drop o (zeros m) ≡ zeros (m - o)
unfolding zeros
drop_zeros zero m = let e : m - 0 ≡ m = omega arith in rw e
drop_zeros (suc o) zero = let e : 0 - suc o ≡ 0 = omega arith in rw e
drop_zeros (suc o) (suc m) = let e : suc m - suc o ≡ m - o = omega arith in drop_zeros o m ∙ rw e

pub take_zeros : (w m : ℕ) → w ≤ m → take w (zeros m) ≡ zeros w
unfolding zeros
take_zeros zero m h = refl
take_zeros (suc w) zero h = absurd (omega arith)
take_zeros (suc w) (suc m) h = ap (λ (xs : List ℕ). 0 ∷ xs) (take_zeros w m (omega arith))

pub zeros_length : (m : ℕ) (xs : List ℕ) → xs ≡ zeros m → length xs ≡ m
zeros_length m xs e = ap length e ∙ length_zeros m

pub zeros_self : (m : ℕ) (xs : List ℕ) → xs ≡ zeros m → xs ≡ zeros (length xs)
zeros_self m xs e = e ∙ ap zeros (sym (zeros_length m xs e))

pub padded_zeros : (m : ℕ) (xs : List ℕ) → padded m xs ≡ xs ++ zeros (m - length xs)
unfolding padded zeros
padded_zeros m xs = refl

-- a store, as a part put back
pub set_part : (l : List ℕ) (i v : ℕ) → i < length l → set l i v ≡ take i l ++ ((v ∷ []) ++ drop 1 (drop i l))
set_part l i v h =
    let e : i + 1 ≡ suc i = omega arith in
    set_split l i v h ∙ ap (λ (xs : List ℕ). take i l ++ v ∷ xs) (ap (λ (n : ℕ). drop n l) (sym e) ∙ sym (drop-drop 1 i l))

abbrev pub single : ℕ → List ℕ
single v = v ∷ []

pub collect_single : (xs : List ℕ) → collect single xs ≡ xs
unfolding collect
collect_single [] = refl
collect_single (x ∷ xs) = ap (λ (ys : List ℕ). x ∷ ys) (collect_single xs)

-- a row of zeros with a number at its front: the places after it, and the row with those filled

module _ (m : ℕ) (row : List ℕ) (v : ℕ) (z : row ≡ zeros (suc m)) where
  abbrev headed : List ℕ
  headed = set row 0 v

  headed_is : headed ≡ v ∷ zeros m
  headed_is = rw (z, zeros_suc)

  headed_rest : length headed - 1 ≡ m
  headed_rest = let l : length headed ≡ suc m = ap length headed_is ∙ ap suc (length_zeros m) in omega arith

  pub tail_zeros : take (length headed - 1) (drop 1 headed) ≡ zeros m
  tail_zeros = let h : m ≤ m = omega arith in rw (headed_rest, headed_is, take_zeros m m)

  pub tail_length : length (take (length headed - 1) (drop 1 headed)) ≡ m
  tail_length = ap length tail_zeros ∙ length_zeros m

  pub headed_filled : (xs left : List ℕ) → left ≡ padded m xs → take 1 headed ++ (left ++ drop (length headed - 1) (drop 1 headed)) ≡ padded (suc m) (v ∷ xs)
  unfolding zeros
  headed_filled xs left e =
      let h : suc m - suc (length xs) ≡ m - length xs = omega arith in
      let n : m - m ≡ 0 = omega arith in
      rw (headed_rest, headed_is, drop_zeros m m, n, append-nil, e, padded_zeros, padded_zeros, h)

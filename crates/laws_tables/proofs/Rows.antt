-- Tables of rows of one width: where a row stands, how long a table is, and what padding and replacing the front leave. Assumes nothing.
use mathlib.Core.Path.{◌≡◌, refl, sym, ◌∙◌}
use mathlib.Core.Logic.{◌⊎◌, inl, inr, ⊎_elim}
use mathlib.Core.List.Memᴰ
use mathlib.Core.List.{List, [], ◌∷◌, ◌++◌, append_assoc, Memᴰ}
use Prim.Native.Nat.{ℕ, zero, suc, ◌-◌, ◌*◌, ◌≤◌, ◌<◌}
use native.Mathlib.Nat.{zero-mul, suc-mul, add_comm}
use native.Mathlib.Omega.{arith}
use lib.ListN.{length, get_or, take, drop, replicate, length-append, length-drop, length-replicate, take-append-drop}
use lib.Seq.{take_at, take-append-le, drop_at, drop-drop}
use Rattle.model.specs.Lists.{collect, padded, row}
use Rattle.model.specs.Tables.{fronted}
use Rattle.laws.proofs.Places.{length_padded}
use Rattle.laws.proofs.Lists.{mem_replicate}

-- the first row, and the rows after it

pub row_zero : (w : ℕ) (p q : List ℕ) → length p ≡ w → row w 0 (p ++ q) ≡ p
unfolding row
row_zero w p q e = rw zero-mul (take_at p q w e)

pub row_suc : (w i : ℕ) (p q : List ℕ) → length p ≡ w → row w (suc i) (p ++ q) ≡ row w i q
unfolding row
row_suc w i p q e = rw (suc-mul, add_comm (i * w) w, ← drop-drop (i * w) w (p ++ q), drop_at p q w e)

module _ {ℓ} {A : Type ℓ} (w : ℕ) (f : A → List ℕ) where
  -- row i of a table made from a list is that of its element i
  pub row_collect : (xs : List A) (rest : List ℕ) (d : A) → ((x : A) → Memᴰ x xs → length (f x) ≡ w) → (i : ℕ) → i < length xs
      → row w i (collect f xs ++ rest) ≡ f (get_or xs i d)
  unfolding collect
  row_collect [] rest d h i l = absurd (omega arith)
  row_collect (x ∷ xs) rest d h zero l = rw (append_assoc (f x) (collect f xs) rest) (row_zero w (f x) (collect f xs ++ rest) (h x (Memᴰ.head refl)))
  row_collect (x ∷ xs) rest d h (suc i) l =
      rw (append_assoc (f x) (collect f xs) rest)
      (row_suc w i (f x) (collect f xs ++ rest) (h x (Memᴰ.head refl)) ∙ row_collect xs rest d (λ y m. h y (Memᴰ.tail m)) i (omega arith))

-- the front of a table

pub fronted_append : (n : ℕ) (xs table : List ℕ) → (rest : List ℕ) × (fronted n xs table ≡ xs ++ rest)
unfolding fronted padded
fronted_append n xs table = (replicate (n - length xs) 0 ++ drop n table, append_assoc xs (replicate (n - length xs) 0) (drop n table))

pub length_fronted : (n : ℕ) (xs table : List ℕ) → length xs ≤ n → n ≤ length table → length (fronted n xs table) ≡ length table
unfolding fronted
length_fronted n xs table h k = rw (length-append, length_padded n xs h, length-drop) (omega arith)

pub take_fronted : (n : ℕ) (xs table : List ℕ) → length xs ≤ n → take n (fronted n xs table) ≡ padded n xs
unfolding fronted
take_fronted n xs table h = take_at (padded n xs) (drop n table) n (length_padded n xs h)

-- whatever the table was
pub fronts_same : (n : ℕ) (xs table other : List ℕ) → take n (fronted n xs table) ≡ take n (fronted n xs other)
unfolding fronted padded
fronts_same n xs table other =
    let e = length-append xs (replicate (n - length xs) 0) in
    let r = length-replicate {A = ℕ} (n - length xs) 0 in
    take-append-le n (padded n xs) (drop n table) (omega arith) ∙ sym (take-append-le n (padded n xs) (drop n other) (omega arith))

-- beyond its front the table is as it was
pub drop_fronted : (n : ℕ) (xs table : List ℕ) → length xs ≤ n → drop n (fronted n xs table) ≡ drop n table
unfolding fronted
drop_fronted n xs table h = drop_at (padded n xs) (drop n table) n (length_padded n xs h)

-- by their elements

pub padded_mem : (n : ℕ) (xs : List ℕ) {x : ℕ} → Memᴰ x (padded n xs) → Memᴰ x xs ⊎ (x ≡ 0)
unfolding padded
padded_mem n xs {x} m =
    ⊎_elim (λ (k : Memᴰ x xs). inl k) (λ (k : Memᴰ x (replicate (n - length xs) 0)). inr (mem_replicate (n - length xs) k)) (Memᴰ.append_cases xs m)

mem_drop : (n : ℕ) (xs : List ℕ) {x : ℕ} → Memᴰ x (drop n xs) → Memᴰ x xs
mem_drop n xs {x} m = rw (take-append-drop n xs) at (Memᴰ.append_right (take n xs) m)

-- numbers of a bound stay within it
pub fronted_within : (w n : ℕ) (xs table : List ℕ) → ((x : ℕ) → Memᴰ x xs → x ≤ w) → ((x : ℕ) → Memᴰ x table → x ≤ w) → (x : ℕ)
    → Memᴰ x (fronted n xs table) → x ≤ w
unfolding fronted
fronted_within w n xs table h k x m =
    ⊎_elim
    (λ (i : Memᴰ x (padded n xs)). ⊎_elim (λ (j : Memᴰ x xs). h x j) (λ (j : x ≡ 0). omega arith) (padded_mem n xs i))
    (λ (i : Memᴰ x (drop n table)). k x (mem_drop n table i)) (Memᴰ.append_cases (padded n xs) m)

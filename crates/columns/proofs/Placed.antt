-- A step of each loop that stores columns, and that columns stored one after the other are records. Assumes nothing.
use mathlib.Core.Path.{◌≡◌, refl, sym, ap, ap₂, ◌∙◌}
use mathlib.Core.List.Memᴰ
use mathlib.Core.List.{List, [], ◌∷◌, ◌++◌, map, append-nil, append_assoc}
use Prim.Native.Nat.{ℕ, zero, suc, ◌+◌, ◌-◌, ◌*◌, ◌≤◌}
use native.Mathlib.Nat.{zero-mul, suc-mul, add-zero, add-suc, add_comm}
use native.Mathlib.Numerals.{add-one}
use native.Mathlib.Omega.{arith}
use lib.ListN.{length, get_or, take, drop, set, replicate, length-drop, length-set, length-append, length-replicate, take-append-drop, drop_of_length-le}
use lib.Seq.{sets, sets-eq, set-append_left, drop-cons, drop-drop, take_at, length-take-le, drop-append-add}
use Rattle.model.specs.Lists.{padded}
use Rattle.model.specs.Tables.{fronted}
use Rattle.laws.proofs.Lists.{map_mem}
use Rattle.tables.specs.Rows.{rows}
use Rattle.tables.proofs.Tables.{rows_length}
use Rattle.columns_model.specs.Differences.{sum, sums, paired, numbers_of}
use Rattle.columns_model.specs.Columns.{joined, raised}
use Rattle.columns.specs.Placed.{placed, placed_all}
use Rattle.columns_model.proofs.Differences.{drop_numbers, length_sums}
use Rattle.columns_model.proofs.Columns.{Even, even_rest, even_tails, heads, length_map, rows_mem, length_raised}

-- the next number of some bytes
numbers_next : (bytes : List ℕ) (at : ℕ) → at + 2 ≤ length bytes
    → numbers_of (drop at bytes) ≡ paired (get_or bytes at 0) (get_or bytes (at + 1) 0) ∷ numbers_of (drop (at + 2) bytes)
unfolding numbers_of
numbers_next bytes at h =
    let e : suc (suc at) ≡ at + 2 = omega arith in
    ap numbers_of (drop-cons bytes at 0 (omega arith) ∙ ap (λ (l : List ℕ). get_or bytes at 0 ∷ l) (drop-cons bytes (suc at) 0 (omega arith)))
    ∙ ap₂ (λ (k n : ℕ). paired (get_or bytes at 0) (get_or bytes k 0) ∷ numbers_of (drop n bytes)) (sym (add-one at)) e

-- what is left of a column: n numbers
abbrev pub sums_left : List ℕ → ℕ → ℕ → ℕ → List ℕ
sums_left bytes above n at = sums above (take n (numbers_of (drop at bytes)))

pub placed_done : (w : ℕ) (bytes : List ℕ) (above n at place : ℕ) (table : List ℕ) → n ≡ 0 → placed w (sums_left bytes above n at) place table ≡ table
unfolding sums placed
placed_done w bytes above n at place table e = ap (λ (k : ℕ). placed w (sums_left bytes above k at) place table) e

pub placed_step : (w : ℕ) (bytes : List ℕ) (above x m n at place : ℕ) (table : List ℕ) → m ≡ suc n → at + 2 ≤ length bytes
    → x ≡ sum above (paired (get_or bytes at 0) (get_or bytes (at + 1) 0))
    → placed w (sums_left bytes x n (at + 2)) (place + w) (set table place x) ≡ placed w (sums_left bytes above m at) place table
unfolding sums placed
placed_step w bytes above x m n at place table e h f =
    ap (λ (y : ℕ). placed w (sums_left bytes y n (at + 2)) (place + w) (set table place y)) f
    ∙ ap (λ (ds : List ℕ). placed w (sums above (take (suc n) ds)) place table) (sym (numbers_next bytes at h))
    ∙ ap (λ (k : ℕ). placed w (sums_left bytes above k at) place table) (sym e)

-- the columns that are left, n of them
abbrev pub all_left : List ℕ → ℕ → ℕ → ℕ → List (List ℕ)
all_left bytes count n at = map (sums 0) (rows count n (numbers_of (drop at bytes)))

pub all_done : (w : ℕ) (bytes : List ℕ) (count n at j : ℕ) (table : List ℕ) → n ≡ 0 → placed_all w (all_left bytes count n at) j table ≡ table
unfolding rows placed_all
all_done w bytes count n at j table e = ap (λ (k : ℕ). placed_all w (all_left bytes count k at) j table) e

pub all_step : (w : ℕ) (bytes : List ℕ) (count m n at j : ℕ) (table : List ℕ) → m ≡ suc n
    → placed_all w (all_left bytes count n (at + 2 * count)) (j + 1) (placed w (sums_left bytes 0 count at) j table)
    ≡ placed_all w (all_left bytes count m at) j table
unfolding rows placed_all
all_step w bytes count m n at j table e =
    let s : j + 1 ≡ suc j = omega arith in
    let t : 2 * count ≡ count + count = omega arith in
    let p : numbers_of (drop (at + 2 * count) bytes) ≡ drop count (numbers_of (drop at bytes)) =
    ap numbers_of (sym (drop-drop (2 * count) at bytes) ∙ ap (λ (k : ℕ). drop k (drop at bytes)) t) ∙ sym (drop_numbers count (drop at bytes))
    in
    ap₂ (λ (ds : List ℕ) (k : ℕ). placed_all w (map (sums 0) (rows count n ds)) k (placed w (sums_left bytes 0 count at) j table)) p s
    ∙ ap (λ (k : ℕ). placed_all w (all_left bytes count k at) j table) (sym e)

-- behind a first part

set_beyond : (r t : List ℕ) (at x : ℕ) → set (r ++ t) (at + length r) x ≡ r ++ set t at x
set_beyond [] t at x = ap (λ (k : ℕ). set t k x) (add-zero at)
set_beyond (y ∷ r) t at x =
    ap (λ (k : ℕ). set (y ∷ (r ++ t)) k x) (add-suc at (length r)) ∙ ap (λ (l : List ℕ). y ∷ l) (set_beyond r t at x)

module _ (w : ℕ) where
  placed_beyond : (xs : List ℕ) (at : ℕ) (r t : List ℕ) → length r ≡ w → placed w xs (at + w) (r ++ t) ≡ r ++ placed w xs at t
  unfolding placed
  placed_beyond [] at r t l = refl
  placed_beyond (x ∷ xs) at r t l =
      ap (placed w xs (at + w + w)) (ap (λ (k : ℕ). set (r ++ t) (at + k) x) (sym l) ∙ set_beyond r t at x) ∙ placed_beyond xs (at + w) r (set t at x) l

  -- the first record of a table, and those below it
  all_first : (n : ℕ) (cs : List (List ℕ)) (j : ℕ) (r t : List ℕ) → length r ≡ w → j + length cs ≤ w → Even (suc n) cs
      → placed_all w cs j (r ++ t) ≡ sets r j (heads cs) ++ placed_all w (map (drop 1) cs) j t
  unfolding placed_all placed
  all_first n [] j r t l h v = refl
  all_first n ([] ∷ cs) j r t l h v = absurd (let e = v [] (Memᴰ.head refl) in omega arith)
  all_first n ((y ∷ ys) ∷ cs) j r t l h v =
      ap (placed_all w cs (suc j))
      (ap (placed w ys (j + w)) (set-append_left r t j y (omega arith)) ∙ placed_beyond ys j (set r j y) t (length-set r j y ∙ l))
      ∙ all_first n cs (suc j) (set r j y) (placed w ys j t) (length-set r j y ∙ l) (omega arith) (even_rest v)

  all_empty : (cs : List (List ℕ)) (j : ℕ) (table : List ℕ) → Even 0 cs → placed_all w cs j table ≡ table
  unfolding placed_all placed
  all_empty [] j table v = refl
  all_empty ([] ∷ cs) j table v = all_empty cs (suc j) table (even_rest v)
  all_empty ((y ∷ ys) ∷ cs) j table v = absurd (let e = v (y ∷ ys) (Memᴰ.head refl) in omega arith)

  heads_whole : (cs : List (List ℕ)) (r : List ℕ) → length cs ≡ w → length r ≡ w → sets r 0 (heads cs) ≡ heads cs
  heads_whole cs r l k =
      let e : length (heads cs) ≡ length r = length_map (λ (c : List ℕ). get_or c 0 0) cs ∙ l ∙ sym k in
      sets-eq (heads cs) r 0 (omega arith)
      ∙ ap (λ (l : List ℕ). heads cs ++ l) (drop_of_length-le r {i = 0 + length (heads cs)} (omega arith))
      ∙ append-nil (heads cs)

  -- columns stored one after the other are their records, and nothing changes behind these
  pub all_joined : (n : ℕ) (cs : List (List ℕ)) (table : List ℕ) → length cs ≡ w → Even n cs → n * w ≤ length table
      → placed_all w cs 0 table ≡ joined n cs ++ drop (n * w) table
  unfolding joined
  all_joined zero cs table l v h = all_empty cs 0 table v ∙ ap (λ (k : ℕ). drop k table) (sym (zero-mul w))
  all_joined (suc n) cs table l v h =
      let e : suc n * w ≡ w + n * w = suc-mul n w ∙ add_comm (n * w) w in
      let k : length (take w table) ≡ w = length-take-le w table (omega arith) in
      ap (placed_all w cs 0) (sym (take-append-drop w table))
      ∙ all_first n cs 0 (take w table) (drop w table) k (omega arith) v
      ∙ ap₂ (λ (xs ys : List ℕ). xs ++ ys) (heads_whole cs (take w table) l k)
      (all_joined n (map (drop 1) cs) (drop w table) (length_map (drop 1) cs ∙ l) (even_tails n cs v) (rw length-drop (omega arith)))
      ∙ sym (append_assoc (heads cs) (joined n (map (drop 1) cs)) (drop (n * w) (drop w table)))
      ∙ ap (λ (xs : List ℕ). (heads cs ++ joined n (map (drop 1) cs)) ++ xs) (drop-drop (n * w) w table ∙ ap (λ (k : ℕ). drop k table) (sym e))

  -- and with zeros up to the front's end, the table has them in front
  pub front_filled : (n front : ℕ) (ds table left : List ℕ) → w * n ≤ length ds → n * w ≤ front → front ≤ length table
      → left ≡ placed_all w (map (sums 0) (rows n w ds)) 0 table
      → sets left (n * w) (replicate (front - n * w) 0) ≡ fronted front (raised w n ds) table
  unfolding raised fronted padded
  front_filled n front ds table left l h k e =
      let cs : List (List ℕ) = map (sums 0) (rows n w ds) in
      let j : List ℕ = joined n cs in
      let z : List ℕ = replicate (front - n * w) 0 in
      let even : Even n cs = λ c m. let (d, i, f) = map_mem (sums 0) (rows n w ds) m in ap length f ∙ length_sums 0 d ∙ (rows_mem n w ds l i).0 in
      let q : left ≡ j ++ drop (n * w) table = e ∙ all_joined n cs table (length_map (sums 0) (rows n w ds) ∙ rows_length n w ds) even (omega arith) in
      let long : length j ≡ n * w = length_raised w n ds in
      let zeros : length z ≡ front - n * w = length-replicate {A = ℕ} (front - n * w) 0 in
      let whole : length left ≡ length table = ap length q ∙ length-append j (drop (n * w) table) ∙ (let i = length-drop (n * w) table in omega arith) in
      let end : n * w + length z ≡ length j + (front - n * w) = omega arith in
      let last : n * w + (front - n * w) ≡ front = omega arith in
      sets-eq z left (n * w) (omega arith)
      ∙ ap₂ (λ (xs ys : List ℕ). xs ++ z ++ ys)
      (ap (take (n * w)) q ∙ take_at j (drop (n * w) table) (n * w) long)
      (ap₂ drop end q ∙ drop-append-add j (drop (n * w) table) (front - n * w) ∙ drop-drop (front - n * w) (n * w) table ∙ ap (λ (i : ℕ). drop i table) last)
      ∙ ap (λ (i : ℕ). j ++ replicate (front - i) 0 ++ drop front table) (sym long)

-- The law of columns, over the width of a record: records are their columns joined, and columns are those of the records that they join to.
-- Assumes nothing.
use mathlib.Core.Path.{◌≡◌, refl, sym, ap, ap₂, ◌∙◌, subst}
use mathlib.Core.Logic.{◌⊎◌, inl, inr}
use mathlib.Core.List.Memᴰ
use mathlib.Core.List.{List, [], ◌∷◌, ◌++◌, map, map-map, map-id, append_assoc, Memᴰ}
use Prim.Native.Nat.{ℕ, zero, suc, ◌+◌, ◌*◌, ◌≤◌, ◌<◌}
use native.Mathlib.Nat.{zero-mul, suc-mul, add_comm, add_assoc}
use native.Mathlib.Omega.{arith}
use lib.ListN.{length, get_or, take, drop, length-append, length-drop, take-append-drop}
use Rattle.laws.proofs.Lists.{map_mem, take_mem, collect_map, collect_agree}
use lib.Seq.{take_at, drop_at, get_or-drop, take-add, length-take-le, drop-cons}
use Rattle.model.specs.Lists.{collect}
use Rattle.model.specs.Form.{spaced}
use Rattle.laws.specs.Lists.{rising}
use Rattle.laws.proofs.Rising.{rising_length}
use Rattle.laws.proofs.Places.{length_spaced}
use Rattle.tables.specs.Rows.{rows}
use Rattle.tables.proofs.Tables.{rows_length}
use Rattle.columns_model.specs.Differences.{modulus, differences, sums}
use Rattle.columns_model.specs.Columns.{column, columns, laid, joined, raised}
use Rattle.columns_model.proofs.Differences.{Below, below_head, below_tail, sums_differences, differences_sums, length_differences, length_sums}

-- columns, each of n numbers
abbrev pub Even : ℕ → List (List ℕ) → Type 0
Even n cs = (c : List ℕ) → Memᴰ c cs → length c ≡ n

-- what stands first in each
abbrev pub heads : List (List ℕ) → List ℕ
heads cs = map (λ (c : List ℕ). get_or c 0 0) cs

-- a column one record further down
column_drop : (w n : ℕ) (table : List ℕ) (k at : ℕ) → spaced (λ p. get_or table p 0) w n (k + at) ≡ spaced (λ p. get_or (drop k table) p 0) w n at
unfolding spaced
column_drop w zero table k at = refl
column_drop w (suc n) table k at =
    ap₂ (λ (y : ℕ) (ys : List ℕ). y ∷ ys) (sym (get_or-drop k table at 0))
    (ap (spaced (λ p. get_or table p 0) w n) (add_assoc k at w) ∙ column_drop w n table k (at + w))

pub column_below : (w n : ℕ) (table : List ℕ) (j : ℕ) → column w (suc n) table j ≡ get_or table j 0 ∷ column w n (drop w table) j
unfolding column spaced
column_below w n table j =
    ap (λ (ys : List ℕ). get_or table j 0 ∷ ys) (ap (spaced (λ p. get_or table p 0) w n) (add_comm j w) ∙ column_drop w n table w j)

columns_heads : (w n k m : ℕ) (table : List ℕ) → heads (map (column w (suc n) table) (rising k m)) ≡ map (λ (j : ℕ). get_or table j 0) (rising k m)
unfolding rising column spaced
columns_heads w n k zero table = refl
columns_heads w n k (suc m) table = ap (λ (ys : List ℕ). get_or table k 0 ∷ ys) (columns_heads w n (suc k) m table)

columns_tails : (w n k m : ℕ) (table : List ℕ) → map (drop 1) (map (column w (suc n) table) (rising k m)) ≡ map (column w n (drop w table)) (rising k m)
unfolding rising
columns_tails w n k zero table = refl
columns_tails w n k (suc m) table =
    ap₂ (λ (c : List ℕ) (cs : List (List ℕ)). c ∷ cs) (ap (drop 1) (column_below w n table k)) (columns_tails w n (suc k) m table)

-- numbers at rising places
row_taken : (table : List ℕ) (k m : ℕ) → k + m ≤ length table → map (λ (j : ℕ). get_or table j 0) (rising k m) ≡ take m (drop k table)
unfolding rising
row_taken table k zero h = refl
row_taken table k (suc m) h =
    ap (λ (ys : List ℕ). get_or table k 0 ∷ ys) (row_taken table (suc k) m (omega arith)) ∙ rw (drop-cons table k 0 (omega arith))

-- records are their columns, joined
pub joined_columns : (w n : ℕ) (table : List ℕ) → n * w ≤ length table → joined n (columns w n table) ≡ take (n * w) table
unfolding joined columns
joined_columns w zero table h = ap (λ (k : ℕ). take k table) (sym (zero-mul w))
joined_columns w (suc n) table h =
    let e : suc n * w ≡ w + n * w = suc-mul n w ∙ add_comm (n * w) w in
    let l : w + n * w ≤ length table = omega arith in
    ap₂ (λ (xs ys : List ℕ). xs ++ ys) (columns_heads w n 0 w table ∙ row_taken table 0 w (omega arith))
    (ap (joined n) (columns_tails w n 0 w table) ∙ joined_columns w n (drop w table) (rw length-drop (omega arith)))
    ∙ sym (take-add w (n * w) table)
    ∙ ap (λ (k : ℕ). take k table) (sym e)

-- columns of n numbers, and what is left of each below its first

pub even_rest : {n : ℕ} {c : List ℕ} {cs : List (List ℕ)} → Even n (c ∷ cs) → Even n cs
even_rest h d m = h d (Memᴰ.tail m)

pub even_tails : (n : ℕ) (cs : List (List ℕ)) → Even (suc n) cs → Even n (map (drop 1) cs)
even_tails n cs h d m =
    let (c, k, e) = map_mem (drop 1) cs m in
    ap length e ∙ length-drop 1 c ∙ (let l = h c k in omega arith)

-- columns by what stands first in each and what is left
apart : (xs : List ℕ) (cs : List (List ℕ)) (n : ℕ) (a : ℕ → ℕ) (b : ℕ → List ℕ) → Even (suc n) cs → map a xs ≡ heads cs → map b xs ≡ map (drop 1) cs
    → map (λ (j : ℕ). a j ∷ b j) xs ≡ cs
apart [] [] n a b h p q = refl
apart [] (c ∷ cs) n a b h p q = absurd (let e = ap length p in omega arith)
apart (x ∷ xs) [] n a b h p q = absurd (let e = ap length p in omega arith)
apart (x ∷ xs) ([] ∷ cs) n a b h p q = absurd (let e = h [] (Memᴰ.head refl) in omega arith)
apart (x ∷ xs) ((y ∷ ys) ∷ cs) n a b h p q =
    let below : map (λ (j : ℕ). a j ∷ b j) xs ≡ cs = apart xs cs n a b (even_rest h) (ap (drop 1) p) (ap (drop 1) q) in
    let f : a x ≡ y = ap (λ (l : List ℕ). get_or l 0 0) p in
    let r : b x ≡ ys = ap (λ (l : List (List ℕ)). get_or l 0 []) q in
    λ i. (f i ∷ r i) ∷ below i

pub length_map : {A B : Type 0} (f : A → B) (xs : List A) → length (map f xs) ≡ length xs
length_map f [] = refl
length_map f (x ∷ xs) = ap suc (length_map f xs)

empty_columns : (w k : ℕ) (table : List ℕ) (cs : List (List ℕ)) → length cs ≡ k → Even 0 cs → (j : ℕ) → map (column w 0 table) (rising j k) ≡ cs
unfolding rising column spaced
empty_columns w zero table [] e h j = refl
empty_columns w zero table (c ∷ cs) e h j = absurd (omega arith)
empty_columns w (suc k) table [] e h j = absurd (omega arith)
empty_columns w (suc k) table ([] ∷ cs) e h j = ap (λ (ds : List (List ℕ)). [] ∷ ds) (empty_columns w k table cs (omega arith) (even_rest h) (suc j))
empty_columns w (suc k) table ((y ∷ ys) ∷ cs) e h j = absurd (let l = h (y ∷ ys) (Memᴰ.head refl) in omega arith)

columns_apart : (w n : ℕ) (table js : List ℕ) → map (column w (suc n) table) js ≡ map (λ (j : ℕ). get_or table j 0 ∷ column w n (drop w table) j) js
columns_apart w n table [] = refl
columns_apart w n table (j ∷ js) = ap₂ (λ (c : List ℕ) (cs : List (List ℕ)). c ∷ cs) (column_below w n table j) (columns_apart w n table js)

-- columns are those of the records that they join to
pub columns_joined : (w n : ℕ) (cs : List (List ℕ)) (rest : List ℕ) → length cs ≡ w → Even n cs → columns w n (joined n cs ++ rest) ≡ cs
unfolding joined columns
columns_joined w zero cs rest l h = empty_columns w w rest cs l h 0
columns_joined w (suc n) cs rest l h =
    let below : List ℕ = joined n (map (drop 1) cs) ++ rest in
    let e : joined (suc n) cs ++ rest ≡ heads cs ++ below = append_assoc (heads cs) (joined n (map (drop 1) cs)) rest in
    let k : length (heads cs) ≡ w = length_map (λ (c : List ℕ). get_or c 0 0) cs ∙ l in
    let p : map (λ (j : ℕ). get_or (heads cs ++ below) j 0) (rising 0 w) ≡ heads cs =
    row_taken (heads cs ++ below) 0 w (rw length-append (omega arith)) ∙ take_at (heads cs) below w k
    in
    let q : columns w n below ≡ map (drop 1) cs = columns_joined w n (map (drop 1) cs) rest (length_map (drop 1) cs ∙ l) (even_tails n cs h) in
    ap (columns w (suc n)) e
    ∙ columns_apart w n (heads cs ++ below) (rising 0 w)
    ∙ apart (rising 0 w) cs n (λ (j : ℕ). get_or (heads cs ++ below) j 0) (column w n (drop w (heads cs ++ below))) h p
    (ap (columns w n) (drop_at (heads cs) below w k) ∙ q)

-- lists of n numbers, one after the other, are cut apart again
rows_collect : (n w : ℕ) (cs : List (List ℕ)) (rest : List ℕ) → length cs ≡ w → Even n cs → rows n w (collect (λ (c : List ℕ). c) cs ++ rest) ≡ cs
unfolding rows collect
rows_collect n zero [] rest l h = refl
rows_collect n zero (c ∷ cs) rest l h = absurd (omega arith)
rows_collect n (suc w) [] rest l h = absurd (omega arith)
rows_collect n (suc w) (c ∷ cs) rest l h =
    let more : List ℕ = collect (λ (d : List ℕ). d) cs ++ rest in
    let e : c ++ collect (λ (d : List ℕ). d) cs ++ rest ≡ c ++ more = append_assoc c (collect (λ (d : List ℕ). d) cs) rest in
    let k : length c ≡ n = h c (Memᴰ.head refl) in
    ap₂ (λ (d : List ℕ) (ds : List (List ℕ)). d ∷ ds) (ap (take n) e ∙ take_at c more n k)
    (ap (λ (l : List ℕ). rows n w (drop n l)) e ∙ ap (rows n w) (drop_at c more n k) ∙ rows_collect n w cs rest (omega arith) (even_rest h))

-- and joined once more
collect_rows : (n w : ℕ) (xs : List ℕ) → collect (λ (c : List ℕ). c) (rows n w xs) ≡ take (w * n) xs
unfolding rows collect
collect_rows n zero xs = ap (λ (k : ℕ). take k xs) (sym (zero-mul n))
collect_rows n (suc w) xs =
    ap (λ (l : List ℕ). take n xs ++ l) (collect_rows n w (drop n xs))
    ∙ sym (take-add n (w * n) xs)
    ∙ ap (λ (k : ℕ). take k xs) (add_comm n (w * n) ∙ sym (suc-mul w n))

pub drop_mem : (n : ℕ) (xs : List ℕ) {x : ℕ} → Memᴰ x (drop n xs) → Memᴰ x xs
drop_mem n xs {x} m = subst (λ (ys : List ℕ). Memᴰ x ys) (take-append-drop n xs) (Memᴰ.append_right (take n xs) m)

pub rows_mem : (n w : ℕ) (xs : List ℕ) {c : List ℕ} → w * n ≤ length xs → Memᴰ c (rows n w xs) → (length c ≡ n) × ((x : ℕ) → Memᴰ x c → Memᴰ x xs)
unfolding rows
rows_mem n zero xs h m = absurd (Memᴰ.not-nil m)
rows_mem n (suc w) xs {c} h m = go (λ l k. rows_mem n w (drop n xs) l k) (Memᴰ.cases_cons m)
  where
    long : n + w * n ≤ length xs
    long = let e = suc-mul w n in omega arith

    go : (w * n ≤ length (drop n xs) → Memᴰ c (rows n w (drop n xs)) → (length c ≡ n) × ((x : ℕ) → Memᴰ x c → Memᴰ x (drop n xs)))
        → (c ≡ take n xs) ⊎ Memᴰ c (rows n w (drop n xs)) → (length c ≡ n) × ((x : ℕ) → Memᴰ x c → Memᴰ x xs)
    go below (inl e) = (ap length e ∙ length-take-le n xs (omega (arith, long)), λ x k. take_mem n xs (rw e at k))
    go below (inr k) = let (l, f) = below (rw length-drop (omega (arith, long))) k in (l, λ x i. drop_mem n xs (f x i))

-- what stands in a column stands in the table, or is 0
pub at_below : (b : ℕ) (table : List ℕ) (p : ℕ) → 0 < b → Below b table → get_or table p 0 < b
at_below b [] p z h = z
at_below b (x ∷ xs) zero z h = below_head h
at_below b (x ∷ xs) (suc p) z h = at_below b xs p z (below_tail h)

column_bounded : (w n : ℕ) (table : List ℕ) (at : ℕ) → Below modulus table → Below modulus (spaced (λ p. get_or table p 0) w n at)
unfolding spaced
column_bounded w zero table at h x m = absurd (Memᴰ.not-nil m)
column_bounded w (suc n) table at h x m = go (λ k. column_bounded w n table (at + w) h x k) (Memᴰ.cases_cons m)
  where
    go : (Memᴰ x (spaced (λ p. get_or table p 0) w n (at + w)) → x < modulus)
        → (x ≡ get_or table at 0) ⊎ Memᴰ x (spaced (λ p. get_or table p 0) w n (at + w)) → x < modulus
    go below (inl e) = rw e (at_below modulus table at (omega arith) h)
    go below (inr k) = below k

map_agree : {A B : Type 0} (f g : A → B) (xs : List A) → ((x : A) → Memᴰ x xs → f x ≡ g x) → map f xs ≡ map g xs
map_agree f g [] h = refl
map_agree {B = B} f g (x ∷ xs) h = ap₂ (λ (y : B) (ys : List B). y ∷ ys) (h x (Memᴰ.head refl)) (map_agree f g xs (λ y m. h y (Memᴰ.tail m)))

length_collected : (n : ℕ) (cs : List (List ℕ)) → Even n cs → length (collect (λ (c : List ℕ). c) cs) ≡ length cs * n
unfolding collect
length_collected n [] h = sym (zero-mul n)
length_collected n (c ∷ cs) h =
    let e = length_collected n cs (even_rest h) in
    let k = h c (Memᴰ.head refl) in
    length-append c (collect (λ (d : List ℕ). d) cs) ∙ ap₂ (λ (a b : ℕ). a + b) k e ∙ add_comm n (length cs * n) ∙ sym (suc-mul (length cs) n)

length_joined : (n : ℕ) (cs : List (List ℕ)) → length (joined n cs) ≡ n * length cs
unfolding joined
length_joined zero cs = sym (zero-mul (length cs))
length_joined (suc n) cs =
    length-append (map (λ (c : List ℕ). get_or c 0 0) cs) (joined n (map (drop 1) cs))
    ∙ ap₂ (λ (a b : ℕ). a + b) (length_map (λ (c : List ℕ). get_or c 0 0) cs) (length_joined n (map (drop 1) cs) ∙ ap (λ (k : ℕ). n * k) (length_map (drop 1) cs))
    ∙ add_comm (length cs) (n * length cs)
    ∙ sym (suc-mul n (length cs))

module _ (w n : ℕ) where
  columns_mem : (table : List ℕ) (c : List ℕ) → Memᴰ c (columns w n table) → (j : ℕ) × (c ≡ column w n table j)
  unfolding columns
  columns_mem table c m = let (j, k, e) = map_mem (column w n table) (rising 0 w) m in (j, e)

  length_columns : (table : List ℕ) → length (columns w n table) ≡ w
  unfolding columns
  length_columns table = length_map (column w n table) (rising 0 w) ∙ rising_length 0 w

  pub length_column : (table : List ℕ) (j : ℕ) → length (column w n table j) ≡ n
  unfolding column
  length_column table j = length_spaced (λ p. get_or table p 0) w n j

  -- the differences of the columns, as lists

  laid_lists : List ℕ → List (List ℕ)
  laid_lists table = map (differences 0) (columns w n table)

  laid_even : (table : List ℕ) → Even n (laid_lists table)
  unfolding laid_lists
  laid_even table d m =
      let (c, k, e) = map_mem (differences 0) (columns w n table) m in
      let (j, f) = columns_mem table c k in
      ap length e ∙ length_differences 0 c ∙ ap length f ∙ length_column table j

  laid_collected : (table : List ℕ) → laid w n table ≡ collect (λ (c : List ℕ). c) (laid_lists table)
  unfolding laid laid_lists
  laid_collected table = sym (collect_map (λ (c : List ℕ). c) (differences 0) (columns w n table))

  summed : (table : List ℕ) → Below modulus table → map (sums 0) (laid_lists table) ≡ columns w n table
  unfolding laid_lists column
  summed table h =
      map-map (sums 0) (differences 0) (columns w n table)
      ∙ map_agree (λ (c : List ℕ). sums 0 (differences 0 c)) (λ (c : List ℕ). c) (columns w n table)
      (λ c m. let (j, e) = columns_mem table c m in sums_differences 0 c (omega arith) (subst (Below modulus) (sym e) (column_bounded w n table j h)))
      ∙ map-id (columns w n table)

  -- what is laid down is raised again, whatever the numbers are and whatever follows
  pub raised_laid : (table rest : List ℕ) → n * w ≤ length table → Below modulus table → raised w n (laid w n table ++ rest) ≡ take (n * w) table
  unfolding raised laid_lists
  raised_laid table rest l h =
      ap (λ (ds : List ℕ). joined n (map (sums 0) (rows n w (ds ++ rest)))) (laid_collected table)
      ∙ ap (λ (cs : List (List ℕ)). joined n (map (sums 0) cs))
      (rows_collect n w (laid_lists table) rest (length_map (differences 0) (columns w n table) ∙ length_columns table) (laid_even table))
      ∙ ap (joined n) (summed table h)
      ∙ joined_columns w n table l

  -- what is raised is laid down again as it was
  pub laid_raised : (ds rest : List ℕ) → w * n ≤ length ds → Below modulus ds → laid w n (raised w n ds ++ rest) ≡ take (w * n) ds
  unfolding raised laid
  laid_raised ds rest l h =
      let cs : List (List ℕ) = map (sums 0) (rows n w ds) in
      let even : Even n cs = λ c m. let (d, k, e) = map_mem (sums 0) (rows n w ds) m in ap length e ∙ length_sums 0 d ∙ (rows_mem n w ds l k).0 in
      ap (collect (differences 0)) (columns_joined w n cs rest (length_map (sums 0) (rows n w ds) ∙ rows_length n w ds) even)
      ∙ collect_map (differences 0) (sums 0) (rows n w ds)
      ∙ collect_agree (λ (c : List ℕ). differences 0 (sums 0 c)) (λ (c : List ℕ). c) (rows n w ds)
      (λ c m. differences_sums 0 c (omega arith) (λ x k. h x ((rows_mem n w ds l m).1 x k)))
      ∙ collect_rows n w ds

  pub length_laid : (table : List ℕ) → length (laid w n table) ≡ w * n
  unfolding laid_lists
  length_laid table =
      ap length (laid_collected table)
      ∙ length_collected n (laid_lists table) (laid_even table)
      ∙ ap (λ (k : ℕ). k * n) (length_map (differences 0) (columns w n table) ∙ length_columns table)

  pub length_raised : (ds : List ℕ) → length (raised w n ds) ≡ n * w
  unfolding raised
  length_raised ds =
      length_joined n (map (sums 0) (rows n w ds)) ∙ ap (λ (k : ℕ). n * k) (length_map (sums 0) (rows n w ds) ∙ rows_length n w ds)

-- A step of each loop that lays columns down: what is left to write, and where. Assumes nothing.
use mathlib.Core.Path.{◌≡◌, sym, ap, ap₂, ◌∙◌}
use mathlib.Core.List.{List, [], ◌∷◌, ◌++◌, map}
use Prim.Native.Nat.{ℕ, suc, ◌+◌, ◌*◌, ◌≤◌, ◌<◌}
use native.Mathlib.Nat.{add-zero, zero-mul, suc-mul, mul-le-mul_right}
use native.Mathlib.Numerals.{add-one}
use native.Mathlib.Omega.{arith}
use lib.ListN.{length, get_or}
use lib.Seq.{sets}
use Rattle.model.specs.Lists.{collect}
use Rattle.model.specs.Form.{spaced}
use Rattle.laws.specs.Lists.{rising}
use Rattle.laws.proofs.Lists.{collect_append}
use Rattle.columns_model.specs.Differences.{difference, differences, two_bytes}
use Rattle.columns_model.specs.Columns.{column}
use Rattle.columns_model.proofs.Differences.{length_bytes, length_differences}
use Rattle.columns_model.proofs.Columns.{length_column}

-- one of n rows of w numbers, and the next

pub row_next : (w i : ℕ) → (i + 1) * w ≡ i * w + w
row_next w i = ap (λ (k : ℕ). k * w) (add-one i) ∙ suc-mul i w

pub row_within : (w n i : ℕ) → i < n → i * w + w ≤ n * w
row_within w n i h = let p : suc i * w ≤ n * w = mul-le-mul_right w h in let e = suc-mul i w in omega arith

-- where a loop down column j stands: at record i, and with two bytes of each record passed behind it
pub record Turn (w count j at i place end : ℕ) : Type 0 where
  pub few : i ≤ count
  pub here : place ≡ i * w + j
  pub behind : end ≡ at + 2 * i

pub turn_first : (w count j at : ℕ) → Turn w count j at 0 j at
turn_first w count j at = let z = zero-mul w in record { few = omega arith; here = omega arith; behind = omega arith }

pub turn_next : {w count j at i place end : ℕ} → Turn w count j at i place end → i < count → Turn w count j at (i + 1) (place + w) (end + 2)
turn_next {w} {i = i} t h =
    let a = t.here in
    let b = t.behind in
    let e = row_next w i in
    record { few = omega arith; here = omega arith; behind = omega arith }

-- then its number stands in the table, and the next place is no large number
pub record Stands (w l place : ℕ) : Type 0 where
  pub within : place < l
  pub next : place + w ≤ l + l

pub turn_stands : {w count j at i place end l : ℕ} → Turn w count j at i place end → i < count → j < w → count * w ≤ l → Stands w l place
turn_stands {w} {count} {i = i} t h k m =
    let a = t.here in
    let p = row_within w count i h in
    record { within = omega arith; next = omega arith }

-- the bytes of column j begin behind those of the columns before it: at first, and at the next
pub column_first : (count at : ℕ) → at + 2 * (0 * count) ≡ at
column_first count at = let z = zero-mul count in omega arith

pub column_next : (count at j : ℕ) → at + 2 * ((j + 1) * count) ≡ at + 2 * (j * count) + 2 * count
column_next count at j = let e = row_next count j in omega arith

-- a column's bytes are within those of all
pub column_room : (w count at j l : ℕ) → j < w → at + 2 * (w * count) ≤ l → at + 2 * (j * count) + 2 * count ≤ l
column_room w count at j l h r = let k = row_within count w j h in omega arith

-- one write behind another
pub sets_append : (xs ys out : List ℕ) (i : ℕ) → sets out i (xs ++ ys) ≡ sets (sets out i xs) (i + length xs) ys
sets_append [] ys out i = ap (λ (k : ℕ). sets out k ys) (sym (add-zero i))
sets_append (x ∷ xs) ys out i =
    let e : suc i + length xs ≡ i + suc (length xs) = omega arith in
    sets_append xs ys (lib.ListN.set out i x) (suc i) ∙ ap (λ (k : ℕ). sets (sets out i (x ∷ xs)) k ys) e

-- the bytes of what is left of a column: n numbers from a place on
abbrev pub column_left : List ℕ → ℕ → ℕ → ℕ → ℕ → List ℕ
column_left table w above n place = collect two_bytes (differences above (spaced (λ p. get_or table p 0) w n place))

pub column_done : (table : List ℕ) (w above n place : ℕ) (out : List ℕ) (at : ℕ) → n ≡ 0 → sets out at (column_left table w above n place) ≡ out
unfolding collect differences spaced
column_done table w above n place out at e = ap (λ (k : ℕ). sets out at (column_left table w above k place)) e

pub column_step : (table : List ℕ) (w above m n place next : ℕ) (out : List ℕ) (at : ℕ) → m ≡ suc n → next ≡ place + w
    → sets (sets out at (two_bytes (difference above (get_or table place 0)))) (at + 2) (column_left table w (get_or table place 0) n next)
    ≡ sets out at (column_left table w above m place)
unfolding collect differences spaced two_bytes
column_step table w above m n place next out at e f =
    let x : ℕ = get_or table place 0 in
    let d : ℕ = difference above x in
    ap (λ (k : ℕ). sets (sets out at (two_bytes d)) (at + 2) (column_left table w x n k)) f
    ∙ sym (sets_append (two_bytes d) (column_left table w x n (place + w)) out at)
    ∙ ap (λ (k : ℕ). sets out at (column_left table w above k place)) (sym e)

-- those of the columns that are left, n of them from column j on
abbrev pub columns_left : List ℕ → ℕ → ℕ → ℕ → ℕ → List ℕ
columns_left table w count n j = collect two_bytes (collect (differences 0) (map (column w count table) (rising j n)))

pub columns_done : (table : List ℕ) (w count n j : ℕ) (out : List ℕ) (at : ℕ) → n ≡ 0 → sets out at (columns_left table w count n j) ≡ out
unfolding collect rising
columns_done table w count n j out at e = ap (λ (k : ℕ). sets out at (columns_left table w count k j)) e

length_column_bytes : (table : List ℕ) (w count j : ℕ) → length (collect two_bytes (differences 0 (column w count table j))) ≡ 2 * count
length_column_bytes table w count j =
    let a = length_bytes (differences 0 (column w count table j)) in
    let b = length_differences 0 (column w count table j) in
    let d = length_column w count table j in
    omega arith

pub columns_step : (table : List ℕ) (w count m n j : ℕ) (out : List ℕ) (at : ℕ) → m ≡ suc n
    → sets (sets out at (collect two_bytes (differences 0 (column w count table j)))) (at + 2 * count) (columns_left table w count n (j + 1))
    ≡ sets out at (columns_left table w count m j)
unfolding collect rising
columns_step table w count m n j out at e =
    let c : List ℕ = differences 0 (column w count table j) in
    let more : List ℕ = collect (differences 0) (map (column w count table) (rising (suc j) n)) in
    let s : j + 1 ≡ suc j = omega arith in
    let l : at + 2 * count ≡ at + length (collect two_bytes c) = ap (λ (k : ℕ). at + k) (sym (length_column_bytes table w count j)) in
    ap₂ (λ (k i : ℕ). sets (sets out at (collect two_bytes c)) k (columns_left table w count n i)) l s
    ∙ sym (sets_append (collect two_bytes c) (collect two_bytes more) out at)
    ∙ ap (sets out at) (sym (collect_append two_bytes c more))
    ∙ ap (λ (k : ℕ). sets out at (columns_left table w count k j)) (sym e)

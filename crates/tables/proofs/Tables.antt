-- A table's rows as a list: what is found is the index in that list, and what is entered extends it. Over the width. Assumes nothing.
use mathlib.Core.Path.{◌≡◌, refl, sym, ap, ◌∙◌}
use mathlib.Core.Bool.{Bool, true, false, ◌&&◌}
use mathlib.Core.List.{List, [], ◌∷◌, ◌++◌}
use mathlib.Core.Logic.{◌⊎◌, inl, inr}
use Prim.Native.Nat.{ℕ, zero, suc, ◌+◌, ◌*◌, ◌≤◌, ◌<◌}
use native.Mathlib.Nat.{mul-le-mul_right, suc-mul, zero-mul, add-zero, add-suc, suc-add, zero-add, add_comm}
use native.Mathlib.Omega.{arith}
use lib.Dec.{eqb}
use lib.ListN.{length, get_or, take, drop, length-append, length-drop}
use lib.Seq.{take_at, drop-drop, length-take-le, get_or-take, get_or-drop}
use Rattle.model.specs.Lists.{index, row}
use Rattle.laws.proofs.Bools.{case}
use Rattle.rows.specs.Tables.{same_row, number_of}
use Rattle.tables.specs.Rows.{begins, seek_row, find_row, rows, written}

-- a list begins with a row if so many of its first numbers are the row
begins_same_row : (r ys : List ℕ) → length r ≤ length ys → begins r ys ≡ same_row r (take (length r) ys)
unfolding begins same_row
begins_same_row [] ys h = refl
begins_same_row (x ∷ xs) [] h = absurd (omega arith)
begins_same_row (x ∷ xs) (y ∷ ys) h = ap (λ (b : Bool). eqb x y && b) (begins_same_row xs ys (omega arith))

pub rows_length : (w n : ℕ) (t : List ℕ) → length (rows w n t) ≡ n
unfolding rows
rows_length w zero t = refl
rows_length w (suc n) t = ap suc (rows_length w n (drop w t))

-- from row i on, seen from the list of the rows that are left
seek_row_index : (r t : List ℕ) (i n : ℕ) → i * length r + n * length r ≤ length t
    → seek_row r t i n ≡ i + index same_row r (rows (length r) n (drop (i * length r) t))
unfolding seek_row rows index
seek_row_index r t i zero h = sym (add-zero i)
seek_row_index r t i (suc n) h = go (case (begins r rest)) (seek_row_index r t (suc i) n fits)
  where
    w : ℕ
    w = length r

    rest : List ℕ
    rest = drop (i * length r) t

    fits : suc i * length r + n * length r ≤ length t
    fits =
        let a : suc i * length r ≡ i * length r + length r = suc-mul i (length r) in
        let b : suc n * length r ≡ n * length r + length r = suc-mul n (length r) in
        omega arith

    room : length r ≤ length rest
    room = let b : suc n * length r ≡ n * length r + length r = suc-mul n (length r) in rw length-drop (omega arith)

    next : drop (suc i * length r) t ≡ drop (length r) rest
    next = ap (λ (k : ℕ). drop k t) (suc-mul i (length r)) ∙ sym (drop-drop (length r) (i * length r) t)

    same : begins r rest ≡ same_row r (take (length r) rest)
    same = begins_same_row r rest room

    go : (begins r rest ≡ true) ⊎ (begins r rest ≡ false) → seek_row r t (suc i) n ≡ suc i + index same_row r (rows (length r) n (drop (suc i * length r) t))
        → seek_row r t i (suc n) ≡ i + index same_row r (rows (length r) (suc n) rest)
    go (inl e) below = rw (e, seek_row) (rw (sym same ∙ e, index) (sym (add-zero i)))
    go (inr e) below =
        rw (e, seek_row)
        (rw (sym same ∙ e, index)
        (below
        ∙ ap (λ (x : List ℕ). suc i + index same_row r (rows (length r) n x)) next
        ∙ suc-add i (index same_row r (rows (length r) n (drop (length r) rest)))
        ∙ sym (add-suc i (index same_row r (rows (length r) n (drop (length r) rest))))))

find_row_index : (r t : List ℕ) (n : ℕ) → n * length r ≤ length t → find_row r n t ≡ index same_row r (rows (length r) n t)
unfolding find_row
find_row_index r t n h =
    let z : 0 * length r ≡ 0 = zero-mul (length r) in
    seek_row_index r t 0 n (omega arith)
    ∙ zero-add (index same_row r (rows (length r) n (drop (0 * length r) t)))
    ∙ ap (λ (k : ℕ). index same_row r (rows (length r) n (drop k t))) z

-- what is found is the row's number in the list of the rows in use
pub find_row_number : (r t : List ℕ) (n : ℕ) → n * length r ≤ length t → find_row r n t ≡ number_of r (rows (length r) n t)
unfolding number_of
find_row_number r t n h = find_row_index r t n h

-- a write behind the first w numbers, seen from behind them
written_take : (w at : ℕ) (r t : List ℕ) → w + at ≤ length t → take w (written r (w + at) t) ≡ take w t
unfolding written
written_take zero at r t h = refl
written_take (suc w) at r [] h = absurd (omega arith)
written_take (suc w) at r (x ∷ t) h =
    rw (suc-add w at) (rw (suc-add (w + at) (length r)) (ap (λ (ys : List ℕ). x ∷ ys) (written_take w at r t (omega arith))))

written_drop : (w at : ℕ) (r t : List ℕ) → w + at ≤ length t → drop w (written r (w + at) t) ≡ written r at (drop w t)
unfolding written
written_drop zero at r t h = rw (zero-add at)
written_drop (suc w) at r [] h = absurd (omega arith)
written_drop (suc w) at r (x ∷ t) h = rw (suc-add w at) (rw (suc-add (w + at) (length r)) (written_drop w at r t (omega arith)))

pub written_length : (r t : List ℕ) (at : ℕ) → at + length r ≤ length t → length (written r at t) ≡ length t
unfolding written
written_length r t at h = rw (length-append, length-append, length-drop, length-take-le at t (omega arith)) (omega arith)

-- what is written behind n rows is one more row
rows_one : (r t : List ℕ) → rows (length r) 1 (written r 0 t) ≡ r ∷ []
unfolding rows written
rows_one r t = ap (λ (x : List ℕ). x ∷ []) (take_at r (drop (0 + length r) t) (length r) refl)

offset_behind : (n w : ℕ) → suc n * w ≡ w + n * w
offset_behind n w = suc-mul n w ∙ add_comm (n * w) w

pub rows_written : (n : ℕ) (r t : List ℕ) → suc n * length r ≤ length t
    → rows (length r) (suc n) (written r (n * length r) t) ≡ rows (length r) n t ++ (r ∷ [])
unfolding rows
rows_written zero r t h = ap (λ (k : ℕ). rows (length r) 1 (written r k t)) (zero-mul (length r)) ∙ rows_one r t
rows_written (suc n) r t h =
    let w : ℕ = length r in
    let e : suc n * w ≡ w + n * w = offset_behind n w in
    let f : suc (suc n) * w ≡ w + suc n * w = offset_behind (suc n) w in
    let fits : w + n * w ≤ length t = omega arith in
    let room : suc n * w ≤ length (drop w t) = rw length-drop (omega arith) in
    ap (λ (k : ℕ). rows w (suc (suc n)) (written r k t)) e
    ∙ (λ i. written_take w (n * w) r t fits i ∷ rows w (suc n) (written_drop w (n * w) r t fits i))
    ∙ ap (λ (xs : List (List ℕ)). take w t ∷ xs) (rows_written n r (drop w t) room)

-- a row in use, and its numbers

pub rows_at : (w n : ℕ) (t : List ℕ) (j : ℕ) → j < n → get_or (rows w n t) j [] ≡ row w j t
unfolding rows row
rows_at w zero t j h = absurd (omega arith)
rows_at w (suc n) t zero h = ap (λ (k : ℕ). take w (drop k t)) (sym (zero-mul w))
rows_at w (suc n) t (suc j) h =
    rows_at w n (drop w t) j (omega arith) ∙ ap (take w) (drop-drop (j * w) w t ∙ ap (λ (k : ℕ). drop k t) (sym (offset_behind j w)))

pub row_at : (w j : ℕ) (t : List ℕ) (q : ℕ) → q < w → get_or (row w j t) q 0 ≡ get_or t (j * w + q) 0
unfolding row
row_at w j t q h = get_or-take w (drop (j * w) t) q 0 h ∙ get_or-drop (j * w) t q 0

pub row_length : (w n j : ℕ) (t : List ℕ) → j < n → n * w ≤ length t → length (row w j t) ≡ w
unfolding row
row_length w n j t h l =
    let a : suc j * w ≤ n * w = mul-le-mul_right w h in
    let b : suc j * w ≡ w + j * w = offset_behind j w in
    length-take-le w (drop (j * w) t) (rw length-drop (omega arith))

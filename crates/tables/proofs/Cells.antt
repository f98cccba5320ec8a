-- A table's rows as a list, cell by cell, and the arguments in the row of a term. Assumes nothing.
use mathlib.Core.Path.{◌≡◌, refl, sym, ap, ◌∙◌}
use mathlib.Core.List.{List, [], ◌∷◌}
use Prim.Native.Nat.{ℕ, zero, suc, ◌+◌, ◌*◌, ◌≤◌, ◌<◌}
use native.Mathlib.Nat.{add-zero}
use native.Mathlib.Omega.{arith}
use lib.ListN.{length, get_or, take, drop}
use lib.Seq.{drop-drop, drop-cons, get_or-take, get_or-drop, take-take}
use Rattle.model.specs.Lists.{numbers_from, row}
use Rattle.rows.specs.Copies.{arguments_in}
use Rattle.tables.specs.Rows.{rows}
use Rattle.tables.specs.Terms.{Ordered, function_of, arity_of, arguments_of}
use Rattle.tables.proofs.Tables.{rows_at}

pub get_d_rows : (w n : ℕ) (t : List ℕ) (i : ℕ) → i < n → get_or (rows w n t) i [] ≡ take w (drop (i * w) t)
unfolding row
get_d_rows w n t i h = rows_at w n t i h

pub get_or_cell : (n : ℕ) (t : List ℕ) (i k : ℕ) → i < n → k < 10 → get_or (get_or (rows 10 n t) i []) k 0 ≡ get_or t (i * 10 + k) 0
get_or_cell n t i k h l =
    ap (λ (r : List ℕ). get_or r k 0) (get_d_rows 10 n t i h) ∙ get_or-take 10 (drop (i * 10) t) k 0 l ∙ get_or-drop (i * 10) t k 0

pub row_function : (n : ℕ) (t : List ℕ) (i : ℕ) → i < n → get_or (get_or (rows 10 n t) i []) 0 0 ≡ function_of t i
row_function n t i h = get_or_cell n t i 0 h (omega arith) ∙ ap (λ (k : ℕ). get_or t k 0) (add-zero (i * 10))

pub numbers_from_take : (xs : List ℕ) (at n : ℕ) → at + n ≤ length xs → numbers_from xs at n ≡ take n (drop at xs)
unfolding numbers_from
numbers_from_take xs at zero h = refl
numbers_from_take xs at (suc n) h =
    ap (λ (ys : List ℕ). get_or xs at 0 ∷ ys) (numbers_from_take xs (suc at) n (omega arith))
    ∙ ap (take (suc n)) (sym (drop-cons xs at 0 (omega arith)))

behind_two : (ys : List ℕ) → drop 2 (take 10 ys) ≡ take 8 (drop 2 ys)
behind_two [] = refl
behind_two (x ∷ []) = refl
behind_two (x ∷ y ∷ ys) = refl

pub arguments_in_row : {n : ℕ} {t : List ℕ} → Ordered n t → (i : ℕ) → i < n → arguments_in (get_or (rows 10 n t) i []) ≡ arguments_of t i
unfolding arguments_in arguments_of
arguments_in_row {n} {t} o i h =
    let r : List ℕ = get_or (rows 10 n t) i [] in
    let a = o.arity i h in
    let k = o.room in
    ap (λ (m : ℕ). take m (drop 2 r)) (get_or_cell n t i 1 h (omega arith))
    ∙ ap (λ (x : List ℕ). take (arity_of t i) (drop 2 x)) (get_d_rows 10 n t i h)
    ∙ ap (take (arity_of t i)) (behind_two (drop (i * 10) t))
    ∙ take-take (arity_of t i) 8 (drop 2 (drop (i * 10) t)) a
    ∙ ap (take (arity_of t i)) (drop-drop 2 (i * 10) t)
    ∙ sym (numbers_from_take t (i * 10 + 2) (arity_of t i) (omega arith))

-- Laws of rows: a step of each search and of a write, as the loops take them. Assumes nothing.
use mathlib.Core.Path.{◌≡◌, refl, sym, ap, ◌∙◌}
use mathlib.Core.Bool.{Bool, true, false, ◌&&◌}
use mathlib.Core.List.{List, [], ◌∷◌, ◌++◌}
use mathlib.Core.Logic.{◌⊎◌, inl, inr}
use Prim.Native.Nat.{ℕ, zero, suc, ◌+◌, ◌*◌, ◌≤◌}
use native.Mathlib.Omega.{arith}
use lib.Dec.{eqb}
use lib.ListN.{length, take, drop}
use lib.Seq.{take-length, paste}
use borrow.Rule.Slice.PartMut.{put_mid}
use Rattle.std.proofs.lemmas.Slice.{put_mid-paste}
use Rattle.std.specs.Cmp.Lexicographic.{pointwise}
use Rattle.laws.proofs.Bools.{case}
use Rattle.tables.specs.Rows.{begins, seek_row, find_row, written}

-- a list begins with these numbers, as the library tests it
pub begins_pointwise : (r t : List ℕ) → pointwise eqb r (take (length r) t) ≡ begins r t
unfolding begins
begins_pointwise [] t = refl
begins_pointwise (x ∷ r) [] = refl
begins_pointwise (x ∷ r) (y ∷ t) = ap (λ (b : Bool). eqb x y && b) (begins_pointwise r t)

-- a row written over a part
pub paste_written : (t : List ℕ) (at : ℕ) (r : List ℕ) (i : ℕ) → i ≡ length r → paste t at r i ≡ written r at t
unfolding written
paste_written t at r i e =
    ap (λ (n : ℕ). paste t at r n) e ∙ ap (λ (x : List ℕ). take at t ++ x ++ drop (at + length r) t) (take-length r)

pub put_written : (t : List ℕ) (at k : ℕ) (r xs : List ℕ) → k ≡ length r → xs ≡ r → put_mid at k t xs ≡ written r at t
put_written t at k r xs e f = put_mid-paste at k t xs r (length r) f (sym e) refl ∙ paste_written t at r (length r) refl

-- a row that is found is one of the rows in use; one that is not is written behind them

seek_row_le : (r t : List ℕ) (i n : ℕ) → seek_row r t i n ≤ i + n
unfolding seek_row
seek_row_le r t i zero = omega arith
seek_row_le r t i (suc n) = go (seek_row_le r t (suc i) n) (case (begins r (drop (i * length r) t)))
  where
    go : seek_row r t (suc i) n ≤ suc i + n → (begins r (drop (i * length r) t) ≡ true) ⊎ (begins r (drop (i * length r) t) ≡ false) → seek_row r t i (suc n) ≤ i + suc n
    go below (inl e) = rw (e, seek_row) (omega arith)
    go below (inr e) = rw (e, seek_row) (omega arith)

pub find_row_le : (r t : List ℕ) (n : ℕ) → find_row r n t ≤ n
unfolding find_row
find_row_le r t n = let h = seek_row_le r t 0 n in omega arith

-- The law of a term table: no two rows with a Skolem function are equal, whatever the width and however many rows; a row without one is a
-- constant, known by its position. Entering a row keeps it, and so does a constant behind the rows. Assumes nothing.
use mathlib.Core.Path.{◌≡◌, sym, ap, ◌∙◌, subst}
use mathlib.Core.Bool.{Bool, true, false, not}
use mathlib.Core.Logic.{◌⊎◌, inl, inr}
use mathlib.Core.List.{List, [], ◌∷◌, ◌++◌, append-nil, Memᴰ}
use Prim.Native.Nat.{ℕ}
use lib.Dec.{eqb}
use lib.ListN.{get_or}
use Rattle.model.specs.Lists.{any, keep, extend}
use Rattle.laws.specs.Lists.{Distinct}
use Rattle.laws.proofs.Bools.{case}
use Rattle.laws.proofs.Lists.{distinct_snoc, keep_yes, keep_no, keep_mem, any_eq_not_mem, keep_append}
use Rattle.laws.proofs.Extending.{extend_one_old, extend_one_new}
use Rattle.rows.specs.Tables.{same_row, enter}
use Rattle.rows.proofs.Encoding.{same_row_decides}

-- the row has a Skolem function
unfoldable pub headed : List ℕ → Bool
headed r = not (eqb (get_or r 0 0) 0)

-- no two rows with a Skolem function are equal
abbrev pub Unrepeated : List (List ℕ) → Type 0
Unrepeated rows = Distinct (keep headed rows)

-- a row without a Skolem function behind the rows
pub unrepeated_constant : (rows : List (List ℕ)) (r : List ℕ) → headed r ≡ false → Unrepeated rows → Unrepeated (rows ++ (r ∷ []))
unfolding keep
unrepeated_constant rows r e d =
    subst (λ (l : List (List ℕ)). Distinct l)
    (sym (keep_append headed rows (r ∷ []) ∙ ap (λ (l : List (List ℕ)). keep headed rows ++ l) (keep_no headed r [] e) ∙ append-nil (keep headed rows))) d

-- a row that is not there yet behind the rows
pub unrepeated_new : (rows : List (List ℕ)) (r : List ℕ) → (Memᴰ r rows → ⊥) → Unrepeated rows → Unrepeated (rows ++ (r ∷ []))
unfolding keep
unrepeated_new rows r n d = go (case (headed r))
  where
    go : (headed r ≡ true) ⊎ (headed r ≡ false) → Distinct (keep headed (rows ++ (r ∷ [])))
    go (inl e) =
        subst (λ (l : List (List ℕ)). Distinct l)
        (sym (keep_append headed rows (r ∷ []) ∙ ap (λ (l : List (List ℕ)). keep headed rows ++ l) (keep_yes headed r [] e)))
        (distinct_snoc r d (λ m. n (keep_mem headed rows m).0))
    go (inr e) = unrepeated_constant rows r e d

pub unrepeated_enter : (rows : List (List ℕ)) (r : List ℕ) → Unrepeated rows → Unrepeated (enter r rows)
unfolding enter
unrepeated_enter rows r d = go (case (any (same_row r) rows))
  where
    go : (any (same_row r) rows ≡ true) ⊎ (any (same_row r) rows ≡ false) → Distinct (keep headed (extend same_row rows (r ∷ [])))
    go (inl e) = subst (λ (l : List (List ℕ)). Unrepeated l) (sym (extend_one_old same_row rows r e)) d
    go (inr e) =
        subst (λ (l : List (List ℕ)). Unrepeated l) (sym (extend_one_new same_row rows r e))
        (unrepeated_new rows r (any_eq_not_mem same_row same_row_decides e) d)

-- Sizes and nestings over the rows of a table of terms are those by its numbers. Assumes nothing.
use mathlib.Core.Path.{◌≡◌, refl, sym, ap, ap₂, ◌∙◌}
use mathlib.Core.List.{List, [], ◌∷◌, Memᴰ}
use Prim.Native.Nat.{ℕ, zero, suc, ◌+◌, ◌*◌, ◌<◌}
use native.Mathlib.Nat.{add-zero}
use native.Mathlib.Omega.{arith}
use lib.ListN.{get_or}
use Rattle.model.specs.Term.{meeting}
use Rattle.rows.specs.Making.{most, nesting_in}
use Rattle.rows.specs.Judging.{total, size_in}
use Rattle.tables.specs.Rows.{rows}
use Rattle.tables.specs.Terms.{Ordered, function_of, arguments_of, total as total_of, size_at, nesting_at}
use Rattle.tables.proofs.Terms.{arguments_of_before, most_agree, size_at_is, nesting_at_is}
use Rattle.tables.proofs.Cells.{get_or_cell, arguments_in_row}

pub total_agree : (f g : ℕ → ℕ) (xs : List ℕ) → ((x : ℕ) → Memᴰ x xs → f x ≡ g x) → total f xs ≡ total_of g xs
unfolding total total_of
total_agree f g [] h = refl
total_agree f g (x ∷ xs) h = ap₂ (λ (a b : ℕ). a + b) (h x (Memᴰ.head refl)) (total_agree f g xs (λ y m. h y (Memᴰ.tail m)))

module _ {n : ℕ} {t : List ℕ} (o : Ordered n t) where
  pub size_in_is : (k i : ℕ) → i < n → i < k → size_in k (rows 10 n t) i ≡ size_at t i
  unfolding size_in
  size_in_is zero i h l = absurd (omega arith)
  size_in_is (suc k) i h l =
      ap (λ (as' : List ℕ). suc (total (size_in k (rows 10 n t)) as')) (arguments_in_row o i h)
      ∙ ap suc (total_agree (size_in k (rows 10 n t)) (size_at t) (arguments_of t i)
      (λ x p. let b = arguments_of_before o i x h p in size_in_is k x (omega arith) (omega arith)))
      ∙ sym (size_at_is o i h)

  function_is : (i : ℕ) → i < n → get_or (get_or (rows 10 n t) i []) 0 0 ≡ function_of t i
  function_is i h = get_or_cell n t i 0 h (omega arith) ∙ ap (λ (k : ℕ). get_or t k 0) (add-zero (i * 10))

  pub nesting_in_is : (k f i : ℕ) → i < n → i < k → nesting_in k (rows 10 n t) f i ≡ nesting_at t f i
  unfolding nesting_in
  nesting_in_is zero f i h l = absurd (omega arith)
  nesting_in_is (suc k) f i h l =
      ap₂ (λ (x : ℕ) (as' : List ℕ). meeting f x (most (nesting_in k (rows 10 n t) f) as')) (function_is i h) (arguments_in_row o i h)
      ∙ ap (meeting f (function_of t i)) (most_agree (nesting_in k (rows 10 n t) f) (nesting_at t f) (arguments_of t i)
      (λ x p. let b = arguments_of_before o i x h p in nesting_in_is k f x (omega arith) (omega arith)))
      ∙ sym (nesting_at_is o f i h)

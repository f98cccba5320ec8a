-- What proofs and contracts say of lists besides the functions of `model`. Assumes nothing.
use mathlib.Core.List.{List, [], ◌∷◌, Memᴰ}
use Rattle.std.specs.Prelude.{ℕ, zero, suc}

-- no element stands twice
pub data Distinct {ℓ} {A : Type ℓ} : List A → Type ℓ where
  none : Distinct []
  one : {x : A} {xs : List A} → (Memᴰ x xs → ⊥) → Distinct xs → Distinct (x ∷ xs)

-- n numbers from one on
unfoldable pub rising : ℕ → ℕ → List ℕ
rising k zero = []
rising k (suc n) = k ∷ rising (suc k) n

-- each element comes before all that stand behind it
pub data Rises {A : Type 0} (R : A → A → Type 0) : List A → Type 0 where
  rises_none : Rises R []
  rises_one : {x : A} {xs : List A} → ((y : A) → Memᴰ y xs → R x y) → Rises R xs → Rises R (x ∷ xs)

-- The two answers of a search for a place where a list has another number, and bytes in front of marks. Assumes nothing.
use mathlib.Core.Path.{◌≡◌, refl}
use mathlib.Core.Bool.{true, false}
use mathlib.Core.List.{List, [], ◌∷◌}
use Prim.Native.Nat.{ℕ, zero, suc, ◌<◌}
use native.Mathlib.Omega.{arith}
use lib.ListN.{length, get_or}
use Rattle.laws.proofs.Bools.{not_both}
use Rattle.test_support.specs.Same.{Decides, front}

pub decides_same : (xs : List ℕ) (f : ℕ → ℕ) → ((k : ℕ) → k < length xs → get_or xs k 0 ≡ f k) → Decides true xs f
decides_same xs f h = record { same = λ e. h; other = λ e. not_both true refl e }

pub decides_other : (xs : List ℕ) (f : ℕ → ℕ) (k : ℕ) → k < length xs → (get_or xs k 0 ≡ f k → ⊥) → Decides false xs f
decides_other xs f k l n = record { same = λ e. not_both false e refl; other = λ e. (k, l, n) }

-- within a list it does not matter what stands for a missing element
pub get_or_within : (xs : List ℕ) (k d e : ℕ) → k < length xs → get_or xs k d ≡ get_or xs k e
get_or_within [] k d e l = absurd (omega arith)
get_or_within (x ∷ xs) zero d e l = refl
get_or_within (x ∷ xs) (suc k) d e l = get_or_within xs k d e (omega arith)

pub front_done : (n : ℕ) → n ≡ 0 → (bytes : List ℕ) → front n bytes ≡ bytes
unfolding front
front_done zero h bytes = refl
front_done (suc n) h bytes = absurd (omega arith)

pub front_refused : (n : ℕ) → (n ≡ 0 → ⊥) → (bytes : List ℕ) → front n bytes ≡ []
unfolding front
front_refused zero h bytes = absurd (h refl)
front_refused (suc n) h bytes = refl

-- Numbers that rise by one: which there are, and that none comes twice. Assumes nothing.
use mathlib.Core.Path.{◌≡◌, refl, sym, ap, ◌∙◌}
use mathlib.Core.Logic.{⊎_elim}
use mathlib.Core.List.Memᴰ
use mathlib.Core.List.{List, ◌∷◌, ◌++◌, map, Memᴰ}
use Prim.Native.Nat.{ℕ, zero, suc, ◌+◌, ◌≤◌, ◌<◌}
use native.Mathlib.Nat.{add-zero, add-suc, suc-add, zero-add}
use native.Mathlib.Omega.{arith}
use native.Mathlib.Decide.{dec_lt}
use lib.ListN.{length}
use Rattle.laws.specs.Lists.{Distinct, none, one, rising}

pub rising_above : (k n v : ℕ) → Memᴰ v (rising k n) → k ≤ v
unfolding rising
rising_above k zero v m = absurd (Memᴰ.not-nil m)
rising_above k (suc n) v m =
    ⊎_elim (λ (e : v ≡ k). omega arith) (λ (i : Memᴰ v (rising (suc k) n)). let h = rising_above (suc k) n v i in omega arith) (Memᴰ.cases_cons m)

pub rising_below : (k n : ℕ) {v : ℕ} → Memᴰ v (rising k n) → v < k + n
unfolding rising
rising_below k zero m = absurd (Memᴰ.not-nil m)
rising_below k (suc n) {v} m =
    ⊎_elim (λ (e : v ≡ k). omega arith) (λ (i : Memᴰ v (rising (suc k) n)). let h = rising_below (suc k) n i in omega arith) (Memᴰ.cases_cons m)

pub rising_distinct : (k n : ℕ) → Distinct (rising k n)
unfolding rising
rising_distinct k zero = none
rising_distinct k (suc n) = one (λ m. let h = rising_above (suc k) n k m in omega arith) (rising_distinct (suc k) n)

pub mem_rising : (k n v : ℕ) → k ≤ v → v < k + n → Memᴰ v (rising k n)
unfolding rising
mem_rising k zero v h l = absurd (omega arith)
mem_rising k (suc n) v h l = go (λ i. mem_rising (suc k) n v i (omega arith)) (dec_lt k v)
  where
    go : (k < v → Memᴰ v (rising (suc k) n)) → Dec (k < v) → Memᴰ v (k ∷ rising (suc k) n)
    go below (yes i) = Memᴰ.tail (below i)
    go below (no i) = let e : v ≡ k = omega arith in Memᴰ.head e

pub rising_length : (k n : ℕ) → length (rising k n) ≡ n
unfolding rising
rising_length k zero = refl
rising_length k (suc n) = ap suc (rising_length (suc k) n)

pub rising_append : (k a b : ℕ) → rising k (a + b) ≡ rising k a ++ rising (k + a) b
unfolding rising
rising_append k zero b = rw (zero-add b, add-zero k)
rising_append k (suc a) b =
    ap (rising k) (suc-add a b)
    ∙ ap (λ (xs : List ℕ). k ∷ xs) (rising_append (suc k) a b ∙ ap (λ (m : ℕ). rising (suc k) a ++ rising m b) (suc-add k a ∙ sym (add-suc k a)))

pub rising_suc : (k n : ℕ) → rising (suc k) n ≡ map suc (rising k n)
unfolding rising
rising_suc k zero = refl
rising_suc k (suc n) = ap (λ (l : List ℕ). suc k ∷ l) (rising_suc (suc k) n)

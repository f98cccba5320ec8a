-- Laws of term rows: the arguments of a term one by one, and size and nesting without their bounds. Assumes nothing.
use mathlib.Core.Path.{◌≡◌, refl, sym, ap, ap₂, ◌∙◌}
use mathlib.Core.List.{List, [], ◌∷◌, Memᴰ}
use Prim.Native.Nat.{ℕ, zero, suc, max, ◌+◌, ◌*◌, ◌≤◌, ◌<◌}
use native.Mathlib.Nat.{add-zero, add-suc, suc-add}
use native.Mathlib.Numerals.{add-one}
use native.Mathlib.Omega.{arith}
use lib.ListN.{get_or, drop}
use lib.Seq.{drop-nil}
use Rattle.model.specs.Lists.{numbers_from}
use Rattle.model.specs.Term.{meeting}
use Rattle.laws.proofs.Places.{numbers_from_mem}
use Rattle.rows.specs.Making.{most}
use Rattle.tables.specs.Terms.{function_of, arity_of, argument_of, arguments_of, Ordered, total, size_within, size_at, nesting_within, nesting_at}

-- n numbers from a place on, from the j-th of them on
numbers_from_drop : (xs : List ℕ) (at n j : ℕ) → j < n → drop j (numbers_from xs at n) ≡ get_or xs (at + j) 0 ∷ drop (suc j) (numbers_from xs at n)
unfolding numbers_from
numbers_from_drop xs at zero j h = absurd (omega arith)
numbers_from_drop xs at (suc n) zero h = rw (add-zero at)
numbers_from_drop xs at (suc n) (suc j) h = numbers_from_drop xs (suc at) n j (omega arith) ∙ ap (λ (k : ℕ). get_or xs k 0 ∷ drop (suc j) (numbers_from xs (suc at) n)) (suc-add at j ∙ sym (add-suc at j))

numbers_from_end : (xs : List ℕ) (at n j : ℕ) → n ≤ j → drop j (numbers_from xs at n) ≡ []
unfolding numbers_from
numbers_from_end xs at zero j h = drop-nil j
numbers_from_end xs at (suc n) zero h = absurd (omega arith)
numbers_from_end xs at (suc n) (suc j) h = numbers_from_end xs (suc at) n j (omega arith)

pub arguments_of_more : (t : List ℕ) (i j : ℕ) → j < arity_of t i → drop j (arguments_of t i) ≡ argument_of t i j ∷ drop (j + 1) (arguments_of t i)
unfolding arguments_of
arguments_of_more t i j h =
    numbers_from_drop t (i * 10 + 2) (arity_of t i) j h
    ∙ ap (λ (k : ℕ). argument_of t i j ∷ drop k (numbers_from t (i * 10 + 2) (arity_of t i))) (sym (add-one j))

pub arguments_of_end : (t : List ℕ) (i j : ℕ) → arity_of t i ≤ j → drop j (arguments_of t i) ≡ []
unfolding arguments_of
arguments_of_end t i j h = numbers_from_end t (i * 10 + 2) (arity_of t i) j h

pub arguments_of_mem : (t : List ℕ) (i : ℕ) {a : ℕ} → Memᴰ a (arguments_of t i) → (j : ℕ) × (j < arity_of t i) × (a ≡ argument_of t i j)
unfolding arguments_of
arguments_of_mem t i m = numbers_from_mem t (i * 10 + 2) (arity_of t i) m

pub arguments_of_before : {n : ℕ} {t : List ℕ} → Ordered n t → (i a : ℕ) → i < n → Memᴰ a (arguments_of t i) → a < i
arguments_of_before {n} {t} o i a h m = let (j, k, e) = arguments_of_mem t i m in let b = o.before i j h k in omega arith

-- sums and greatest numbers over equal functions

total_agree : (f g : ℕ → ℕ) (xs : List ℕ) → ((x : ℕ) → Memᴰ x xs → f x ≡ g x) → total f xs ≡ total g xs
unfolding total
total_agree f g [] h = refl
total_agree f g (x ∷ xs) h = let p = h x (Memᴰ.head refl) in let q = total_agree f g xs (λ y m. h y (Memᴰ.tail m)) in λ i. p i + q i

-- every bound above the term's number gives the same

size_within_same : {n : ℕ} {t : List ℕ} → Ordered n t → (k m i : ℕ) → i < n → i < k → i < m → size_within k t i ≡ size_within m t i
unfolding size_within
size_within_same o zero m i h a b = absurd (omega arith)
size_within_same o (suc k) zero i h a b = absurd (omega arith)
size_within_same {n} {t} o (suc k) (suc m) i h a b =
    ap suc
    (total_agree (size_within k t) (size_within m t) (arguments_of t i)
    (λ x p. let l = arguments_of_before o i x h p in size_within_same o k m x (omega arith) (omega arith) (omega arith)))

pub size_at_is : {n : ℕ} {t : List ℕ} → Ordered n t → (i : ℕ) → i < n → size_at t i ≡ suc (total (size_at t) (arguments_of t i))
unfolding size_at size_within
size_at_is {n} {t} o i h =
    ap suc
    (total_agree (size_within i t) (size_at t) (arguments_of t i)
    (λ x p. let l = arguments_of_before o i x h p in size_within_same o i (suc x) x (omega arith) l (omega arith)))

pub most_agree : (f g : ℕ → ℕ) (xs : List ℕ) → ((x : ℕ) → Memᴰ x xs → f x ≡ g x) → most f xs ≡ most g xs
unfolding most
most_agree f g [] h = refl
most_agree f g (x ∷ xs) h = ap₂ max (h x (Memᴰ.head refl)) (most_agree f g xs (λ y m. h y (Memᴰ.tail m)))

nesting_within_same : {n : ℕ} {t : List ℕ} → Ordered n t → (f k m i : ℕ) → i < n → i < k → i < m → nesting_within k t f i ≡ nesting_within m t f i
unfolding nesting_within
nesting_within_same o f zero m i h a b = absurd (omega arith)
nesting_within_same o f (suc k) zero i h a b = absurd (omega arith)
nesting_within_same {n} {t} o f (suc k) (suc m) i h a b =
    ap (meeting f (function_of t i))
    (most_agree (nesting_within k t f) (nesting_within m t f) (arguments_of t i)
    (λ x p. let l = arguments_of_before o i x h p in nesting_within_same o f k m x (omega arith) (omega arith) (omega arith)))

pub nesting_at_is : {n : ℕ} {t : List ℕ} → Ordered n t → (f i : ℕ) → i < n → nesting_at t f i ≡ meeting f (function_of t i) (most (nesting_at t f) (arguments_of t i))
unfolding nesting_at nesting_within
nesting_at_is {n} {t} o f i h =
    ap (meeting f (function_of t i))
    (most_agree (nesting_within i t f) (nesting_at t f) (arguments_of t i)
    (λ x p. let l = arguments_of_before o i x h p in nesting_within_same o f i (suc x) x (omega arith) l (omega arith)))

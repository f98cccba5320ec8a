-- Decimal numbers and lines of the text: how long they are, and that every byte is below 128. Assumes nothing.
use mathlib.Core.Path.{◌≡◌, refl}
use mathlib.Core.Bool.{true, false}
use mathlib.Core.Logic.{◌⊎◌, inl, inr, ⊎_elim}
use mathlib.Core.List.Memᴰ
use mathlib.Core.List.{List, [], ◌∷◌, ◌++◌, Memᴰ}
use Prim.Native.Nat.{ℕ, zero, suc, ◌+◌, ◌*◌, ◌^◌, ◌/◌, ◌%◌, ◌≤◌, ◌<◌}
use native.Mathlib.Nat.{suc-mul, pow-suc, div-lt_iff_lt-mul, mod-lt}
use native.Mathlib.Omega.{arith}
use lib.Dec.{ltb}
use lib.ListN.{length, length-append}
use borrow.Author.Tests.{ltb-true, ltb-false}
use Rattle.model.specs.Lists.{collect}
use Rattle.model.specs.Text.{digits, decimal, line, lines}
use Rattle.laws.proofs.Bools.{case}
use Rattle.laws.proofs.Lists.{collect_mem}
use Rattle.laws_tables.specs.Lines.{spaced}

digits_one : (k n : ℕ) → ltb n 10 ≡ true → digits (suc k) n ≡ (48 + n) ∷ []
unfolding digits
digits_one k n e = rw (e, digits)

digits_more : (k n : ℕ) → ltb n 10 ≡ false → digits (suc k) n ≡ digits k (n / 10) ++ ((48 + n % 10) ∷ [])
unfolding digits
digits_more k n e = rw (e, digits)

-- how many digits

pub length_digits : (k n d : ℕ) → n < 10 ^ suc d → length (digits k n) ≤ suc d
unfolding digits
length_digits zero n d h = omega arith
length_digits (suc k) n d h = go d h (λ e l. length_digits k (n / 10) e l) (case (ltb n 10))
  where
    go : (d : ℕ) → n < 10 ^ suc d → ((e : ℕ) → n / 10 < 10 ^ suc e → length (digits k (n / 10)) ≤ suc e) → (ltb n 10 ≡ true) ⊎ (ltb n 10 ≡ false)
        → length (digits (suc k) n) ≤ suc d
    go d h below (inl e) = rw (digits_one k n e) (omega arith)
    go zero h below (inr e) = let l = ltb-false n 10 e in absurd (omega arith)
    go (suc d) h below (inr e) =
        let l = below d ((div-lt_iff_lt-mul (omega arith)).1 (rw (← pow-suc 10 (suc d)) h)) in
        rw (digits_more k n e, length-append) (omega arith)

pub length_digits_most : (k n : ℕ) → length (digits k n) ≤ k
unfolding digits
length_digits_most zero n = omega arith
length_digits_most (suc k) n = go (length_digits_most k (n / 10)) (case (ltb n 10))
  where
    go : length (digits k (n / 10)) ≤ k → (ltb n 10 ≡ true) ⊎ (ltb n 10 ≡ false) → length (digits (suc k) n) ≤ suc k
    go below (inl e) = rw (digits_one k n e) (omega arith)
    go below (inr e) = rw (digits_more k n e, length-append) (omega arith)

-- every byte of a text

abbrev pub Ascii : List ℕ → Type 0
Ascii xs = (x : ℕ) → Memᴰ x xs → x < 128

pub append_ascii : (xs ys : List ℕ) → Ascii xs → Ascii ys → Ascii (xs ++ ys)
append_ascii xs ys h k x m = ⊎_elim (λ (i : Memᴰ x xs). h x i) (λ (i : Memᴰ x ys). k x i) (Memᴰ.append_cases xs m)

pub one_ascii : (x : ℕ) → x < 128 → Ascii (x ∷ [])
one_ascii x h y m = let e = Memᴰ.eq_of_singleton m in omega arith

pub digits_ascii : (k n : ℕ) → Ascii (digits k n)
unfolding digits
digits_ascii zero n = λ x m. absurd (Memᴰ.not-nil m)
digits_ascii (suc k) n = go (digits_ascii k (n / 10)) (case (ltb n 10))
  where
    go : Ascii (digits k (n / 10)) → (ltb n 10 ≡ true) ⊎ (ltb n 10 ≡ false) → Ascii (digits (suc k) n)
    go below (inl e) = rw (digits_one k n e) (let h = ltb-true n 10 e in one_ascii (48 + n) (omega arith))
    go below (inr e) =
        rw (digits_more k n e)
        (let h : n % 10 < 10 = mod-lt n (omega arith) in append_ascii (digits k (n / 10)) ((48 + n % 10) ∷ []) below (one_ascii (48 + n % 10) (omega arith)))

pub decimal_ascii : (n : ℕ) → Ascii (decimal n)
unfolding decimal
decimal_ascii n = digits_ascii 20 n

spaced_ascii : (ns : List ℕ) → Ascii (spaced ns)
spaced_ascii ns x m =
    let (n, i, k) = collect_mem (λ (n : ℕ). 32 ∷ decimal n) ns m in
    ⊎_elim (λ (e : x ≡ 32). omega arith) (λ (j : Memᴰ x (decimal n)). decimal_ascii n x j) (Memᴰ.cases_cons k)

pub line_ascii : (word ns : List ℕ) → Ascii word → Ascii (line word ns)
unfolding line
line_ascii word ns h = append_ascii word (spaced ns ++ (10 ∷ [])) h (append_ascii (spaced ns) (10 ∷ []) (spaced_ascii ns) (one_ascii 10 (omega arith)))

pub lines_ascii : (f : ℕ → List ℕ) → ((i : ℕ) → Ascii (f i)) → (n i : ℕ) → Ascii (lines f n i)
unfolding lines
lines_ascii f h zero i = λ x m. absurd (Memᴰ.not-nil m)
lines_ascii f h (suc n) i = append_ascii (f i) (lines f n (suc i)) (h i) (lines_ascii f h n (suc i))

-- how long a line is

pub length_line : (word ns : List ℕ) → length (line word ns) ≡ length word + length (spaced ns) + 1
unfolding line
length_line word ns = rw (length-append, length-append) (omega arith)

pub length_spaced_cons : (n : ℕ) (ns : List ℕ) (d : ℕ) → n < 10 ^ suc d → length (spaced (n ∷ ns)) ≤ suc (suc d) + length (spaced ns)
unfolding collect decimal
length_spaced_cons n ns d h = let k = length_digits 20 n d h in rw length-append (omega arith)

-- whatever the number is
pub length_spaced_most : (n : ℕ) (ns : List ℕ) → length (spaced (n ∷ ns)) ≤ 21 + length (spaced ns)
unfolding collect decimal
length_spaced_most n ns = let k = length_digits_most 20 n in rw length-append (omega arith)

pub length_spaced : (ns : List ℕ) (d : ℕ) → ((n : ℕ) → Memᴰ n ns → n < 10 ^ suc d) → length (spaced ns) ≤ length ns * suc (suc d)
unfolding collect
length_spaced [] d h = omega arith
length_spaced (n ∷ ns) d h =
    let k = length_spaced_cons n ns d (h n (Memᴰ.head refl)) in
    let l = length_spaced ns d (λ m i. h m (Memᴰ.tail i)) in
    rw (suc-mul (length ns) (suc (suc d))) (omega arith)

-- lines i, i + 1 and so on, none longer than w
pub length_lines : (f : ℕ → List ℕ) (w n i : ℕ) → ((j : ℕ) → i ≤ j → j < i + n → length (f j) ≤ w) → length (lines f n i) ≤ n * w
unfolding lines
length_lines f w zero i h = omega arith
length_lines f w (suc n) i h =
    let k = h i (omega arith) (omega arith) in
    let l = length_lines f w n (suc i) (λ j p q. h j (omega arith) (omega arith)) in
    rw (suc-mul n w, length-append (f i) (lines f n (suc i))) (omega arith)

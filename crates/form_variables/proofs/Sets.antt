-- Laws of sets of variables as numbers. Assumes nothing.
use mathlib.Core.Path.{◌≡◌, refl, sym, ap, ap₂, ◌∙◌}
use mathlib.Core.Bool.{Bool, true, false, ◌&&◌, ◌||◌, not}
use mathlib.Core.List.{List, [], ◌∷◌, ◌++◌, append-nil}
use Prim.Native.Nat.compare
use Prim.Native.Nat.{ℕ, zero, suc, ◌+◌, ◌-◌, ◌*◌, ◌/◌, ◌%◌, ◌^◌, ◌≤◌, ◌<◌, max, min}
use native.Mathlib.Nat.{pow-suc, div-one, div-div-eq-div-mul, mul_comm}
use native.Mathlib.Decide.{dec_lt}
use native.Mathlib.Omega.{arith}
use lib.Dec.{eqb}
use lib.Bits.{bit_or, bit_and, or_step, or_zero_l, or_zero_r, and_step}
use borrow.Author.Tests.{eq-eqb, ne_eqb}
use Rattle.model.specs.Lists.{any, collect, member}
use Rattle.laws.proofs.Bools.{not_both}
use Rattle.laws.proofs.Lists.{collect_append}
use Rattle.form_variables.specs.Sets.{set_of, has}

or_halves : (a b : ℕ) → (bit_or a b / 2 ≡ bit_or (a / 2) (b / 2)) × (bit_or a b % 2 ≡ max (a % 2) (b % 2))
or_halves a b = go (bit_or a b) (bit_or (a / 2) (b / 2)) (or_step a b)
  where
    go : (x y : ℕ) → x ≡ y * 2 + max (a % 2) (b % 2) → (x / 2 ≡ y) × (x % 2 ≡ max (a % 2) (b % 2))
    go x y e = (omega arith, omega arith)

or_assoc_to : (d a b c : ℕ) → a ≤ d → b ≤ d → c ≤ d → bit_or (bit_or a b) c ≡ bit_or a (bit_or b c)
or_assoc_to zero a b c h i j =
    let e : a ≡ 0 = omega arith in
    let f : b ≡ 0 = omega arith in
    rw (e, f, or_zero_l, or_zero_l)
or_assoc_to (suc d) a b c h i j = or_step (bit_or a b) c ∙ go (or_assoc_to d (a / 2) (b / 2) (c / 2) (omega arith) (omega arith) (omega arith)) ∙ sym (or_step a (bit_or b c))
  where
    go : bit_or (bit_or (a / 2) (b / 2)) (c / 2) ≡ bit_or (a / 2) (bit_or (b / 2) (c / 2))
        → bit_or (bit_or a b / 2) (c / 2) * 2 + max (bit_or a b % 2) (c % 2) ≡ bit_or (a / 2) (bit_or b c / 2) * 2 + max (a % 2) (bit_or b c % 2)
    go e =
        let m : max (max (a % 2) (b % 2)) (c % 2) ≡ max (a % 2) (max (b % 2) (c % 2)) = omega arith in
        rw ((or_halves a b).0, (or_halves a b).1, (or_halves b c).0, (or_halves b c).1, e, m)

pub or_assoc : (a b c : ℕ) → bit_or (bit_or a b) c ≡ bit_or a (bit_or b c)
or_assoc a b c = or_assoc_to (a + b + c) a b c (omega arith) (omega arith) (omega arith)

pub set_of_append : (xs ys : List ℕ) → set_of (xs ++ ys) ≡ bit_or (set_of xs) (set_of ys)
unfolding set_of
set_of_append [] ys = sym (or_zero_l (set_of ys))
set_of_append (x ∷ xs) ys = ap (bit_or (2 ^ x)) (set_of_append xs ys) ∙ sym (or_assoc (2 ^ x) (set_of xs) (set_of ys))

pub set_of_one : (v : ℕ) → set_of (v ∷ []) ≡ 2 ^ v
unfolding set_of
set_of_one v = or_zero_r (2 ^ v)

-- the digit of a variable, as the code computes it
pub digit : (v : ℕ) → v ≤ 7 → 1 * 2 ^ v % 256 ≡ 2 ^ v
digit zero h = refl
digit (suc zero) h = refl
digit (suc (suc zero)) h = refl
digit (suc (suc (suc zero))) h = refl
digit (suc (suc (suc (suc zero)))) h = refl
digit (suc (suc (suc (suc (suc zero))))) h = refl
digit (suc (suc (suc (suc (suc (suc zero)))))) h = refl
digit (suc (suc (suc (suc (suc (suc (suc zero))))))) h = refl
digit (suc (suc (suc (suc (suc (suc (suc (suc v)))))))) h = absurd (omega arith)

-- one variable more
pub set_of_more : (vs : List ℕ) (s v : ℕ) → v ≤ 7 → set_of vs ≡ s → set_of (vs ++ (v ∷ [])) ≡ bit_or s (1 * 2 ^ v % 256)
set_of_more vs s v h e = set_of_append vs (v ∷ []) ∙ rw (set_of_one v, digit v h, e)

-- the variables of one part more
pub set_of_collect_more : {A : Type 0} (f : A → List ℕ) (xs : List A) (x : A) (s t : ℕ) → set_of (collect f xs) ≡ s → t ≡ set_of (f x)
    → set_of (collect f (xs ++ (x ∷ []))) ≡ bit_or s t
unfolding collect
set_of_collect_more f xs x s t e h =
    ap set_of (collect_append f xs (x ∷ []) ∙ ap (λ (ys : List ℕ). collect f xs ++ ys) (append-nil (f x)))
    ∙ set_of_append (collect f xs) (f x)
    ∙ ap₂ bit_or e (sym h)

-- the elements of a set, digit by digit

digit_max : (x y : ℕ) → x < 2 → y < 2 → eqb (max x y) 1 ≡ eqb x 1 || eqb y 1
digit_max zero zero h k = refl
digit_max zero (suc zero) h k = refl
digit_max zero (suc (suc y)) h k = absurd (omega arith)
digit_max (suc zero) zero h k = refl
digit_max (suc zero) (suc zero) h k = refl
digit_max (suc zero) (suc (suc y)) h k = absurd (omega arith)
digit_max (suc (suc x)) y h k = absurd (omega arith)

digit_min : (x y : ℕ) → x < 2 → y < 2 → eqb (min x y) 1 ≡ eqb x 1 && eqb y 1
digit_min zero zero h k = refl
digit_min zero (suc zero) h k = refl
digit_min zero (suc (suc y)) h k = absurd (omega arith)
digit_min (suc zero) zero h k = refl
digit_min (suc zero) (suc zero) h k = refl
digit_min (suc zero) (suc (suc y)) h k = absurd (omega arith)
digit_min (suc (suc x)) y h k = absurd (omega arith)

and_halves : (a b : ℕ) → (bit_and a b / 2 ≡ bit_and (a / 2) (b / 2)) × (bit_and a b % 2 ≡ min (a % 2) (b % 2))
and_halves a b = go (bit_and a b) (bit_and (a / 2) (b / 2)) (and_step a b)
  where
    go : (x y : ℕ) → x ≡ y * 2 + min (a % 2) (b % 2) → (x / 2 ≡ y) × (x % 2 ≡ min (a % 2) (b % 2))
    go x y e = (omega arith, omega arith)

pub has_or : (a b v : ℕ) → has (bit_or a b) v ≡ has a v || has b v
unfolding has
has_or a b zero = rw (or_halves a b).1 (digit_max (a % 2) (b % 2) (omega arith) (omega arith))
has_or a b (suc v) = rw (or_halves a b).0 (has_or (a / 2) (b / 2) v)

pub has_and : (a b v : ℕ) → has (bit_and a b) v ≡ has a v && has b v
unfolding has
has_and a b zero = rw (and_halves a b).1 (digit_min (a % 2) (b % 2) (omega arith) (omega arith))
has_and a b (suc v) = rw (and_halves a b).0 (has_and (a / 2) (b / 2) v)

pub has_zero : (v : ℕ) → has 0 v ≡ false
unfolding has
has_zero zero = refl
has_zero (suc v) = has_zero v

pub has_digit : (w v : ℕ) → has (2 ^ w) v ≡ eqb v w
unfolding has
has_digit zero zero = refl
has_digit zero (suc v) = has_zero v ∙ sym (ne_eqb (suc v) 0 (omega arith))
has_digit (suc w) zero = let e : 2 ^ suc w % 2 ≡ 0 = omega (arith, pow-suc 2 w) in ap (λ (x : ℕ). eqb x 1) e ∙ sym (ne_eqb 0 (suc w) (omega arith))
has_digit (suc w) (suc v) = let e : 2 ^ suc w / 2 ≡ 2 ^ w = omega (arith, pow-suc 2 w) in rw (e, compare.suc-suc) (has_digit w v)

pub has_set_of : (vs : List ℕ) (v : ℕ) → has (set_of vs) v ≡ member v vs
unfolding set_of member any
has_set_of [] v = has_zero v
has_set_of (w ∷ vs) v = has_or (2 ^ w) (set_of vs) v ∙ rw (has_digit, has_set_of vs v)

-- a set that is not empty has an element

pub has_some : (d x : ℕ) → x ≤ d → 0 < x → (v : ℕ) × (has x v ≡ true)
unfolding has
has_some zero x h k = absurd (omega arith)
has_some (suc d) x h k = go (λ i. has_some d (x / 2) (omega arith) i) (dec_lt 0 (x % 2))
  where
    go : (0 < x / 2 → (v : ℕ) × (has (x / 2) v ≡ true)) → Dec (0 < x % 2) → (v : ℕ) × (has x v ≡ true)
    go below (yes i) = (0, eq-eqb (x % 2) 1 (omega arith))
    go below (no i) = let (v, e) = below (omega arith) in (suc v, e)

-- `x == 0`, by what the set has

pub empty_is : (x : ℕ) (b : Bool) → ((v : ℕ) → has x v ≡ true → b ≡ true) → (b ≡ true → (v : ℕ) × (has x v ≡ true)) → eqb x 0 ≡ not b
empty_is x b f g = go b (dec_lt 0 x) f g
  where
    go : (b : Bool) → Dec (0 < x) → ((v : ℕ) → has x v ≡ true → b ≡ true) → (b ≡ true → (v : ℕ) × (has x v ≡ true)) → eqb x 0 ≡ not b
    go true (yes h) f g = ne_eqb x 0 (omega arith)
    go true (no h) f g = let (v, e) = g refl in not_both (has x v) e (ap (λ (y : ℕ). has y v) (omega arith) ∙ has_zero v)
    go false (yes h) f g = let (v, e) = has_some x x (omega arith) h in not_both false (f v e) refl
    go false (no h) f g = eq-eqb x 0 (omega arith)

-- the complement in eight digits, and what lies beyond them

pub has_beyond : (k x v : ℕ) → x < 2 ^ k → k ≤ v → has x v ≡ false
unfolding has
has_beyond zero x v h l = let e : x ≡ 0 = omega arith in rw e (has_zero v)
has_beyond (suc k) x zero h l = absurd (omega arith)
has_beyond (suc k) x (suc v) h l = has_beyond k (x / 2) v (omega (arith, pow-suc 2 k)) (omega arith)

pub has_complement : (k x v : ℕ) → x < 2 ^ k → v < k → has (2 ^ k - 1 - x) v ≡ not (has x v)
unfolding has
has_complement zero x v h l = absurd (omega arith)
has_complement (suc k) x zero h l = go (x % 2) refl
  where
    other : (2 ^ suc k - 1 - x) % 2 ≡ 1 - x % 2
    other = omega (arith, pow-suc 2 k)

    go : (d : ℕ) → x % 2 ≡ d → eqb ((2 ^ suc k - 1 - x) % 2) 1 ≡ not (eqb (x % 2) 1)
    go zero e = rw (other, e)
    go (suc zero) e = rw (other, e)
    go (suc (suc d)) e = absurd (omega arith)
has_complement (suc k) x (suc v) h l =
    let e : (2 ^ suc k - 1 - x) / 2 ≡ 2 ^ k - 1 - x / 2 = omega (arith, pow-suc 2 k) in
    rw e (has_complement k (x / 2) v (omega (arith, pow-suc 2 k)) (omega arith))

-- the digit of a variable, shifted down
pub has_shifted : (x v : ℕ) → has x v ≡ eqb (x / 2 ^ v % 2) 1
unfolding has
has_shifted x zero = ap (λ (y : ℕ). eqb (y % 2) 1) (sym (div-one x))
has_shifted x (suc v) =
    has_shifted (x / 2) v ∙ ap (λ (y : ℕ). eqb (y % 2) 1) (div-div-eq-div-mul x 2 (2 ^ v) ∙ ap (λ (y : ℕ). x / y) (mul_comm 2 (2 ^ v) ∙ sym (pow-suc 2 v)))

-- Decimal digits as the loops meet them: counted from the left, written from the right. Assumes nothing.
use mathlib.Core.Path.{◌≡◌, refl, sym, ap, ◌∙◌}
use mathlib.Core.Bool.{true, false}
use mathlib.Core.Logic.{◌⊎◌, inl, inr}
use mathlib.Core.List.{List, [], ◌∷◌, ◌++◌}
use Prim.Native.Nat.{ℕ, zero, suc, ◌+◌, ◌-◌, ◌^◌, ◌/◌, ◌%◌, ◌≤◌, ◌<◌}
use native.Mathlib.Nat.{pow-suc, div-lt_iff_lt-mul}
use native.Mathlib.Omega.{arith}
use lib.Dec.{ltb}
use lib.ListN.{length, get_or, take, drop, set, length-append}
use lib.Seq.{take-suc, take-length, drop-length, take_at, get_or_at, drop-cons, length-take-le}
use borrow.Author.Tests.{lt-ltb, le-ltb, ltb-true, ltb-false}
use Rattle.model.specs.Text.{digits, decimal}
use Rattle.tables.specs.Rows.{written}
use Rattle.laws.proofs.Bools.{case}
use Rattle.text.specs.Writing.{Room}
use Rattle.text.proofs.Writing.{written_none, written_before}

digits_small : (k n : ℕ) → n < 10 → digits (suc k) n ≡ (48 + n) ∷ []
unfolding digits
digits_small k n h = rw (lt-ltb n 10 h, digits)

digits_large : (k n : ℕ) → 10 ≤ n → digits (suc k) n ≡ digits k (n / 10) ++ ((48 + n % 10) ∷ [])
unfolding digits
digits_large k n h = rw (le-ltb n 10 h, digits)

-- the digits of n are those of what is left of it, and `count` less one that were passed
pub record Counting (n count rest : ℕ) : Type 0 where
  pub more : ℕ
  pub places : count + more ≡ 20
  pub small : rest < 10 ^ suc more
  pub passed : suc (length (decimal n)) ≡ count + length (digits (suc more) rest)

pub counting_start : (n : ℕ) → n < 2 ^ 64 → Counting n 1 n
unfolding decimal
counting_start n h = record { more = 19; places = refl; small = omega arith; passed = omega arith }

pub counting_more : {n count rest : ℕ} → Counting n count rest → 10 ≤ rest → Counting n (count + 1) (rest / 10)
counting_more {n} {count} {rest} c h = go c.more c.places c.small c.passed
  where
    go : (more : ℕ) → count + more ≡ 20 → rest < 10 ^ suc more → suc (length (decimal n)) ≡ count + length (digits (suc more) rest) → Counting n (count + 1) (rest / 10)
    go zero p s e = absurd (omega arith)
    go (suc more) p s e =
        record {
          more = more;
          places = omega arith;
          small = (div-lt_iff_lt-mul {k = 10} (omega arith)).1 (rw (← pow-suc 10 (suc more)) s);
          passed = let l = rw (digits_large (suc more) rest h, length-append) at e in omega arith;
        }

pub counting_end : {n count rest : ℕ} → Counting n count rest → rest < 10 → count ≡ length (decimal n)
counting_end {n} {count} {rest} c h = let e = rw (digits_small c.more rest h) at c.passed in omega arith

-- the digits from the i-th on are written; those before it are the digits of what is left of n
pub record Spelling (n at : ℕ) (out₀ out : List ℕ) (i rest : ℕ) : Type 0 where
  pub within : i ≤ length (decimal n)
  pub left : out ≡ written (drop i (decimal n)) (at + i) out₀
  pub ahead : 0 < i → (k : ℕ) × (take i (decimal n) ≡ digits (suc k) rest)

pub spelling_start : (n at : ℕ) (out : List ℕ) → Spelling n at out out (length (decimal n)) n
unfolding decimal
spelling_start n at out =
    record {
      within = omega arith;
      left = rw (drop-length (decimal n)) (written_none (at + length (decimal n)) out);
      ahead = λ h. (19, take-length (decimal n));
    }

snoc_apart : (xs ys : List ℕ) (x y : ℕ) → xs ++ (x ∷ []) ≡ ys ++ (y ∷ []) → (xs ≡ ys) × (x ≡ y)
snoc_apart xs ys x y e =
    let m : length xs + 1 ≡ length ys + 1 = sym (length-append xs (x ∷ [])) ∙ ap length e ∙ length-append ys (y ∷ []) in
    let l : length ys ≡ length xs = omega arith in (
      sym (take_at xs (x ∷ []) (length xs) refl) ∙ ap (take (length xs)) e ∙ take_at ys (y ∷ []) (length xs) l,
      sym (get_or_at xs x [] 0 (length xs) refl) ∙ ap (λ (zs : List ℕ). get_or zs (length xs) 0) e ∙ get_or_at ys y [] 0 (length xs) l,
    )

-- the last of the digits, and those before it
abbrev Ends : List ℕ → ℕ → ℕ → Type 0
Ends xs j rest = (get_or xs j 0 ≡ 48 + rest % 10) × (0 < j → (k : ℕ) × (take j xs ≡ digits (suc k) (rest / 10)))

ends_small : (xs : List ℕ) (j k rest : ℕ) → j < length xs → rest < 10 → take j xs ++ (get_or xs j 0 ∷ []) ≡ digits (suc k) rest → Ends xs j rest
ends_small xs j k rest h l e =
    let (p, q) = snoc_apart (take j xs) [] (get_or xs j 0) (48 + rest) (e ∙ digits_small k rest l) in
    let n : j ≡ 0 = sym (length-take-le j xs (omega arith)) ∙ ap length p in
    (omega arith, λ m. absurd (omega arith))

ends_large : (xs : List ℕ) (j k rest : ℕ) → j < length xs → 10 ≤ rest → take j xs ++ (get_or xs j 0 ∷ []) ≡ digits (suc k) rest → Ends xs j rest
unfolding digits
ends_large xs j zero rest h l e =
    let (p, q) = snoc_apart (take j xs) [] (get_or xs j 0) (48 + rest % 10) (e ∙ digits_large zero rest l) in
    let n : j ≡ 0 = sym (length-take-le j xs (omega arith)) ∙ ap length p in
    (q, λ m. absurd (omega arith))
ends_large xs j (suc k) rest h l e =
    let (p, q) = snoc_apart (take j xs) (digits (suc k) (rest / 10)) (get_or xs j 0) (48 + rest % 10) (e ∙ digits_large (suc k) rest l) in
    (q, λ m. (k, p))

ends : (xs : List ℕ) (j k rest : ℕ) → j < length xs → take (suc j) xs ≡ digits (suc k) rest → Ends xs j rest
ends xs j k rest h e = go (case (ltb rest 10))
  where
    apart : take j xs ++ (get_or xs j 0 ∷ []) ≡ digits (suc k) rest
    apart = sym (take-suc xs j 0 h) ∙ e

    go : (ltb rest 10 ≡ true) ⊎ (ltb rest 10 ≡ false) → Ends xs j rest
    go (inl t) = ends_small xs j k rest h (ltb-true rest 10 t) apart
    go (inr t) = ends_large xs j k rest h (ltb-false rest 10 t) apart

pub spelling_more : {n at : ℕ} {out₀ out : List ℕ} {i rest : ℕ} → Spelling n at out₀ out i rest → Room (decimal n) at out₀ → 0 < i
    → Spelling n at out₀ (set out (at + (i - 1)) (48 + rest % 10)) (i - 1) (rest / 10)
spelling_more {n} {at} {out₀} {out} {i} {rest} s room h = go (i - 1) (omega arith)
  where
    go : (j : ℕ) → i ≡ suc j → Spelling n at out₀ (set out (at + j) (48 + rest % 10)) j (rest / 10)
    go j e =
        let w = s.within in
        let (k, a) = s.ahead h in
        let (x, f) = ends (decimal n) j k rest (omega arith) (ap (λ (m : ℕ). take m (decimal n)) (sym e) ∙ a) in
        let p : at + i ≡ suc (at + j) = omega arith in
        let d : drop j (decimal n) ≡ (48 + rest % 10) ∷ drop i (decimal n) =
        drop-cons (decimal n) j 0 (omega arith) ∙ ap (λ (y : ℕ). y ∷ drop (suc j) (decimal n)) x ∙ ap (λ (m : ℕ). (48 + rest % 10) ∷ drop m (decimal n)) (sym e)
        in
        record {
          within = omega arith;
          left =
              ap (λ (xs : List ℕ). set xs (at + j) (48 + rest % 10)) (s.left ∙ ap (λ (m : ℕ). written (drop i (decimal n)) m out₀) p)
              ∙ written_before (48 + rest % 10) (drop i (decimal n)) (at + j) out₀ (omega arith)
              ∙ ap (λ (xs : List ℕ). written xs (at + j) out₀) (sym d);
          ahead = f;
        }

pub spelling_end : {n at : ℕ} {out₀ out : List ℕ} {i rest : ℕ} → Spelling n at out₀ out i rest → i ≡ 0 → out ≡ written (decimal n) at out₀
spelling_end {n} {at} {out₀} {i = i} s e =
    let p : at + i ≡ at = omega arith in
    s.left ∙ ap (λ (m : ℕ). written (drop i (decimal n)) m out₀) p ∙ ap (λ (m : ℕ). written (drop m (decimal n)) at out₀) e

-- Laws of lists that are gone through with numbers: what is in them, their image, and when they rise. Assumes nothing.
use mathlib.Core.Path.{◌≡◌, refl, sym, ap, ap₂, ◌∙◌, subst}
use mathlib.Core.Logic.{◌⊎◌, inl, inr}
use mathlib.Core.List.Memᴰ
use mathlib.Core.List.{List, [], ◌∷◌, ◌++◌, map, Memᴰ, map-append}
use Prim.Native.Nat.{ℕ, suc, ◌+◌, ◌<◌}
use native.Mathlib.Nat.{add-zero, zero-add}
use native.Mathlib.Omega.{arith}
use lib.ListN.{get_or, drop}
use Rattle.model.specs.Lists.{collect}
use Rattle.model.specs.Order.{At, here, there, numbered, Less, at_first, later}
use Rattle.laws.specs.Lists.{Rises, rises_none}
use Rattle.laws.proofs.Rises.{rises_append}

-- lexicographic order is strict

less_differ : (xs ys : List ℕ) → Less xs ys → xs ≡ ys → ⊥
less_differ [] ys x'' e = elim x'' [ ]
less_differ (x ∷ xs) [] x6 e = elim x6 [ ]
less_differ (x ∷ xs) (y ∷ ys) (at_first h) e =
    let first : x ≡ y = ap (λ (zs : List ℕ). get_or zs 0 0) e in
    omega arith
less_differ (x ∷ xs) (y ∷ ys) (later l) e = less_differ xs ys l (ap (drop 1) e)

pub less_irreflexive : (xs : List ℕ) → Less xs xs → ⊥
less_irreflexive xs l = less_differ xs xs l refl

pub less_transitive : {xs ys zs : List ℕ} → Less xs ys → Less ys zs → Less xs zs
less_transitive (at_first {x = x} h) (at_first {y = z} k) = let l : x < z = omega arith in at_first l
less_transitive (at_first h) (later l) = at_first h
less_transitive (later l) (at_first k) = at_first k
less_transitive (later l) (later m) = later (less_transitive l m)

-- with the same numbers in front, and with any behind

pub less_prefix : (xs : List ℕ) {ys zs : List ℕ} → Less ys zs → Less (xs ++ ys) (xs ++ zs)
less_prefix [] l = l
less_prefix (x ∷ xs) l = later (less_prefix xs l)

pub less_append : {xs ys : List ℕ} → Less xs ys → (us vs : List ℕ) → Less (xs ++ us) (ys ++ vs)
less_append (at_first h) us vs = at_first h
less_append (later l) us vs = later (less_append l us vs)

module _ {A B : Type 0} (f : ℕ → A → List B) where
  pub numbered_mem : (n : ℕ) (xs : List A) {y : B} → Memᴰ y (numbered f n xs) → (i : ℕ) × (x : A) × At xs i x × Memᴰ y (f (n + i) x)
  unfolding numbered
  numbered_mem n [] m = absurd (Memᴰ.not-nil m)
  numbered_mem n (x ∷ xs) {y} m = go (λ k. numbered_mem (suc n) xs k) (Memᴰ.append_cases (f n x) m)
    where
      go : (Memᴰ y (numbered f (suc n) xs) → (i : ℕ) × (z : A) × At xs i z × Memᴰ y (f (suc n + i) z))
          → Memᴰ y (f n x) ⊎ Memᴰ y (numbered f (suc n) xs) → (i : ℕ) × (z : A) × At (x ∷ xs) i z × Memᴰ y (f (n + i) z)
      go below (inl k) = (0, x, here, subst (λ (j : ℕ). Memᴰ y (f j x)) (sym (add-zero n)) k)
      go below (inr k) =
          let (i, z, a, q) = below k in
          let e : suc n + i ≡ n + suc i = omega arith in
          (suc i, z, there a, subst (λ (j : ℕ). Memᴰ y (f j z)) e q)

  pub mem_numbered : (n : ℕ) {xs : List A} {i : ℕ} {x : A} → At xs i x → {y : B} → Memᴰ y (f (n + i) x) → Memᴰ y (numbered f n xs)
  unfolding numbered
  mem_numbered n (here {x = x} {xs = xs}) {y} m = Memᴰ.append_left (numbered f (suc n) xs) (subst (λ (j : ℕ). Memᴰ y (f j x)) (add-zero n) m)
  mem_numbered n (there {x = x} {y = z} {xs = xs} {i = i} a) {y} m =
      let e : n + suc i ≡ suc n + i = omega arith in
      Memᴰ.append_right (f n z) (mem_numbered (suc n) a (subst (λ (j : ℕ). Memᴰ y (f j x)) e m))

  pub map_numbered : {C : Type 0} (g : B → C) (h : A → List C) → ((n : ℕ) (x : A) → map g (f n x) ≡ h x) → (n : ℕ) (xs : List A) → map g (numbered f n xs) ≡ collect h xs
  unfolding numbered collect
  map_numbered g h e n [] = refl
  map_numbered g h e n (x ∷ xs) = map-append g (f n x) (numbered f (suc n) xs) ∙ ap₂ ◌++◌ (e n x) (map_numbered g h e (suc n) xs)

  pub rises_numbered : {R : B → B → Type 0} → ((n : ℕ) (x : A) → Rises R (f n x))
      → ((i j : ℕ) (x y : A) → i < j → (v w : B) → Memᴰ v (f i x) → Memᴰ w (f j y) → R v w) → (n : ℕ) (xs : List A) → Rises R (numbered f n xs)
  unfolding numbered
  rises_numbered each across n [] = rises_none
  rises_numbered each across n (x ∷ xs) =
      rises_append (f n x) (numbered f (suc n) xs) (each n x) (rises_numbered each across (suc n) xs)
      (λ v w p q. let (i, y, a, k) = numbered_mem (suc n) xs q in across n (suc n + i) x y (omega arith) v w p k)

  -- numbers from 0 on

  pub numbered_at_is : (xs : List A) {y : B} → Memᴰ y (numbered f 0 xs) → (i : ℕ) × (x : A) × At xs i x × Memᴰ y (f i x)
  numbered_at_is xs {y} m = let (i, x, a, k) = numbered_mem 0 xs m in (i, x, a, subst (λ (j : ℕ). Memᴰ y (f j x)) (zero-add i) k)

  pub at_numbered : {xs : List A} {i : ℕ} {x : A} → At xs i x → {y : B} → Memᴰ y (f i x) → Memᴰ y (numbered f 0 xs)
  at_numbered {i = i} {x = x} a {y} m = mem_numbered 0 a (subst (λ (j : ℕ). Memᴰ y (f j x)) (sym (zero-add i)) m)

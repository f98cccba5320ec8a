-- Lists that rise: put together, mapped, cut down; and the numbers of a list's elements. Assumes nothing.
use mathlib.Core.Path.{◌≡◌, refl, sym, subst}
use mathlib.Core.Bool.{Bool, true, false}
use mathlib.Core.Logic.{◌⊎◌, inl, inr}
use mathlib.Core.List.Memᴰ
use mathlib.Core.List.{List, [], ◌∷◌, ◌++◌, map, Memᴰ}
use Prim.Native.Nat.{suc, ◌<◌}
use native.Mathlib.Omega.{arith}
use Rattle.model.specs.Lists.{keep, index, collect}
use Rattle.laws.specs.Lists.{Distinct, none, one, Rises, rises_none, rises_one}
use Rattle.laws.proofs.Bools.{case, is_false}
use Rattle.laws.proofs.Lists.{Decides, keep_yes, keep_no, keep_mem, map_mem, collect_mem, index_here, index_there}

module _ {A : Type 0} {R : A → A → Type 0} where
  pub rises_append : (xs ys : List A) → Rises R xs → Rises R ys → ((x y : A) → Memᴰ x xs → Memᴰ y ys → R x y) → Rises R (xs ++ ys)
  rises_append [] ys rises_none s h = s
  rises_append (x ∷ xs) ys (rises_one n r) s h =
      rises_one (λ y m. each y (Memᴰ.append_cases xs m)) (rises_append xs ys r s (λ a b p q. h a b (Memᴰ.tail p) q))
    where
      each : (y : A) → Memᴰ y xs ⊎ Memᴰ y ys → R x y
      each y (inl m) = n y m
      each y (inr m) = h x y (Memᴰ.head refl) m

  pub rises_keep : (p : A → Bool) (xs : List A) → Rises R xs → Rises R (keep p xs)
  unfolding keep
  rises_keep p [] rises_none = rises_none
  rises_keep p (x ∷ xs) (rises_one n r) = go (case (p x)) (rises_keep p xs r)
    where
      go : (p x ≡ true) ⊎ (p x ≡ false) → Rises R (keep p xs) → Rises R (keep p (x ∷ xs))
      go (inl e) below = subst (Rises R) (sym (keep_yes p x xs e)) (rises_one (λ y m. n y (keep_mem p xs m).0) below)
      go (inr e) below = subst (Rises R) (sym (keep_no p x xs e)) below

  -- under another order, which agrees on the list's elements
  pub rises_as : {S : A → A → Type 0} (xs : List A) → Rises R xs → ((x y : A) → Memᴰ x xs → Memᴰ y xs → R x y → S x y) → Rises S xs
  rises_as [] rises_none h = rises_none
  rises_as (x ∷ xs) (rises_one n r) h =
      rises_one (λ y m. h x y (Memᴰ.head refl) (Memᴰ.tail m) (n y m)) (rises_as xs r (λ a b p q. h a b (Memᴰ.tail p) (Memᴰ.tail q)))

module _ {A B : Type 0} {R : B → B → Type 0} where
  pub rises_map : (f : A → B) (xs : List A) → Rises (λ x y. R (f x) (f y)) xs → Rises R (map f xs)
  rises_map f [] rises_none = rises_none
  rises_map f (x ∷ xs) (rises_one n r) =
      rises_one (λ y m. let (z, k, e) = map_mem f xs m in subst (R (f x)) (sym e) (n z k)) (rises_map f xs r)

  pub rises_collect : {S : A → A → Type 0} (f : A → List B) (xs : List A) → Rises S xs → ((x : A) → Memᴰ x xs → Rises R (f x))
      → ((x y : A) → S x y → (v w : B) → Memᴰ v (f x) → Memᴰ w (f y) → R v w) → Rises R (collect f xs)
  unfolding collect
  rises_collect f [] rises_none each h = rises_none
  rises_collect f (x ∷ xs) (rises_one n r) each h =
      rises_append (f x) (collect f xs) (each x (Memᴰ.head refl)) (rises_collect f xs r (λ y m. each y (Memᴰ.tail m)) h)
      (λ v w p q. let (y, k, i) = collect_mem f xs q in h x y (n y k) v w p i)

-- where nothing stands twice, an element's index is below those of all behind it
pub index_rises : {A : Type 0} (eq : A → A → Bool) → Decides eq → (xs : List A) → Distinct xs → Rises (λ x y. index eq x xs < index eq y xs) xs
index_rises eq dec [] none = rises_none
index_rises {A} eq dec (x ∷ xs) (one n d) =
    rises_one first (rises_as xs (index_rises eq dec xs d) rest)
  where
    moved : (y : A) → Memᴰ y xs → index eq y (x ∷ xs) ≡ suc (index eq y xs)
    moved y m = index_there eq dec y x xs (is_false (eq y x) (λ e. n (Memᴰ.cast (sym (dec.sound y x e)) m)))

    first : (y : A) → Memᴰ y xs → index eq x (x ∷ xs) < index eq y (x ∷ xs)
    first y m = let a = index_here eq dec x x xs (dec.complete x) in let b = moved y m in omega arith

    rest : (y z : A) → Memᴰ y xs → Memᴰ z xs → index eq y xs < index eq z xs → index eq y (x ∷ xs) < index eq z (x ∷ xs)
    rest y z p q l = let a = moved y p in let b = moved z q in omega arith

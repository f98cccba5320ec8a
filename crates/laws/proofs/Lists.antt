-- Laws of the list functions that the definitions share: which elements they have, in which order, and that none comes twice.
-- Assumes nothing.
use mathlib.Core.Path.{◌≡◌, refl, sym, ap, ◌∙◌, subst, ap₂}
use mathlib.Core.Bool.{Bool, true, false, ◌&&◌, ◌||◌, or_assoc}
use mathlib.Core.List.Memᴰ
use mathlib.Core.List.{List, [], ◌∷◌, ◌++◌, map, append_assoc, Memᴰ, map-append}
use mathlib.Core.Logic.{◌⊎◌, inl, inr, ⊎_elim}
use Prim.Native.Nat.{ℕ, zero, suc, ◌+◌, ◌≤◌, ◌<◌}
use native.Mathlib.Omega.{arith}
use lib.Dec.{eqb}
use lib.ListN.{length, get_or, take, drop, replicate, length-append, take-append-drop}
use borrow.Author.Tests.{eqb-true, eq-eqb}
use Rattle.model.specs.Lists.{all, any, keep, extend, index, collect, member}
use Rattle.laws.specs.Lists.{Distinct, none, one}
use Rattle.laws.proofs.Bools.{case, not_both, and_true, true_and, or_true, or_left, or_right, is_false}

module _ {ℓ} {A : Type ℓ} where
  -- `any`, `all` and `keep` by elements

  pub any_mem : (p : A → Bool) (xs : List A) → any p xs ≡ true → (x : A) × Memᴰ x xs × (p x ≡ true)
  unfolding any
  any_mem p [] h = not_both false h refl
  any_mem p (x ∷ xs) h = go (λ k. any_mem p xs k) (or_true (p x) (any p xs) h)
    where
      go : (any p xs ≡ true → (y : A) × Memᴰ y xs × (p y ≡ true)) → (p x ≡ true) ⊎ (any p xs ≡ true)
          → (y : A) × Memᴰ y (x ∷ xs) × (p y ≡ true)
      go below (inl e) = (x, Memᴰ.head refl, e)
      go below (inr e) = let (y, m, k) = below e in (y, Memᴰ.tail m, k)

  pub mem_any : (p : A → Bool) {x : A} {xs : List A} → Memᴰ x xs → p x ≡ true → any p xs ≡ true
  unfolding any
  mem_any p (Memᴰ.head {x = y} {xs = ys} e) h = or_left (p y) (any p ys) (ap p (sym e) ∙ h)
  mem_any p (Memᴰ.tail {x = y} {xs = ys} m) h = or_right (p y) (any p ys) (mem_any p m h)

  pub any_false : (p : A → Bool) {x : A} {xs : List A} → any p xs ≡ false → Memᴰ x xs → p x ≡ false
  any_false p {x} {xs} h m = is_false (p x) (λ e. not_both (any p xs) (mem_any p m e) h)

  pub false_any : (p : A → Bool) (xs : List A) → ((x : A) → Memᴰ x xs → p x ≡ false) → any p xs ≡ false
  false_any p xs h = is_false (any p xs) (λ e. let (x, m, k) = any_mem p xs e in not_both (p x) k (h x m))

  pub all_mem : (p : A → Bool) {x : A} {xs : List A} → all p xs ≡ true → Memᴰ x xs → p x ≡ true
  unfolding all
  all_mem p h (Memᴰ.head {x = y} {xs = ys} e) = ap p e ∙ (and_true (p y) (all p ys) h).0
  all_mem p h (Memᴰ.tail {x = y} {xs = ys} m) = all_mem p (and_true (p y) (all p ys) h).1 m

  pub mem_all : (p : A → Bool) (xs : List A) → ((x : A) → Memᴰ x xs → p x ≡ true) → all p xs ≡ true
  unfolding all
  mem_all p [] h = refl
  mem_all p (x ∷ xs) h = true_and (p x) (all p xs) (h x (Memᴰ.head refl)) (mem_all p xs (λ y m. h y (Memᴰ.tail m)))

  pub keep_yes : (p : A → Bool) (x : A) (xs : List A) → p x ≡ true → keep p (x ∷ xs) ≡ x ∷ keep p xs
  unfolding keep
  keep_yes p x xs e = rw (e, keep)

  pub keep_no : (p : A → Bool) (x : A) (xs : List A) → p x ≡ false → keep p (x ∷ xs) ≡ keep p xs
  unfolding keep
  keep_no p x xs e = rw (e, keep)

  pub mem_keep : (p : A → Bool) {x : A} {xs : List A} → Memᴰ x xs → p x ≡ true → Memᴰ x (keep p xs)
  mem_keep p {x} (Memᴰ.head {x = y} {xs = ys} e) h = rw (keep_yes p y ys (ap p (sym e) ∙ h)) (Memᴰ.head e)
  mem_keep p {x} (Memᴰ.tail {x = y} {xs = ys} m) h = go (mem_keep p m h) (case (p y))
    where
      go : Memᴰ x (keep p ys) → (p y ≡ true) ⊎ (p y ≡ false) → Memᴰ x (keep p (y ∷ ys))
      go k (inl e) = rw (keep_yes p y ys e) (Memᴰ.tail k)
      go k (inr e) = rw (keep_no p y ys e) k

  pub keep_mem : (p : A → Bool) {x : A} (xs : List A) → Memᴰ x (keep p xs) → Memᴰ x xs × (p x ≡ true)
  unfolding keep
  keep_mem p [] m = absurd (Memᴰ.not-nil m)
  keep_mem p {x} (y ∷ ys) m = go (λ k. keep_mem p ys k) (case (p y))
    where
      first : p y ≡ true → (x ≡ y) ⊎ Memᴰ x (keep p ys) → (Memᴰ x (keep p ys) → Memᴰ x ys × (p x ≡ true))
          → Memᴰ x (y ∷ ys) × (p x ≡ true)
      first e (inl k) below = (Memᴰ.head k, ap p k ∙ e)
      first e (inr k) below = let (i, j) = below k in (Memᴰ.tail i, j)

      go : (Memᴰ x (keep p ys) → Memᴰ x ys × (p x ≡ true)) → (p y ≡ true) ⊎ (p y ≡ false) → Memᴰ x (y ∷ ys) × (p x ≡ true)
      go below (inl e) = first e (Memᴰ.cases_cons (rw (keep_yes p y ys e) at m)) below
      go below (inr e) = let (i, j) = below (rw (keep_no p y ys e) at m) in (Memᴰ.tail i, j)

  pub length_keep : (p : A → Bool) (xs : List A) → length (keep p xs) ≤ length xs
  unfolding keep
  length_keep p [] = omega arith
  length_keep p (x ∷ xs) = go (length_keep p xs) (case (p x))
    where
      go : length (keep p xs) ≤ length xs → (p x ≡ true) ⊎ (p x ≡ false) → length (keep p (x ∷ xs)) ≤ length (x ∷ xs)
      go h (inl e) = rw (keep_yes p x xs e) (omega arith)
      go h (inr e) = rw (keep_no p x xs e) (omega arith)

  -- tests that agree on the elements

  pub any_agree : (p q : A → Bool) (xs : List A) → ((x : A) → Memᴰ x xs → p x ≡ q x) → any p xs ≡ any q xs
  unfolding any
  any_agree p q [] h = refl
  any_agree p q (x ∷ xs) h = ap₂ (λ (a b : Bool). a || b) (h x (Memᴰ.head refl)) (any_agree p q xs (λ y m. h y (Memᴰ.tail m)))

  pub keep_agree : (p q : A → Bool) (xs : List A) → ((x : A) → Memᴰ x xs → p x ≡ q x) → keep p xs ≡ keep q xs
  unfolding keep
  keep_agree p q [] h = refl
  keep_agree p q (x ∷ xs) h = go (keep_agree p q xs (λ y m. h y (Memᴰ.tail m))) (h x (Memᴰ.head refl)) (case (q x))
    where
      go : keep p xs ≡ keep q xs → p x ≡ q x → (q x ≡ true) ⊎ (q x ≡ false) → keep p (x ∷ xs) ≡ keep q (x ∷ xs)
      go below e (inl t) = keep_yes p x xs (e ∙ t) ∙ ap (λ (ys : List A). x ∷ ys) below ∙ sym (keep_yes q x xs t)
      go below e (inr f) = keep_no p x xs (e ∙ f) ∙ below ∙ sym (keep_no q x xs f)

  -- tests of two lists one after the other

  pub any_append : (p : A → Bool) (xs ys : List A) → any p (xs ++ ys) ≡ any p xs || any p ys
  unfolding any
  any_append p [] ys = refl
  any_append p (x ∷ xs) ys = ap (λ (b : Bool). p x || b) (any_append p xs ys) ∙ sym (or_assoc (p x) (any p xs) (any p ys))

  pub keep_append : (p : A → Bool) (xs ys : List A) → keep p (xs ++ ys) ≡ keep p xs ++ keep p ys
  unfolding keep
  keep_append p [] ys = refl
  keep_append p (x ∷ xs) ys = go (keep_append p xs ys) (case (p x))
    where
      go : keep p (xs ++ ys) ≡ keep p xs ++ keep p ys → (p x ≡ true) ⊎ (p x ≡ false) → keep p (x ∷ (xs ++ ys)) ≡ keep p (x ∷ xs) ++ keep p ys
      go below (inl e) =
          keep_yes p x (xs ++ ys) e ∙ ap (λ (l : List A). x ∷ l) below ∙ ap (λ (l : List A). l ++ keep p ys) (sym (keep_yes p x xs e))
      go below (inr e) = keep_no p x (xs ++ ys) e ∙ below ∙ ap (λ (l : List A). l ++ keep p ys) (sym (keep_no p x xs e))

  -- nothing passes
  pub keep_nothing : (p : A → Bool) (xs : List A) → ((x : A) → Memᴰ x xs → p x ≡ false) → keep p xs ≡ []
  unfolding keep
  keep_nothing p [] h = refl
  keep_nothing p (x ∷ xs) h = keep_no p x xs (h x (Memᴰ.head refl)) ∙ keep_nothing p xs (λ y m. h y (Memᴰ.tail m))

  pub keep_none : (p : A → Bool) (xs : List A) → ((x : A) → p x ≡ false) → keep p xs ≡ []
  keep_none p xs h = keep_nothing p xs (λ x m. h x)

  -- everything passes
  pub keep_whole : (p : A → Bool) (xs : List A) → ((x : A) → p x ≡ true) → keep p xs ≡ xs
  unfolding keep
  keep_whole p [] h = refl
  keep_whole p (x ∷ xs) h = keep_yes p x xs (h x) ∙ ap (λ (ys : List A). x ∷ ys) (keep_whole p xs h)

  -- what is kept of what is kept
  pub keep_keep : (p q : A → Bool) (xs : List A) → keep p (keep q xs) ≡ keep (λ (x : A). q x && p x) xs
  unfolding keep
  keep_keep p q [] = refl
  keep_keep p q (x ∷ xs) = go (case (q x)) (case (p x)) (keep_keep p q xs)
    where
      both : A → Bool
      both y = q y && p y

      go : (q x ≡ true) ⊎ (q x ≡ false) → (p x ≡ true) ⊎ (p x ≡ false) → keep p (keep q xs) ≡ keep both xs → keep p (keep q (x ∷ xs)) ≡ keep both (x ∷ xs)
      go (inl e) (inl f) below =
          ap (keep p) (keep_yes q x xs e)
          ∙ keep_yes p x (keep q xs) f
          ∙ ap (λ (ys : List A). x ∷ ys) below
          ∙ sym (keep_yes both x xs (ap (λ (b : Bool). b && p x) e ∙ f))
      go (inl e) (inr f) below =
          ap (keep p) (keep_yes q x xs e) ∙ keep_no p x (keep q xs) f ∙ below ∙ sym (keep_no both x xs (ap (λ (b : Bool). b && p x) e ∙ f))
      go (inr e) k below = ap (keep p) (keep_no q x xs e) ∙ below ∙ sym (keep_no both x xs (ap (λ (b : Bool). b && p x) e))

  pub all_agree : (p q : A → Bool) (xs : List A) → ((x : A) → Memᴰ x xs → p x ≡ q x) → all p xs ≡ all q xs
  unfolding all
  all_agree p q [] h = refl
  all_agree p q (x ∷ xs) h = ap₂ (λ (a b : Bool). a && b) (h x (Memᴰ.head refl)) (all_agree p q xs (λ y m. h y (Memᴰ.tail m)))

  none_guarded : (p : A → Bool) (xs : List A) → any (λ (x : A). false && p x) xs ≡ false
  unfolding any
  none_guarded p [] = refl
  none_guarded p (x ∷ xs) = none_guarded p xs

  -- a condition on all elements may stand at each
  pub any_guarded : (b : Bool) (p : A → Bool) (xs : List A) → b && any p xs ≡ any (λ (x : A). b && p x) xs
  any_guarded true p xs = refl
  any_guarded false p xs = sym (none_guarded p xs)

  -- elements by their places

  pub take_mem : (n : ℕ) (xs : List A) {x : A} → Memᴰ x (take n xs) → Memᴰ x xs
  take_mem n xs {x} m = subst (λ (ys : List A). Memᴰ x ys) (take-append-drop n xs) (Memᴰ.append_left (drop n xs) m)

  pub mem_replicate : {x y : A} (n : ℕ) → Memᴰ x (replicate n y) → x ≡ y
  mem_replicate zero m = absurd (Memᴰ.not-nil m)
  mem_replicate {x} {y} (suc n) m = ⊎_elim (λ (e : x ≡ y). e) (λ (k : Memᴰ x (replicate n y)). mem_replicate n k) (Memᴰ.cases_cons m)

  pub some_element : (xs : List A) → 1 ≤ length xs → (x : A) × Memᴰ x xs
  some_element [] h = absurd (omega arith)
  some_element (x ∷ xs) h = (x, Memᴰ.head refl)

  pub mem_get_or : {x : A} {xs : List A} (d : A) → Memᴰ x xs → (i : ℕ) × (i < length xs) × (get_or xs i d ≡ x)
  mem_get_or d (Memᴰ.head e) = (0, omega arith, sym e)
  mem_get_or d (Memᴰ.tail m) = let (i, h, e) = mem_get_or d m in (suc i, omega arith, e)

  pub get_or_mem : (xs : List A) (n : ℕ) (d : A) → n < length xs → Memᴰ (get_or xs n d) xs
  get_or_mem [] n d h = absurd (omega arith)
  get_or_mem (x ∷ xs) zero d h = Memᴰ.head refl
  get_or_mem (x ∷ xs) (suc n) d h = Memᴰ.tail (get_or_mem xs n d (omega arith))

  pub mem_length : {x : A} {xs : List A} → Memᴰ x xs → 1 ≤ length xs
  mem_length (Memᴰ.head e) = omega arith
  mem_length (Memᴰ.tail m) = omega arith

pub map_collect {ℓ ℓ' ℓ''} : {A : Type ℓ} {B : Type ℓ'} {C : Type ℓ''} (f : B → C) (F : A → List B) (G : A → List C) (xs : List A) → ((x : A) → map f (F x) ≡ G x)
    → map f (collect F xs) ≡ collect G xs
unfolding collect
map_collect f F G [] h = refl
map_collect {C = C} f F G (x ∷ xs) h = map-append f (F x) (collect F xs) ∙ ap₂ (λ (y z : List C). y ++ z) (h x) (map_collect f F G xs h)

module _ {ℓ ℓ'} {A : Type ℓ} {B : Type ℓ'} where
  -- `collect` and `map` by elements

  pub mem_collect : (f : A → List B) {x : A} {xs : List A} {y : B} → Memᴰ x xs → Memᴰ y (f x) → Memᴰ y (collect f xs)
  unfolding collect
  mem_collect f {y = y} (Memᴰ.head {x = z} {xs = zs} e) m = Memᴰ.append_left (collect f zs) (subst (λ (w : A). Memᴰ y (f w)) e m)
  mem_collect f (Memᴰ.tail {x = z} {xs = zs} k) m = Memᴰ.append_right (f z) (mem_collect f k m)

  pub collect_mem : (f : A → List B) {y : B} (xs : List A) → Memᴰ y (collect f xs) → (x : A) × Memᴰ x xs × Memᴰ y (f x)
  unfolding collect
  collect_mem f [] m = absurd (Memᴰ.not-nil m)
  collect_mem f {y} (x ∷ xs) m = go (λ k. collect_mem f xs k) (Memᴰ.append_cases (f x) m)
    where
      go : (Memᴰ y (collect f xs) → (z : A) × Memᴰ z xs × Memᴰ y (f z)) → Memᴰ y (f x) ⊎ Memᴰ y (collect f xs)
          → (z : A) × Memᴰ z (x ∷ xs) × Memᴰ y (f z)
      go below (inl k) = (x, Memᴰ.head refl, k)
      go below (inr k) = let (z, i, j) = below k in (z, Memᴰ.tail i, j)

  pub collect_append : (f : A → List B) (xs ys : List A) → collect f (xs ++ ys) ≡ collect f xs ++ collect f ys
  unfolding collect
  collect_append f [] ys = refl
  collect_append f (x ∷ xs) ys = rw (collect_append f xs ys, append_assoc)

  pub mem_map : (f : A → B) {x : A} {xs : List A} → Memᴰ x xs → Memᴰ (f x) (map f xs)
  mem_map f (Memᴰ.head e) = Memᴰ.head (ap f e)
  mem_map f (Memᴰ.tail m) = Memᴰ.tail (mem_map f m)

  pub map_mem : (f : A → B) {y : B} (xs : List A) → Memᴰ y (map f xs) → (x : A) × Memᴰ x xs × (y ≡ f x)
  map_mem f [] m = absurd (Memᴰ.not-nil m)
  map_mem f {y} (x ∷ xs) m = go (λ k. map_mem f xs k) (Memᴰ.cases_cons m)
    where
      go : (Memᴰ y (map f xs) → (z : A) × Memᴰ z xs × (y ≡ f z)) → (y ≡ f x) ⊎ Memᴰ y (map f xs)
          → (z : A) × Memᴰ z (x ∷ xs) × (y ≡ f z)
      go below (inl e) = (x, Memᴰ.head refl, e)
      go below (inr k) = let (z, i, j) = below k in (z, Memᴰ.tail i, j)

  pub collect_agree : (f g : A → List B) (xs : List A) → ((x : A) → Memᴰ x xs → f x ≡ g x) → collect f xs ≡ collect g xs
  unfolding collect
  collect_agree f g [] h = refl
  collect_agree f g (x ∷ xs) h = ap₂ (λ (ys zs : List B). ys ++ zs) (h x (Memᴰ.head refl)) (collect_agree f g xs (λ y m. h y (Memᴰ.tail m)))

  -- tests of images

  pub any_map : (p : B → Bool) (g : A → B) (xs : List A) → any p (map g xs) ≡ any (λ (x : A). p (g x)) xs
  unfolding any
  any_map p g [] = refl
  any_map p g (x ∷ xs) = ap (λ (b : Bool). p (g x) || b) (any_map p g xs)

  pub any_image : (p : B → Bool) (q : A → Bool) (g : A → B) (xs : List A) → ((x : A) → Memᴰ x xs → p (g x) ≡ q x) → any p (map g xs) ≡ any q xs
  any_image p q g xs h = any_map p g xs ∙ any_agree (λ (x : A). p (g x)) q xs h

  pub keep_map : (p : B → Bool) (g : A → B) (xs : List A) → keep p (map g xs) ≡ map g (keep (λ (x : A). p (g x)) xs)
  unfolding keep
  keep_map p g [] = refl
  keep_map p g (x ∷ xs) = go (case (p (g x))) (keep_map p g xs)
    where
      q : A → Bool
      q y = p (g y)

      go : (p (g x) ≡ true) ⊎ (p (g x) ≡ false) → keep p (map g xs) ≡ map g (keep q xs) → keep p (map g (x ∷ xs)) ≡ map g (keep q (x ∷ xs))
      go (inl e) below = keep_yes p (g x) (map g xs) e ∙ ap (λ (zs : List B). g x ∷ zs) below ∙ ap (map g) (sym (keep_yes q x xs e))
      go (inr e) below = keep_no p (g x) (map g xs) e ∙ below ∙ ap (map g) (sym (keep_no q x xs e))

  pub keep_image : (p : B → Bool) (q : A → Bool) (g : A → B) (xs : List A) → ((x : A) → Memᴰ x xs → p (g x) ≡ q x) → keep p (map g xs) ≡ map g (keep q xs)
  keep_image p q g xs h = keep_map p g xs ∙ ap (map g) (keep_agree (λ (x : A). p (g x)) q xs h)

  -- images by their places

  pub take_map : (g : A → B) (i : ℕ) (xs : List A) → take i (map g xs) ≡ map g (take i xs)
  take_map g zero xs = refl
  take_map g (suc i) [] = refl
  take_map g (suc i) (x ∷ xs) = ap (λ (l : List B). g x ∷ l) (take_map g i xs)

  pub get_d_map : (g : A → B) (xs : List A) (i : ℕ) (d : B) (c : A) → i < length xs → get_or (map g xs) i d ≡ g (get_or xs i c)
  get_d_map g [] i d c h = absurd (omega arith)
  get_d_map g (x ∷ xs) zero d c h = refl
  get_d_map g (x ∷ xs) (suc i) d c h = get_d_map g xs i d c (omega arith)

pub collect_map {ℓ ℓ' ℓ''} : {A : Type ℓ} {B : Type ℓ'} {C : Type ℓ''} (f : B → List C) (g : A → B) (xs : List A) → collect f (map g xs) ≡ collect (λ (x : A). f (g x)) xs
unfolding collect
collect_map f g [] = refl
collect_map {C = C} f g (x ∷ xs) = ap (λ (l : List C). f (g x) ++ l) (collect_map f g xs)

-- A test of equality that is one.
pub record Decides {ℓ} {A : Type ℓ} (eq : A → A → Bool) : Type ℓ where
  pub sound : (x y : A) → eq x y ≡ true → x ≡ y
  pub complete : (x : A) → eq x x ≡ true

pub eqb_decides : Decides eqb
eqb_decides = record { sound = eqb-true; complete = λ x. eq-eqb x x refl }

pub member_mem : (x : ℕ) (xs : List ℕ) → member x xs ≡ true → Memᴰ x xs
unfolding member
member_mem x xs h = let (y, m, e) = any_mem (eqb x) xs h in Memᴰ.cast (eqb-true x y e) m

pub mem_member : {x : ℕ} {xs : List ℕ} → Memᴰ x xs → member x xs ≡ true
unfolding member
mem_member {x} m = mem_any (eqb x) m (eq-eqb x x refl)

module _ {ℓ} {A : Type ℓ} where
  pub distinct_snoc : {xs : List A} (y : A) → Distinct xs → (Memᴰ y xs → ⊥) → Distinct (xs ++ (y ∷ []))
  distinct_snoc y none h = one Memᴰ.not-nil none
  distinct_snoc y (one {x = x} {xs = xs} n d) h =
      one
      (λ m. ⊎_elim (λ (k : Memᴰ x xs). n k) (λ (k : Memᴰ x (y ∷ [])). h (Memᴰ.head (sym (Memᴰ.eq_of_singleton k)))) (Memᴰ.append_cases xs m))
      (distinct_snoc y d (λ m. h (Memᴰ.tail m)))

  module _ (eq : A → A → Bool) (dec : Decides eq) where
    pub mem_eq_any : {x : A} {xs : List A} → Memᴰ x xs → any (eq x) xs ≡ true
    mem_eq_any {x} m = mem_any (eq x) m (dec.complete x)

    pub any_eq_mem : (x : A) (xs : List A) → any (eq x) xs ≡ true → Memᴰ x xs
    any_eq_mem x xs h = let (y, m, e) = any_mem (eq x) xs h in Memᴰ.cast (dec.sound x y e) m

    pub any_eq_not_mem : {x : A} {xs : List A} → any (eq x) xs ≡ false → Memᴰ x xs → ⊥
    any_eq_not_mem {x} {xs} h m = not_both (any (eq x) xs) (mem_eq_any m) h

  -- `extend`: what was there stays in front, and what is added is new
  module _ (eq : A → A → Bool) where
    pub extend_old : (xs : List A) (y : A) (ys : List A) → any (eq y) xs ≡ true → extend eq xs (y ∷ ys) ≡ extend eq xs ys
    unfolding extend
    extend_old xs y ys e = rw (e, extend)

    pub extend_new : (xs : List A) (y : A) (ys : List A) → any (eq y) xs ≡ false → extend eq xs (y ∷ ys) ≡ extend eq (xs ++ (y ∷ [])) ys
    unfolding extend
    extend_new xs y ys e = rw (e, extend)

    pub extend_prefix : (xs ys : List A) → (zs : List A) × (extend eq xs ys ≡ xs ++ zs)
    unfolding extend
    extend_prefix xs [] = ([], sym (mathlib.Core.List.append-nil xs))
    extend_prefix xs (y ∷ ys) = go (λ ws. extend_prefix ws ys) (case (any (eq y) xs))
      where
        go : ((ws : List A) → (zs : List A) × (extend eq ws ys ≡ ws ++ zs)) → (any (eq y) xs ≡ true) ⊎ (any (eq y) xs ≡ false)
            → (zs : List A) × (extend eq xs (y ∷ ys) ≡ xs ++ zs)
        go below (inl e) = let (zs, k) = below xs in (zs, extend_old xs y ys e ∙ k)
        go below (inr e) = let (zs, k) = below (xs ++ (y ∷ [])) in (y ∷ zs, extend_new xs y ys e ∙ k ∙ append_assoc xs (y ∷ []) zs)

    pub extend_left : {x : A} {xs : List A} (ys : List A) → Memᴰ x xs → Memᴰ x (extend eq xs ys)
    extend_left {x} {xs} ys m = let (zs, k) = extend_prefix xs ys in rw k (Memᴰ.append_left zs m)

    pub extend_length : (xs ys : List A) → length xs ≤ length (extend eq xs ys)
    extend_length xs ys = let (zs, k) = extend_prefix xs ys in rw (k, length-append) (omega arith)

    pub extend_most : (xs ys : List A) → length (extend eq xs ys) ≤ length xs + length ys
    unfolding extend
    extend_most xs [] = omega arith
    extend_most xs (y ∷ ys) = go (λ ws. extend_most ws ys) (case (any (eq y) xs))
      where
        go : ((ws : List A) → length (extend eq ws ys) ≤ length ws + length ys) → (any (eq y) xs ≡ true) ⊎ (any (eq y) xs ≡ false)
            → length (extend eq xs (y ∷ ys)) ≤ length xs + suc (length ys)
        go below (inl e) = rw (extend_old xs y ys e) (let h = below xs in omega arith)
        go below (inr e) = rw (extend_new xs y ys e) (let h = below (xs ++ (y ∷ [])) in let k = length-append xs (y ∷ []) in omega arith)

    pub extend_mem : {x : A} (xs ys : List A) → Memᴰ x (extend eq xs ys) → Memᴰ x xs ⊎ Memᴰ x ys
    unfolding extend
    extend_mem xs [] m = inl m
    extend_mem {x} xs (y ∷ ys) m = go (λ ws k. extend_mem ws ys k) (case (any (eq y) xs))
      where
        place : Memᴰ x (xs ++ (y ∷ [])) ⊎ Memᴰ x ys → Memᴰ x xs ⊎ Memᴰ x (y ∷ ys)
        place (inl k) = ⊎_elim (λ (i : Memᴰ x xs). inl i) (λ (i : Memᴰ x (y ∷ [])). inr (Memᴰ.head (Memᴰ.eq_of_singleton i))) (Memᴰ.append_cases xs k)
        place (inr k) = inr (Memᴰ.tail k)

        later : Memᴰ x xs ⊎ Memᴰ x ys → Memᴰ x xs ⊎ Memᴰ x (y ∷ ys)
        later (inl k) = inl k
        later (inr k) = inr (Memᴰ.tail k)

        go : ((ws : List A) → Memᴰ x (extend eq ws ys) → Memᴰ x ws ⊎ Memᴰ x ys)
            → (any (eq y) xs ≡ true) ⊎ (any (eq y) xs ≡ false) → Memᴰ x xs ⊎ Memᴰ x (y ∷ ys)
        go below (inl e) = later (below xs (rw (extend_old xs y ys e) at m))
        go below (inr e) = place (below (xs ++ (y ∷ [])) (rw (extend_new xs y ys e) at m))

    -- an index is at most the length
    pub index_most : (x : A) (xs : List A) → index eq x xs ≤ length xs
    unfolding index
    index_most x [] = omega arith
    index_most x (y ∷ ys) = go (index_most x ys) (case (eq x y))
      where
        go : index eq x ys ≤ length ys → (eq x y ≡ true) ⊎ (eq x y ≡ false) → index eq x (y ∷ ys) ≤ suc (length ys)
        go h (inl e) = rw (e, index) (omega arith)
        go h (inr e) = rw (e, index) (omega arith)

  module _ (eq : A → A → Bool) (dec : Decides eq) where
    pub extend_right : {x : A} (xs : List A) {ys : List A} → Memᴰ x ys → Memᴰ x (extend eq xs ys)
    extend_right {x} xs (Memᴰ.head {x = y} {xs = ys} e) = go (case (any (eq y) xs))
      where
        go : (any (eq y) xs ≡ true) ⊎ (any (eq y) xs ≡ false) → Memᴰ x (extend eq xs (y ∷ ys))
        go (inl k) = rw (extend_old eq xs y ys k) (extend_left eq ys (Memᴰ.cast e (any_eq_mem eq dec y xs k)))
        go (inr k) = rw (extend_new eq xs y ys k) (extend_left eq ys (Memᴰ.append_right xs (Memᴰ.head e)))
    extend_right {x} xs (Memᴰ.tail {x = y} {xs = ys} m) = go (λ ws. extend_right ws m) (case (any (eq y) xs))
      where
        go : ((ws : List A) → Memᴰ x (extend eq ws ys)) → (any (eq y) xs ≡ true) ⊎ (any (eq y) xs ≡ false) → Memᴰ x (extend eq xs (y ∷ ys))
        go below (inl k) = rw (extend_old eq xs y ys k) (below xs)
        go below (inr k) = rw (extend_new eq xs y ys k) (below (xs ++ (y ∷ [])))

    pub extend_distinct : {xs : List A} (ys : List A) → Distinct xs → Distinct (extend eq xs ys)
    unfolding extend
    extend_distinct [] d = d
    extend_distinct {xs} (y ∷ ys) d = go (λ ws k. extend_distinct {xs = ws} ys k) (case (any (eq y) xs))
      where
        go : ((ws : List A) → Distinct ws → Distinct (extend eq ws ys)) → (any (eq y) xs ≡ true) ⊎ (any (eq y) xs ≡ false) → Distinct (extend eq xs (y ∷ ys))
        go below (inl e) = rw (extend_old eq xs y ys e) (below xs d)
        go below (inr e) = rw (extend_new eq xs y ys e) (below (xs ++ (y ∷ [])) (distinct_snoc y d (any_eq_not_mem eq dec e)))

    -- as long as before: nothing was new
    pub extend_same_length : (xs ys : List A) → length (extend eq xs ys) ≡ length xs → (y : A) → Memᴰ y ys → Memᴰ y xs
    extend_same_length xs ys e y m = go (extend_prefix eq xs ys)
      where
        shorter : (zs : List A) → extend eq xs ys ≡ xs ++ zs → length zs ≡ 0
        shorter zs k = omega (arith, length-append xs zs, ap length k)

        empty : (zs : List A) → length zs ≡ 0 → Memᴰ y zs → ⊥
        empty [] h n = Memᴰ.not-nil n
        empty (z ∷ zs) h n = omega arith

        go : (zs : List A) × (extend eq xs ys ≡ xs ++ zs) → Memᴰ y xs
        go (zs, k) =
            ⊎_elim (λ (i : Memᴰ y xs). i) (λ (i : Memᴰ y zs). absurd (empty zs (shorter zs k) i))
            (Memᴰ.append_cases xs (rw k at (extend_right xs m)))

    -- `index` finds an element that is there

    pub index_here : (x y : A) (ys : List A) → eq x y ≡ true → index eq x (y ∷ ys) ≡ 0
    unfolding index
    index_here x y ys e = rw (e, index)

    pub index_there : (x y : A) (ys : List A) → eq x y ≡ false → index eq x (y ∷ ys) ≡ suc (index eq x ys)
    unfolding index
    index_there x y ys e = rw (e, index)

    pub index_mem : (x : A) (xs : List A) (d : A) → Memᴰ x xs → (index eq x xs < length xs) × (get_or xs (index eq x xs) d ≡ x)
    index_mem x [] d m = absurd (Memᴰ.not-nil m)
    index_mem x (y ∷ ys) d m = go (λ k. index_mem x ys d k) (case (eq x y)) (Memᴰ.cases_cons m)
      where
        go : (Memᴰ x ys → (index eq x ys < length ys) × (get_or ys (index eq x ys) d ≡ x)) → (eq x y ≡ true) ⊎ (eq x y ≡ false)
            → (x ≡ y) ⊎ Memᴰ x ys → (index eq x (y ∷ ys) < length (y ∷ ys)) × (get_or (y ∷ ys) (index eq x (y ∷ ys)) d ≡ x)
        go below (inl e) k = rw (index_here x y ys e) (omega arith, sym (dec.sound x y e))
        go below (inr e) (inl k) = not_both (eq x y) (subst (λ (w : A). eq x w ≡ true) k (dec.complete x)) e
        go below (inr e) (inr k) = rw (index_there x y ys e) (let h = below k in (omega arith, h.1))

    -- an element of the first part has its index there
    pub index_append : (x : A) (xs ys : List A) → Memᴰ x xs → index eq x (xs ++ ys) ≡ index eq x xs
    index_append x [] ys m = absurd (Memᴰ.not-nil m)
    index_append x (z ∷ zs) ys m = go (λ k. index_append x zs ys k) (case (eq x z)) (Memᴰ.cases_cons m)
      where
        go : (Memᴰ x zs → index eq x (zs ++ ys) ≡ index eq x zs) → (eq x z ≡ true) ⊎ (eq x z ≡ false) → (x ≡ z) ⊎ Memᴰ x zs
            → index eq x (z ∷ (zs ++ ys)) ≡ index eq x (z ∷ zs)
        go below (inl e) k = index_here x z (zs ++ ys) e ∙ sym (index_here x z zs e)
        go below (inr e) (inl k) = not_both (eq x z) (subst (λ (w : A). eq x w ≡ true) k (dec.complete x)) e
        go below (inr e) (inr k) = index_there x z (zs ++ ys) e ∙ ap suc (below k) ∙ sym (index_there x z zs e)

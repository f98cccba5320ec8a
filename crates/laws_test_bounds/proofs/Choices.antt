-- Lists of so many numbers out of a list: how many there are, and that they are all there. Assumes nothing.
use mathlib.Core.Path.{◌≡◌, refl, sym, ap, ◌∙◌}
use mathlib.Core.List.{List, [], ◌∷◌, Memᴰ}
use Prim.Native.Nat.{ℕ, ◌*◌, ◌^◌, ◌≤◌}
use native.Mathlib.Nat.{pow-zero, pow-succ'}
use native.Mathlib.Omega.{arith}
use lib.ListN.{length, length-map, length-append}
use Rattle.model.specs.Lists.{collect}
use Rattle.laws.proofs.Lists.{mem_collect, mem_map}
use Rattle.laws.proofs.Counting.{collect_length}
use Rattle.rows.specs.Triggers.{choices}
use Rattle.rows.specs.Judging.{total}

pub choices_length : (vs ns : List ℕ) → length (choices vs ns) ≡ length ns ^ length vs
unfolding choices
choices_length [] ns = sym (pow-zero (length ns))
choices_length (v ∷ vs) ns =
    collect_length _ (length (choices vs ns)) (λ n. length-map (choices vs ns) (λ (m : List ℕ). n ∷ m)) ns
    ∙ ap (λ (k : ℕ). length ns * k) (choices_length vs ns)
    ∙ sym (pow-succ' (length ns) (length vs))

-- as many of these numbers as there are variables
pub mem_choices : (vs ns m : List ℕ) → length m ≡ length vs → ((x : ℕ) → Memᴰ x m → Memᴰ x ns) → Memᴰ m (choices vs ns)
unfolding choices
mem_choices [] ns [] e h = Memᴰ.head refl
mem_choices [] ns (x ∷ m) e h = absurd (omega arith)
mem_choices (v ∷ vs) ns [] e h = absurd (omega arith)
mem_choices (v ∷ vs) ns (x ∷ m) e h =
    mem_collect _ (h x (Memᴰ.head refl))
    (mem_map (λ (l : List ℕ). x ∷ l) (mem_choices vs ns m (omega arith) (λ y k. h y (Memᴰ.tail k))))

-- sums over lists

pub collect_total : {A : Type 0} (f : ℕ → List A) (g : ℕ → ℕ) → ((x : ℕ) → length (f x) ≡ g x) → (xs : List ℕ) → length (collect f xs) ≡ total g xs
unfolding collect total
collect_total f g h [] = refl
collect_total f g h (x ∷ xs) = let k = collect_total f g h xs in let l = h x in let n = length-append (f x) (collect f xs) in omega arith

pub total_more : (f g : ℕ → ℕ) → ((x : ℕ) → f x ≤ g x) → (xs : List ℕ) → total f xs ≤ total g xs
unfolding total
total_more f g h [] = omega arith
total_more f g h (x ∷ xs) = let k = total_more f g h xs in let l = h x in omega arith

-- Sets of variables by their elements: a set is known by them, their count is its count of ones, and the rank of an element is its index.
-- Assumes nothing.
use mathlib.Core.Path.{◌≡◌, refl, sym, ap, ap₂, ◌∙◌}
use mathlib.Core.Bool.{Bool, true, false, ◌&&◌, ◌||◌, not}
use mathlib.Core.Logic.{◌⊎◌, inl, inr}
use mathlib.Core.List.{List, [], ◌∷◌, Memᴰ}
use Prim.Native.Nat.{ℕ, zero, suc, ◌+◌, ◌-◌, ◌/◌, ◌%◌, ◌^◌, ◌≤◌, ◌<◌}
use native.Mathlib.Nat.{pow-suc}
use native.Mathlib.Omega.{arith}
use lib.Dec.{eqb}
use native.Mathlib.Numerals.{add-one}
use lib.ListN.{length, get_or, take}
use lib.Seq.{take-suc, take_all}
use lib.Bits.{bit_or, bit_and, or_lt, and_le_l, mask_lt}
use lib.Pow.{pow-lt, pow_pos}
use lib.Count.{ones, ones_in, ones_step}
use borrow.Author.Tests.{eq-eqb, ne_eqb}
use Rattle.model.specs.Lists.{any, keep, collect, index, member}
use Rattle.model.specs.Rules.{Atom, Rule, names, variables_of, in_body, universal, frontier, existential}
use Rattle.laws.proofs.Bools.{case, not_both, is_false}
use Rattle.laws.proofs.Lists.{keep_yes, keep_no, mem_keep, keep_mem, member_mem, mem_member, keep_agree, any_append}
use Rattle.laws.specs.Lists.{rising}
use Rattle.laws.proofs.Rules.{mem_names, in_body_member, variables_of_mem, names_mem}
use Rattle.model.specs.WellFormed.{WellFormedAtoms}
use Rattle.form_variables.specs.Sets.{set_of, has, elements}
use Rattle.form.specs.Places.{atom_place, GroupAt, atom_of, group_of}
use Rattle.form.proofs.Places.{no_atom, atom_read}
use Rattle.form.proofs.Rows.{Turn, next_turn}
use Rattle.form_variables.proofs.Sets.{set_of_collect_more, has_set_of, has_and, has_zero, has_complement}

-- a set is known by its elements

digit_is : (x y : ℕ) → x < 2 → y < 2 → eqb x 1 ≡ eqb y 1 → x ≡ y
digit_is zero zero h k e = refl
digit_is zero (suc zero) h k e = not_both false e refl
digit_is zero (suc (suc y)) h k e = absurd (omega arith)
digit_is (suc zero) zero h k e = not_both true refl e
digit_is (suc zero) (suc zero) h k e = refl
digit_is (suc zero) (suc (suc y)) h k e = absurd (omega arith)
digit_is (suc (suc x)) y h k e = absurd (omega arith)

pub same_elements : (k a b : ℕ) → a < 2 ^ k → b < 2 ^ k → ((v : ℕ) → v < k → has a v ≡ has b v) → a ≡ b
unfolding has
same_elements zero a b h i e = omega arith
same_elements (suc k) a b h i e =
    let low = digit_is (a % 2) (b % 2) (omega arith) (omega arith) (e 0 (omega arith)) in
    let high = same_elements k (a / 2) (b / 2) (omega (arith, pow-suc 2 k)) (omega (arith, pow-suc 2 k)) (λ v l. e (suc v) (omega arith)) in
    omega arith

-- elements by a test

pub member_keep : (p : ℕ → Bool) (v : ℕ) → v ≤ 7 → member v (keep p names) ≡ p v
member_keep p v h = go (case (p v))
  where
    go : (p v ≡ true) ⊎ (p v ≡ false) → member v (keep p names) ≡ p v
    go (inl t) = mem_member (mem_keep p (mem_names v h) t) ∙ sym t
    go (inr f) = is_false (member v (keep p names)) (λ e. not_both (p v) (keep_mem p names (member_mem v (keep p names) e)).1 f) ∙ sym f

pub elements_set_of : (p : ℕ → Bool) → elements (set_of (keep p names)) ≡ keep p names
unfolding elements
elements_set_of p =
    keep_agree (has (set_of (keep p names))) p names
    (λ v m. let h = names_mem m in has_set_of (keep p names) v ∙ member_keep p v (omega arith))

pub set_of_below : (k : ℕ) (vs : List ℕ) → ((v : ℕ) → Memᴰ v vs → v < k) → set_of vs < 2 ^ k
unfolding set_of
set_of_below k [] h = pow_pos k
set_of_below k (v ∷ vs) h =
    or_lt k (2 ^ v) (set_of vs) (pow-lt (h v (Memᴰ.head refl))) (set_of_below k vs (λ w m. h w (Memᴰ.tail m)))

pub keep_below : (p : ℕ → Bool) → set_of (keep p names) < 256
keep_below p = set_of_below 8 (keep p names) (λ v m. let h = names_mem (keep_mem p names m).0 in omega arith)

-- a set with the elements that pass a test
pub set_of_test : (x : ℕ) (p : ℕ → Bool) → x < 256 → ((v : ℕ) → v ≤ 7 → has x v ≡ p v) → x ≡ set_of (keep p names)
set_of_test x p h e =
    same_elements 8 x (set_of (keep p names)) h (keep_below p)
    (λ v l. e v (omega arith) ∙ sym (has_set_of (keep p names) v ∙ member_keep p v (omega arith)))

-- the count of ones is the count of elements

unfoldable bit : Bool → ℕ
bit true = 1
bit false = 0

-- how many of k numbers from s on pass a test
unfoldable tally : ℕ → ℕ → (ℕ → Bool) → ℕ
tally s zero p = 0
tally s (suc k) p = bit (p s) + tally (suc s) k p

length_kept : (p : ℕ → Bool) (s k : ℕ) → length (keep p (rising s k)) ≡ tally s k p
unfolding rising tally keep bit
length_kept p s zero = refl
length_kept p s (suc k) = go (length_kept p (suc s) k) (case (p s))
  where
    go : length (keep p (rising (suc s) k)) ≡ tally (suc s) k p → (p s ≡ true) ⊎ (p s ≡ false)
        → length (keep p (s ∷ rising (suc s) k)) ≡ bit (p s) + tally (suc s) k p
    go e (inl t) = ap length (keep_yes p s (rising (suc s) k) t) ∙ rw t (omega arith)
    go e (inr f) = ap length (keep_no p s (rising (suc s) k) f) ∙ rw f (omega arith)

digit_bit : (x : ℕ) → x < 2 → x ≡ bit (eqb x 1)
unfolding bit
digit_bit zero h = refl
digit_bit (suc zero) h = refl
digit_bit (suc (suc x)) h = absurd (omega arith)

ones_tally : (k x s : ℕ) (p : ℕ → Bool) → x < 2 ^ k → ((v : ℕ) → v < k → has x v ≡ p (v + s)) → ones x ≡ tally s k p
unfolding tally has ones ones_in
ones_tally zero x s p h e = let z : x ≡ 0 = omega arith in ap ones z ∙ ones_none
  where
    ones_none : ones 0 ≡ 0
    ones_none = refl
ones_tally (suc k) x s p h e =
    let low : p (0 + s) ≡ p s = ap p (omega arith) in
    let high : (v : ℕ) → v < k → has (x / 2) v ≡ p (v + suc s) =
    λ v l. let q : suc v + s ≡ v + suc s = omega arith in e (suc v) (omega arith) ∙ ap p q
    in
    ones_step x
    ∙ ap₂ (λ (a b : ℕ). a + b) (digit_bit (x % 2) (omega arith) ∙ ap bit (e 0 (omega arith) ∙ low)) (ones_tally k (x / 2) (suc s) p (omega (arith, pow-suc 2 k)) high)

pub ones_elements : (x : ℕ) → x < 256 → ones x ≡ length (elements x)
unfolding elements rising
ones_elements x h = ones_tally 8 x 0 (has x) h (λ v l. ap (has x) (omega arith)) ∙ sym (length_kept (has x) 0 8)

-- the ones below an element are its index

index_kept : (p : ℕ → Bool) (s v k w : ℕ) → w ≡ v + s → v < k → p w ≡ true → index eqb w (keep p (rising s k)) ≡ tally s v p
unfolding rising tally keep index bit
index_kept p s v zero w e h t = absurd (omega arith)
index_kept p s zero (suc k) w e h t =
    let q : w ≡ s = omega arith in
    ap (index eqb w) (keep_yes p s (rising (suc s) k) (ap p (sym q) ∙ t)) ∙ rw (eq-eqb w s q, index)
index_kept p s (suc v) (suc k) w e h t = go (index_kept p (suc s) v k w (omega arith) (omega arith) t) (case (p s))
  where
    go : index eqb w (keep p (rising (suc s) k)) ≡ tally (suc s) v p → (p s ≡ true) ⊎ (p s ≡ false)
        → index eqb w (keep p (s ∷ rising (suc s) k)) ≡ bit (p s) + tally (suc s) v p
    go i (inl y) = ap (index eqb w) (keep_yes p s (rising (suc s) k) y) ∙ rw (ne_eqb w s (λ z. omega arith), index) (rw y (omega arith))
    go i (inr n) = ap (index eqb w) (keep_no p s (rising (suc s) k) n) ∙ rw n (omega arith)

pub rank_index : (x v : ℕ) → v < 8 → has x v ≡ true → ones (bit_and x (2 ^ v - 1)) ≡ index eqb v (elements x)
unfolding elements rising
rank_index x v h t =
    ones_tally v (bit_and x (2 ^ v - 1)) 0 (has x) (mask_lt x v)
    (λ u l. has_and x (2 ^ v - 1) u ∙ low u l ∙ ap (has x) (omega arith))
    ∙ sym (index_kept (has x) 0 v 8 v (omega arith) h t)
  where
    true_right : (b c : Bool) → c ≡ true → b && c ≡ b
    true_right true c e = e
    true_right false c e = refl

    low : (u : ℕ) → u < v → has x u && has (2 ^ v - 1) u ≡ has x u
    low u l =
        let e : 2 ^ v - 1 ≡ 2 ^ v - 1 - 0 = omega arith in
        true_right (has x u) (has (2 ^ v - 1) u) (ap (λ (m : ℕ). has m u) e ∙ has_complement v 0 u (pow_pos v) l ∙ ap not (has_zero u))

-- a rule's sets

member_collect : (v : ℕ) (ds : List (List Atom)) → member v (collect variables_of ds) ≡ any (λ (d : List Atom). member v (variables_of d)) ds
unfolding member collect any
member_collect v [] = refl
member_collect v (d ∷ ds) = any_append (eqb v) (variables_of d) (collect variables_of ds) ∙ ap (λ (b : Bool). any (eqb v) (variables_of d) || b) (member_collect v ds)

pub atoms_below : (arities : List ℕ) (as' : List Atom) → WellFormedAtoms arities as' → set_of (variables_of as') < 256
atoms_below arities as' h =
    set_of_below 8 (variables_of as')
    (λ v m. let (a, i, j) = variables_of_mem as' m in let l = (h.each a i).range v j in omega arith)

pub has_universal : (r : Rule) (v : ℕ) → v ≤ 7 → has (set_of (universal r)) v ≡ in_body r v
unfolding universal
has_universal r v h = has_set_of (keep (in_body r) names) v ∙ member_keep (in_body r) v h

pub universal_set : (r : Rule) → set_of (variables_of r.body) < 256 → set_of (variables_of r.body) ≡ set_of (universal r)
unfolding universal
universal_set r h = set_of_test (set_of (variables_of r.body)) (in_body r) h (λ v l. has_set_of (variables_of r.body) v ∙ sym (in_body_member r v l))

pub frontier_set : (r : Rule) → bit_and (set_of (universal r)) (set_of (collect variables_of r.head)) ≡ set_of (frontier r)
unfolding frontier universal
frontier_set r =
    let p : ℕ → Bool = λ v. in_body r v && any (λ (d : List Atom). member v (variables_of d)) r.head in
    set_of_test (bit_and (set_of (universal r)) (set_of (collect variables_of r.head))) p below
    (λ v l.
    has_and (set_of (universal r)) (set_of (collect variables_of r.head)) v
    ∙ ap₂ (λ (a b : Bool). a && b) (has_universal r v l) (has_set_of (collect variables_of r.head) v ∙ member_collect v r.head))
  where
    below : bit_and (set_of (universal r)) (set_of (collect variables_of r.head)) < 256
    below = omega (arith, and_le_l (set_of (universal r)) (set_of (collect variables_of r.head)), keep_below (in_body r))

pub existential_set : (r : Rule) (d : List Atom) → set_of (variables_of d) < 256
    → bit_and (set_of (variables_of d)) (256 - 1 - set_of (universal r)) ≡ set_of (existential r d)
unfolding existential universal
existential_set r d h =
    let p : ℕ → Bool = λ v. member v (variables_of d) && not (in_body r v) in
    set_of_test (bit_and (set_of (variables_of d)) (256 - 1 - set_of (universal r))) p
    (omega (arith, and_le_l (set_of (variables_of d)) (256 - 1 - set_of (universal r))))
    (λ v l.
    has_and (set_of (variables_of d)) (256 - 1 - set_of (universal r)) v
    ∙ ap₂ (λ (a b : Bool). a && b) (has_set_of (variables_of d) v) (has_complement 8 (set_of (universal r)) v below (omega arith) ∙ ap not (has_universal r v l)))
  where
    below : set_of (universal r) < 256
    below = keep_below (in_body r)

-- their elements are the rule's variables

pub frontier_elements : (r : Rule) → elements (set_of (frontier r)) ≡ frontier r
unfolding frontier
frontier_elements r = elements_set_of (λ (v : ℕ). in_body r v && any (λ (d : List Atom). member v (variables_of d)) r.head)

pub existential_elements : (r : Rule) (d : List Atom) → elements (set_of (existential r d)) ≡ existential r d
unfolding existential
existential_elements r d = elements_set_of (λ (v : ℕ). member v (variables_of d) && not (in_body r v))

pub universal_elements : (r : Rule) → elements (set_of (universal r)) ≡ universal r
unfolding universal
universal_elements r = elements_set_of (in_body r)

-- a loop has gathered the variables of the first k of n elements
pub record Gathering {A : Type 0} (g : A → List ℕ) (ys : List A) (n k set : ℕ) : Type 0 where
  pub turn : Turn ys n k
  pub front : set_of (collect g (take k ys)) ≡ set

module _ {A : Type 0} {g : A → List ℕ} {ys : List A} {n : ℕ} where
  pub gathering_first : Turn ys n 0 → Gathering g ys n 0 0
  unfolding set_of collect
  gathering_first t = record { turn = t; front = refl }

  pub gathering_more : {k s : ℕ} → Gathering g ys n k s → k < n → (y : A) {t : ℕ} → t ≡ set_of (g (get_or ys k y)) → Gathering g ys n (k + 1) (bit_or s t)
  gathering_more {k} {s} f h y {t} e =
      let u = f.turn in
      record {
        turn = next_turn u h;
        front =
            ap (λ (xs : List A). set_of (collect g xs)) (ap (λ (m : ℕ). take m ys) (add-one k) ∙ take-suc ys k y (omega arith))
            ∙ set_of_collect_more g (take k ys) (get_or ys k y) s t f.front e;
      }

  pub gathering_last : {k s : ℕ} → Gathering g ys n k s → n ≤ k → s ≡ set_of (collect g ys)
  gathering_last {k} f h =
      let u = f.turn in
      sym f.front ∙ ap (λ (xs : List A). set_of (collect g xs)) (take_all k ys (omega arith))

pub gathering_atom : {form : List ℕ} {at : ℕ} → GroupAt form at → {n k p s t : ℕ} → Gathering (λ (a : Atom). a.variables) (group_of form at) n k s → k < n
    → p ≡ atom_place at k → t ≡ set_of (atom_of form p).variables → Gathering (λ (a : Atom). a.variables) (group_of form at) n (k + 1) (bit_or s t)
gathering_atom r {k = k} f h e x =
    let u = f.turn in
    gathering_more f h no_atom (atom_read r k (omega arith) e (λ (a : Atom). set_of a.variables) x)

pub frontier_range : (r : Rule) (v : ℕ) → Memᴰ v (frontier r) → v < 8
unfolding frontier
frontier_range r v m = let h = names_mem (keep_mem (λ (v : ℕ). in_body r v && any (λ (d : List Atom). member v (variables_of d)) r.head) names m).0 in omega arith

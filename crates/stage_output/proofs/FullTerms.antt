-- Terms that are full for a Skolem function, by marks; and tests of all functions of a disjunct and of all disjuncts, one by one. Assumes nothing.
use mathlib.Core.Path.{◌≡◌, refl, sym, ap, ap₂, ◌∙◌}
use mathlib.Core.Bool.{Bool, true, false, not, ◌&&◌, ◌||◌}
use mathlib.Core.List.{List, [], ◌∷◌, ◌++◌, Memᴰ}
use Prim.Native.Nat.{ℕ, zero, suc, ◌+◌, ◌-◌, ◌*◌, ◌≤◌, ◌<◌}
use native.Mathlib.Decide.{dec_lt}
use native.Mathlib.Omega.{arith}
use lib.Dec.{ltb}
use lib.ListN.{length, get_or}
use borrow.Author.Tests.{lt-ltb, le-ltb}
use Rattle.model.specs.Lists.{all, any}
use Rattle.model.specs.Rules.{Disjunct, existential}
use Rattle.laws.specs.Lists.{rising}
use Rattle.laws.proofs.Bools.{or_none, is_false, not_both}
use Rattle.laws.proofs.Lists.{any_append, all_mem, mem_all, mem_get_or, get_or_mem}
use Rattle.laws.proofs.Rising.{rising_above, rising_below, rising_append, mem_rising}
use Rattle.tables.specs.Rows.{rows}
use Rattle.tables.specs.Terms.{nesting_at}
use Rattle.tables.specs.Marks.{passes, nests_marked}
use Rattle.tables.proofs.Marks.{passes_one}
use Rattle.tables.proofs.Tables.{rows_length}
use Rattle.rows.specs.Making.{Ground as Told, nesting_in}
use Rattle.laws_skipping.specs.Full.{none_full_of, functions_of, none_full}
use Rattle.form.specs.Places.{Held, rules_of, rule_of, disjunct_of}
use Rattle.form_functions.specs.Functions.{functions_before, entry_of, numbered_of}
use Rattle.form_functions.proofs.Numbering.{count_numbered, numbered_place}
use Rattle.stage_output.specs.Cyclic.{ground_in, Standable}
use Rattle.stage_output.specs.declared.cyclic.Ground.{Ground}
use Rattle.stage_output.proofs.Flat.{nesting_in_is}

-- by marks

nests_any : (t : List ℕ) (f d : ℕ) (marks : List ℕ) (n : ℕ)
    → nests_marked t f d n marks ≡ any (λ (k : ℕ). passes d (get_or marks k 0) (nesting_at t f k)) (rising 0 n)
unfolding nests_marked rising any
nests_any t f d marks zero = refl
nests_any t f d marks (suc n) =
    let p : ℕ → Bool = λ k. passes d (get_or marks k 0) (nesting_at t f k) in
    let e : n + 1 ≡ suc n = omega arith in
    let z : n ≡ 0 + n = omega arith in
    ap₂ (λ (a b : Bool). a || b) (nests_any t f d marks n) (sym (or_none (p n) false refl))
    ∙ sym (any_append p (rising 0 n) (rising n 1))
    ∙ ap (λ (k : ℕ). any p (rising 0 n ++ rising k 1)) z
    ∙ ap (any p) (sym (rising_append 0 n 1))
    ∙ ap (λ (k : ℕ). any p (rising 0 k)) e

not_or : (a b : Bool) → not (a || b) ≡ not a && not b
not_or true b = refl
not_or false b = refl

not_any : (p q : ℕ → Bool) (xs : List ℕ) → ((x : ℕ) → Memᴰ x xs → not (p x) ≡ q x) → not (any p xs) ≡ all q xs
unfolding any all
not_any p q [] h = refl
not_any p q (x ∷ xs) h = not_or (p x) (any p xs) ∙ ap₂ (λ (a b : Bool). a && b) (h x (Memᴰ.head refl)) (not_any p q xs (λ y m. h y (Memᴰ.tail m)))

-- below the first place of a function it is met less often than the depth allows
not_passes : (d n : ℕ) → 1 ≤ d → not (passes d 1 n) ≡ ltb n d
not_passes d n h = ap not (passes_one d n h) ∙ go (dec_lt n d)
  where
    go : Dec (n < d) → not (ltb d (suc n)) ≡ ltb n d
    go (yes l) = ap not (le-ltb d (suc n) (omega arith)) ∙ sym (lt-ltb n d l)
    go (no l) = ap not (lt-ltb d (suc n) (omega arith)) ∙ sym (le-ltb n d (omega arith))

-- every term is marked once
pub full_marked : {g : Ground} {t : List ℕ} → Standable g t → (f : ℕ) (marks : List ℕ) → ((k : ℕ) → k < g.terms → get_or marks k 0 ≡ 1)
    → not (nests_marked t f g.depth g.terms marks) ≡ none_full_of (ground_in g t) f
unfolding none_full_of
full_marked {g} {t} s f marks once =
    ap not (nests_any t f g.depth marks g.terms)
    ∙ not_any (λ (k : ℕ). passes g.depth (get_or marks k 0) (nesting_at t f k)) (λ (k : ℕ). ltb (nesting_in (length table) table f k) g.depth) (rising 0 g.terms)
    (λ k m. let l = rising_below 0 g.terms m in one k (omega arith))
    ∙ ap (λ (n : ℕ). all (λ (k : ℕ). ltb (nesting_in (length table) table f k) g.depth) (rising 0 n)) (sym long)
  where
    table : List (List ℕ)
    table = rows 10 g.terms t

    long : length table ≡ g.terms
    long = rows_length 10 g.terms t

    one : (k : ℕ) → k < g.terms → not (passes g.depth (get_or marks k 0) (nesting_at t f k)) ≡ ltb (nesting_in (length table) table f k) g.depth
    one k l =
        ap (λ (m : ℕ). not (passes g.depth m (nesting_at t f k))) (once k l)
        ∙ not_passes g.depth (nesting_at t f k) s.deep
        ∙ ap (λ (n : ℕ). ltb n g.depth) (sym (nesting_in_is s.ordered (length table) f k l (omega (arith, long))))

-- tests one by one

all_no {ℓ} : {A : Type ℓ} (p : A → Bool) {x : A} {xs : List A} → Memᴰ x xs → p x ≡ false → all p xs ≡ false
all_no p {x} {xs} m e = is_false (all p xs) (λ h. not_both (p x) (all_mem p h m) e)

module _ (p : ℕ → Bool) (from count : ℕ) where
  pub all_numbers : ((k : ℕ) → k < count → p (from + k) ≡ true) → all p (rising from count) ≡ true
  all_numbers h =
      mem_all p (rising from count)
      (λ x m.
      let a = rising_above from count x m in
      let b = rising_below from count m in
      let e : from + (x - from) ≡ x = omega arith in
      ap p (sym e) ∙ h (x - from) (omega arith))

  pub not_numbers : (k : ℕ) → k < count → p (from + k) ≡ false → all p (rising from count) ≡ false
  not_numbers k l e = all_no p (mem_rising from count (from + k) (omega arith) (omega arith)) e

-- the disjuncts of rule i of a form

-- where there is no disjunct
abbrev none : Disjunct
none = record { rule = record { body = []; head = [] }; atoms = []; before = 0 }

module _ (form : List ℕ) (i : ℕ) (l : i < length (rules_of form)) where
  pub functions_numbered : Held form → (d : ℕ) → d < length (rule_of form i).head → {from n : ℕ} → from ≡ functions_before form (i * 4 + d)
      → n ≡ length (existential (rule_of form i) (disjunct_of form i d)) → rising (suc from) n ≡ functions_of (numbered_of form i d)
  functions_numbered h d k p q = ap₂ (λ (x y : ℕ). rising (suc x) y) p q ∙ ap functions_of (sym (numbered_place form h i d l k))

  module _ (g : Told) where
    pub rule_none : ((d : ℕ) → d < length (rule_of form i).head → all (none_full_of g) (functions_of (numbered_of form i d)) ≡ true)
        → none_full g (entry_of form i).disjuncts ≡ true
    unfolding none_full numbered_of
    rule_none each =
        mem_all (λ (x : Disjunct). all (none_full_of g) (functions_of x)) (entry_of form i).disjuncts
        (λ x m.
        let (d, k, e) = mem_get_or none m in
        ap (λ (y : Disjunct). all (none_full_of g) (functions_of y)) (sym e) ∙ each d (omega (arith, count_numbered form i l)))

    pub rule_some : (d : ℕ) → d < length (rule_of form i).head → all (none_full_of g) (functions_of (numbered_of form i d)) ≡ false
        → none_full g (entry_of form i).disjuncts ≡ false
    unfolding none_full numbered_of
    rule_some d k e =
        all_no (λ (x : Disjunct). all (none_full_of g) (functions_of x)) (get_or_mem (entry_of form i).disjuncts d none (omega (arith, count_numbered form i l))) e

-- Laws of marks: one more term raised, and a mark passed down from a term to its arguments. Assumes nothing.
use mathlib.Core.Path.{◌≡◌, refl, sym, ap, ap₂, ◌∙◌}
use mathlib.Core.Bool.{Bool, true, false, ◌&&◌, ◌||◌, or_assoc, or-false}
use mathlib.Core.Logic.{⊎_elim}
use mathlib.Core.List.{List, [], ◌∷◌, Memᴰ}
use Prim.Native.Nat.{ℕ, zero, suc, max, ◌+◌, ◌≤◌, ◌<◌}
use native.Mathlib.Numerals.{add-one}
use native.Mathlib.Omega.{arith}
use native.Mathlib.Decide.{dec_lt}
use lib.Dec.{ltb}
use lib.ListN.{length, get_or, drop, set, length-set}
use lib.Seq.{get_or-set_same, get_or-set_other}
use borrow.Author.Tests.{ltb-true, lt-ltb, le-ltb, le-leb, lt-leb, eq-eqb, ne_eqb}
use Rattle.model.specs.Lists.{any}
use Rattle.laws.proofs.Bools.{and_true, true_and, or_true, or_left, or_right, is_false, both_ways}
use Rattle.laws.proofs.Nesting.{meeting_same, meeting_other}
use Rattle.rows.specs.Making.{most}
use Rattle.tables.specs.Terms.{function_of, arity_of, argument_of, arguments_of, Ordered, nesting_at}
use Rattle.tables.specs.Marks.{raised, passes, nests_marked, passed_down}
use Rattle.tables.proofs.Terms.{arguments_of_more, arguments_of_end, arguments_of_before, nesting_at_is}

-- the arguments of a term raised one by one

pub length_raised : (as' : List ℕ) (x : ℕ) (marks : List ℕ) → length (raised as' x marks) ≡ length marks
unfolding raised
length_raised [] x marks = refl
length_raised (a ∷ as') x marks = let y : ℕ = max (get_or marks a 0) x in length_raised as' x (set marks a y) ∙ length-set marks a y

pub raised_more : (t : List ℕ) (i j x : ℕ) (marks : List ℕ) → j < arity_of t i
    → raised (drop j (arguments_of t i)) x marks ≡ raised (drop (j + 1) (arguments_of t i)) x (set marks (argument_of t i j) (max (get_or marks (argument_of t i j) 0) x))
unfolding raised
raised_more t i j x marks h = ap (λ (as' : List ℕ). raised as' x marks) (arguments_of_more t i j h)

pub raised_end : (t : List ℕ) (i j x : ℕ) (marks : List ℕ) → arity_of t i ≤ j → raised (drop j (arguments_of t i)) x marks ≡ marks
unfolding raised
raised_end t i j x marks h = ap (λ (as' : List ℕ). raised as' x marks) (arguments_of_end t i j h)

-- what passes a depth

module _ (d : ℕ) where
  pub passes_true : (m n : ℕ) → passes d m n ≡ true → (0 < m) × (0 < n) × (d < m + n)
  unfolding passes
  passes_true m n h =
      let (a, b) = and_true (ltb 0 m) (ltb 0 n && ltb d (m + n)) h in
      let (x, y) = and_true (ltb 0 n) (ltb d (m + n)) b in
      (ltb-true 0 m a, ltb-true 0 n x, ltb-true d (m + n) y)

  pub true_passes : (m n : ℕ) → 0 < m → 0 < n → d < m + n → passes d m n ≡ true
  unfolding passes
  true_passes m n h k l =
      true_and (ltb 0 m) (ltb 0 n && ltb d (m + n)) (lt-ltb 0 m h) (true_and (ltb 0 n) (ltb d (m + n)) (lt-ltb 0 n k) (lt-ltb d (m + n) l))

  passes_unmarked : (n : ℕ) → passes d 0 n ≡ false
  passes_unmarked n = is_false (passes d 0 n) (λ h. let p = (passes_true 0 n h).0 in omega arith)

  passes_nothing : (m : ℕ) → passes d m 0 ≡ false
  passes_nothing m = is_false (passes d m 0) (λ h. let p = (passes_true m 0 h).1 in omega arith)

  -- of two marks the greater
  passes_mark : (m x n : ℕ) → passes d (max m x) n ≡ passes d m n || passes d x n
  passes_mark m x n =
      both_ways (passes d (max m x) n) (passes d m n || passes d x n)
      (λ h. let (a, b, c) = passes_true (max m x) n h in one a b c (dec_lt m x))
      (λ h. ⊎_elim (λ (e : passes d m n ≡ true). let (a, b, c) = passes_true m n e in true_passes (max m x) n (omega arith) b (omega arith))
      (λ (e : passes d x n ≡ true). let (a, b, c) = passes_true x n e in true_passes (max m x) n (omega arith) b (omega arith))
      (or_true (passes d m n) (passes d x n) h))
    where
      one : 0 < max m x → 0 < n → d < max m x + n → Dec (m < x) → passes d m n || passes d x n ≡ true
      one a b c (yes l) = or_right (passes d m n) (passes d x n) (true_passes x n (omega arith) b (omega arith))
      one a b c (no l) = or_left (passes d m n) (passes d x n) (true_passes m n (omega arith) b (omega arith))

  -- of two numbers the greater
  passes_more : (m x y : ℕ) → passes d m (max x y) ≡ passes d m x || passes d m y
  passes_more m x y =
      both_ways (passes d m (max x y)) (passes d m x || passes d m y)
      (λ h. let (a, b, c) = passes_true m (max x y) h in one a b c (dec_lt x y))
      (λ h. ⊎_elim (λ (e : passes d m x ≡ true). let (a, b, c) = passes_true m x e in true_passes m (max x y) a (omega arith) (omega arith))
      (λ (e : passes d m y ≡ true). let (a, b, c) = passes_true m y e in true_passes m (max x y) a (omega arith) (omega arith))
      (or_true (passes d m x) (passes d m y) h))
    where
      one : 0 < m → 0 < max x y → d < m + max x y → Dec (x < y) → passes d m x || passes d m y ≡ true
      one a b c (yes l) = or_right (passes d m x) (passes d m y) (true_passes m y a (omega arith) (omega arith))
      one a b c (no l) = or_left (passes d m x) (passes d m y) (true_passes m x a (omega arith) (omega arith))

  pub passes_most : (m : ℕ) (g : ℕ → ℕ) (xs : List ℕ) → passes d m (most g xs) ≡ any (λ (x : ℕ). passes d m (g x)) xs
  unfolding most any
  passes_most m g [] = passes_nothing m
  passes_most m g (x ∷ xs) = passes_more m (g x) (most g xs) ∙ ap (λ (b : Bool). passes d m (g x) || b) (passes_most m g xs)

  -- below the first place of a function
  pub passes_one : (n : ℕ) → 1 ≤ d → passes d 1 n ≡ ltb d (suc n)
  passes_one n h =
      both_ways (passes d 1 n) (ltb d (suc n)) (λ e. let l = (passes_true 1 n e).2 in lt-ltb d (suc n) (omega arith))
      (λ e. let l = ltb-true d (suc n) e in true_passes 1 n (omega arith) (omega arith) (omega arith))

  -- met once more, and still not too often
  passes_met : (m n : ℕ) → 0 < m → m < d → passes d m (suc n) ≡ passes d (suc m) n
  passes_met m n h k =
      both_ways (passes d m (suc n)) (passes d (suc m) n)
      (λ e. let l = (passes_true m (suc n) e).2 in true_passes (suc m) n (omega arith) (omega arith) (omega arith))
      (λ e. let l = (passes_true (suc m) n e).2 in true_passes m (suc n) h (omega arith) (omega arith))

or_swap : (a b c : Bool) → (a || b) || c ≡ (a || c) || b
or_swap true b c = refl
or_swap false true true = refl
or_swap false true false = refl
or_swap false false true = refl
or_swap false false false = refl

module _ (t : List ℕ) (f d : ℕ) where
  -- a mark behind the first n terms makes no difference
  nests_behind : (n a x : ℕ) (marks : List ℕ) → n ≤ a → nests_marked t f d n (set marks a x) ≡ nests_marked t f d n marks
  unfolding nests_marked
  nests_behind zero a x marks h = refl
  nests_behind (suc n) a x marks h =
      ap₂ (λ (b : Bool) (m : ℕ). b || passes d m (nesting_at t f n)) (nests_behind n a x marks (omega arith)) (get_or-set_other marks a n x 0 (λ e. omega arith))

  -- one more term raised
  nests_set : (n a x : ℕ) (marks : List ℕ) → a < n → a < length marks
      → nests_marked t f d n (set marks a (max (get_or marks a 0) x)) ≡ nests_marked t f d n marks || passes d x (nesting_at t f a)
  unfolding nests_marked
  nests_set zero a x marks h l = absurd (omega arith)
  nests_set (suc n) a x marks h l = go (λ k. nests_set n a x marks k l) (dec_lt a n)
    where
      y : ℕ
      y = max (get_or marks a 0) x

      here : n ≡ a → nests_marked t f d n marks || passes d (get_or (set marks n (max (get_or marks n 0) x)) n 0) (nesting_at t f n)
          ≡ (nests_marked t f d n marks || passes d (get_or marks n 0) (nesting_at t f n)) || passes d x (nesting_at t f n)
      here e =
          ap (λ (m : ℕ). nests_marked t f d n marks || passes d m (nesting_at t f n)) (get_or-set_same marks n (max (get_or marks n 0) x) 0 (omega arith))
          ∙ ap (λ (b : Bool). nests_marked t f d n marks || b) (passes_mark d (get_or marks n 0) x (nesting_at t f n))
          ∙ sym (or_assoc (nests_marked t f d n marks) (passes d (get_or marks n 0) (nesting_at t f n)) (passes d x (nesting_at t f n)))

      go : (a < n → nests_marked t f d n (set marks a y) ≡ nests_marked t f d n marks || passes d x (nesting_at t f a)) → Dec (a < n)
          → nests_marked t f d (suc n) (set marks a y) ≡ nests_marked t f d (suc n) marks || passes d x (nesting_at t f a)
      go below (yes k) =
          ap₂ (λ (b : Bool) (m : ℕ). b || passes d m (nesting_at t f n)) (below k) (get_or-set_other marks a n y 0 (λ e. omega arith))
          ∙ or_swap (nests_marked t f d n marks) (passes d x (nesting_at t f a)) (passes d (get_or marks n 0) (nesting_at t f n))
      go below (no k) =
          let e : n ≡ a = omega arith in
          ap (λ (b : Bool). b || passes d (get_or (set marks a y) n 0) (nesting_at t f n)) (nests_behind n a y marks (omega arith))
          ∙ ap (λ (c : ℕ). nests_marked t f d n marks || passes d (get_or (set marks c (max (get_or marks c 0) x)) n 0) (nesting_at t f n)) (sym e)
          ∙ here e
          ∙ ap (λ (c : ℕ). nests_marked t f d (suc n) marks || passes d x (nesting_at t f c)) e

  -- more terms raised
  pub nests_more : (n : ℕ) (as' : List ℕ) (x : ℕ) (marks : List ℕ) → ((a : ℕ) → Memᴰ a as' → a < n) → n ≤ length marks
      → nests_marked t f d n (raised as' x marks) ≡ nests_marked t f d n marks || any (λ (a : ℕ). passes d x (nesting_at t f a)) as'
  unfolding raised any
  nests_more n [] x marks h l = sym (or-false (nests_marked t f d n marks))
  nests_more n (a ∷ as') x marks h l =
      let b : a < n = h a (Memᴰ.head refl) in
      let y : ℕ = max (get_or marks a 0) x in
      nests_more n as' x (set marks a y) (λ z m. h z (Memᴰ.tail m)) (omega (arith, length-set marks a y))
      ∙ ap (λ (c : Bool). c || any (λ (z : ℕ). passes d x (nesting_at t f z)) as') (nests_set n a x marks b (omega arith))
      ∙ or_assoc (nests_marked t f d n marks) (passes d x (nesting_at t f a)) (any (λ (z : ℕ). passes d x (nesting_at t f z)) as')

  -- nothing is marked
  pub nests_none : (n : ℕ) (marks : List ℕ) → ((a : ℕ) → a < n → get_or marks a 0 ≡ 0) → nests_marked t f d n marks ≡ false
  unfolding nests_marked
  nests_none zero marks h = refl
  nests_none (suc n) marks h =
      ap₂ (λ (b : Bool) (m : ℕ). b || passes d m (nesting_at t f n)) (nests_none n marks (λ a l. h a (omega arith))) (h n (omega arith))
      ∙ passes_unmarked d (nesting_at t f n)

  -- one term further down: it is not marked, or f is met once too often, or once more, or not

  pub nests_unmarked : (n : ℕ) (marks : List ℕ) → get_or marks n 0 ≡ 0 → nests_marked t f d (suc n) marks ≡ nests_marked t f d n marks
  unfolding nests_marked
  nests_unmarked n marks e =
      ap (λ (m : ℕ). nests_marked t f d n marks || passes d m (nesting_at t f n)) e
      ∙ ap (λ (b : Bool). nests_marked t f d n marks || b) (passes_unmarked d (nesting_at t f n))
      ∙ or-false (nests_marked t f d n marks)

  pub passed_unmarked : (n : ℕ) (marks : List ℕ) → get_or marks n 0 ≡ 0 → passed_down t f d (suc n) marks ≡ passed_down t f d n marks
  unfolding passed_down
  passed_unmarked n marks e = rw (le-ltb 0 (get_or marks n 0) (omega arith), passed_down)

  module _ (n : ℕ) (marks : List ℕ) (some : 0 < get_or marks n 0) where
    abbrev mark : ℕ
    mark = get_or marks n 0

    pub passed_over : function_of t n ≡ f → d ≤ get_or marks n 0 → passed_down t f d (suc n) marks ≡ marks
    unfolding passed_down
    passed_over e h = rw (lt-ltb 0 mark some, eq-eqb f (function_of t n) (sym e), le-leb d mark h, passed_down)

    pub passed_met : function_of t n ≡ f → get_or marks n 0 < d
        → passed_down t f d (suc n) marks ≡ passed_down t f d n (raised (arguments_of t n) (get_or marks n 0 + 1) marks)
    unfolding passed_down
    passed_met e h =
        rw (lt-ltb 0 mark some, eq-eqb f (function_of t n) (sym e), lt-leb d mark h, passed_down)
        (ap (λ (x : ℕ). passed_down t f d n (raised (arguments_of t n) x marks)) (meeting_same f (function_of t n) mark e ∙ sym (add-one mark)))

    pub passed_other : (function_of t n ≡ f → ⊥) → passed_down t f d (suc n) marks ≡ passed_down t f d n (raised (arguments_of t n) (get_or marks n 0) marks)
    unfolding passed_down
    passed_other e =
        rw (lt-ltb 0 mark some, ne_eqb f (function_of t n) (λ q. e (sym q)), passed_down)
        (ap (λ (x : ℕ). passed_down t f d n (raised (arguments_of t n) x marks)) (meeting_other f (function_of t n) mark e))

    module _ {k : ℕ} (o : Ordered k t) (h : n < k) where
      -- below term n f is met so often on one way
      abbrev below : ℕ
      below = most (nesting_at t f) (arguments_of t n)

      nests_here : (x : ℕ) → nesting_at t f n ≡ x → nests_marked t f d (suc n) marks ≡ nests_marked t f d n marks || passes d (get_or marks n 0) x
      unfolding nests_marked
      nests_here x e = ap (λ (y : ℕ). nests_marked t f d n marks || passes d mark y) e

      nests_below : (x : ℕ) → n ≤ length marks → nests_marked t f d n marks || passes d x below ≡ nests_marked t f d n (raised (arguments_of t n) x marks)
      nests_below x l =
          ap (λ (b : Bool). nests_marked t f d n marks || b) (passes_most d x (nesting_at t f) (arguments_of t n))
          ∙ sym (nests_more n (arguments_of t n) x marks (λ a m. arguments_of_before o n a h m) l)

      pub nests_over : function_of t n ≡ f → d ≤ get_or marks n 0 → nests_marked t f d (suc n) marks ≡ true
      nests_over e l =
          nests_here (suc below) (nesting_at_is o f n h ∙ meeting_same f (function_of t n) below e)
          ∙ or_right (nests_marked t f d n marks) (passes d mark (suc below)) (true_passes d mark (suc below) some (omega arith) (omega arith))

      pub nests_met : function_of t n ≡ f → get_or marks n 0 < d → n ≤ length marks
          → nests_marked t f d (suc n) marks ≡ nests_marked t f d n (raised (arguments_of t n) (get_or marks n 0 + 1) marks)
      nests_met e l m =
          nests_here (suc below) (nesting_at_is o f n h ∙ meeting_same f (function_of t n) below e)
          ∙ ap (λ (b : Bool). nests_marked t f d n marks || b) (passes_met d mark below some l)
          ∙ nests_below (suc mark) m
          ∙ ap (λ (x : ℕ). nests_marked t f d n (raised (arguments_of t n) x marks)) (sym (add-one mark))

      pub nests_other : (function_of t n ≡ f → ⊥) → n ≤ length marks
          → nests_marked t f d (suc n) marks ≡ nests_marked t f d n (raised (arguments_of t n) (get_or marks n 0) marks)
      nests_other e m = nests_here below (nesting_at_is o f n h ∙ meeting_other f (function_of t n) below e) ∙ nests_below mark m

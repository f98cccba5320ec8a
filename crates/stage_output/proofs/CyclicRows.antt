-- Cyclic rows: by marks of their arguments; and the first of them, row by row. Assumes nothing.
use mathlib.Core.Path.{◌≡◌, refl, sym, ap, ◌∙◌, subst}
use mathlib.Core.Bool.{Bool, true, false, ◌||◌}
use mathlib.Core.Logic.{◌⊎◌, inl, inr}
use mathlib.Core.List.{List, [], ◌∷◌, ◌++◌, append-nil, Memᴰ}
use Prim.Native.Nat.{ℕ, suc, ◌+◌, ◌≤◌, ◌<◌}
use native.Mathlib.Numerals.{add-one}
use native.Mathlib.Omega.{arith}
use lib.Dec.{ltb}
use lib.ListN.{length, get_or, set}
use lib.Seq.{get_or-set_other}
use borrow.Author.Tests.{eq-eqb, ne_eqb}
use Rattle.std.specs.Prelude.{Option, None, Some, IsSome, IsNone, option_to_list}
use Rattle.std.specs.Bool.{then_some}
use Rattle.model.specs.Lists.{any, collect, numbers_from}
use Rattle.laws.proofs.Bools.{case, not_both}
use Rattle.laws.proofs.Lists.{collect_append}
use Rattle.laws.proofs.Places.{numbers_from_more}
use Rattle.tables.specs.Rows.{rows}
use Rattle.tables.specs.Terms.{argument_of, arguments_of, Ordered, nesting_at}
use Rattle.tables.specs.Marks.{raised, passes, nests_marked}
use Rattle.tables.proofs.Terms.{arguments_of_mem, most_agree}
use Rattle.tables.proofs.Marks.{passes_one, passes_most, nests_more, nests_none}
use Rattle.tables.proofs.Tables.{rows_length}
use Rattle.rows.specs.Copies.{arguments_in}
use Rattle.tables.proofs.Cells.{numbers_from_take}
use Rattle.rows.specs.Making.{Ground as Told, most, nesting_in, cyclic_row, first_cyclic}
use Rattle.stage_output.specs.Cyclic.{Arguments, ground_in, Standable, row_with, rows_with, Unchanging}
use Rattle.stage_output.proofs.Flat.{nesting_in_is}
use Rattle.stage_output.specs.declared.cyclic.Ground.{Ground}

-- the first terms of a table by themselves
pub ordered_front : {n : ℕ} {t : List ℕ} (k : ℕ) → k ≤ n → Ordered n t → Ordered k t
ordered_front k h o =
    record { room = let r = o.room in omega arith; arity = λ i l. o.arity i (omega arith); before = λ i j l m. o.before i j (omega arith) m }

-- the arguments of a row, as of the first term of a table

pub argument_first : (row : List ℕ) (j : ℕ) → argument_of row 0 j ≡ get_or row (j + 2) 0
argument_first row j = let e : 2 + j ≡ j + 2 = omega arith in ap (λ (k : ℕ). get_or row k 0) e

arguments_first : (row : List ℕ) → length row ≡ 10 → get_or row 1 0 ≤ 8 → arguments_in row ≡ arguments_of row 0
unfolding arguments_in arguments_of
arguments_first row long h = sym (numbers_from_take row 2 (get_or row 1 0) (omega arith))

-- a row is cyclic where its function stands too often on a way through a marked term, when its arguments are marked once and nothing else, of
-- the first k, which they are among
pub cyclic_marked : {g : Ground} {k : ℕ} {t row : List ℕ} → Standable g t → k ≤ g.terms → length row ≡ 10 → Arguments k row
    → (marks : List ℕ) → k ≤ length marks → ((a : ℕ) → a < k → get_or marks a 0 ≡ 0)
    → cyclic_row (ground_in g t) row ≡ nests_marked t (get_or row 0 0) g.depth k (raised (arguments_of row 0) 1 marks)
unfolding cyclic_row
cyclic_marked {g} {k} {t} {row} s few long h marks room none =
    ap (λ (as' : List ℕ). ltb g.depth (suc (most (nesting_in (length table) table f) as'))) (arguments_first row long h.few)
    ∙ ap (λ (n : ℕ). ltb g.depth (suc n)) (most_agree (nesting_in (length table) table f) (nesting_at t f) (arguments_of row 0)
    (λ a m. let l = below a m in nesting_in_is s.ordered (length table) f a (omega arith) (omega (arith, rows_length 10 g.terms t))))
    ∙ sym (passes_one g.depth (most (nesting_at t f) (arguments_of row 0)) s.deep)
    ∙ passes_most g.depth 1 (nesting_at t f) (arguments_of row 0)
    ∙ sym (nests_more t f g.depth k (arguments_of row 0) 1 marks below room ∙ ap (λ (b : Bool). b || any (λ (a : ℕ). passes g.depth 1 (nesting_at t f a)) (arguments_of row 0)) (nests_none t f g.depth k marks none))
  where
    table : List (List ℕ)
    table = rows 10 g.terms t

    f : ℕ
    f = get_or row 0 0

    below : (a : ℕ) → Memᴰ a (arguments_of row 0) → a < k
    below a m = let (j, l, e) = arguments_of_mem row 0 m in omega (arith, e, argument_first row j, h.within j l)

-- a row with another function has the same arguments
pub arguments_set : {n : ℕ} {template : List ℕ} (f : ℕ) → Arguments n template → Arguments n (set template 0 f)
arguments_set {n} {template} f h =
    let e : get_or (set template 0 f) 1 0 ≡ get_or template 1 0 = get_or-set_other template 0 1 f 0 (λ p. omega arith) in
    record {
      few = omega (arith, h.few);
      within = λ j l. subst (λ (x : ℕ). x < n) (sym (get_or-set_other template 0 (j + 2) f 0 (λ p. omega arith)))
          (h.within j (subst (λ (x : ℕ). j < x) e l));
    }

-- the first cyclic row

module _ (g : Told) where
  pub first_none : (ls : List (List ℕ)) → first_cyclic g ls [] ≡ ls
  unfolding first_cyclic
  first_none [] = refl
  first_none (l ∷ ls) = refl

  pub first_append : (ls xs ys : List (List ℕ)) → first_cyclic g ls (xs ++ ys) ≡ first_cyclic g (first_cyclic g ls xs) ys
  unfolding first_cyclic
  first_append (l ∷ ls) xs ys = refl
  first_append [] [] ys = refl
  first_append [] (x ∷ xs) ys = go (first_append [] xs ys) (case (cyclic_row g x))
    where
      go : first_cyclic g [] (xs ++ ys) ≡ first_cyclic g (first_cyclic g [] xs) ys → (cyclic_row g x ≡ true) ⊎ (cyclic_row g x ≡ false)
          → first_cyclic g [] (x ∷ (xs ++ ys)) ≡ first_cyclic g (first_cyclic g [] (x ∷ xs)) ys
      go below (inl e) = rw (e, first_cyclic)
      go below (inr e) = rw (e, first_cyclic) below

  -- one was found before
  pub first_old : (c : Option (List ℕ)) (rs : List (List ℕ)) → IsSome c → option_to_list c ≡ first_cyclic g (option_to_list c) rs
  unfolding first_cyclic
  first_old (Some l) rs e = refl
  first_old None rs e = not_both false e refl

  -- a variable of the body
  pub first_without : (c : Option (List ℕ)) (f : ℕ) (template : List ℕ) → f ≡ 0 → option_to_list c ≡ first_cyclic g (option_to_list c) (row_with f template)
  unfolding row_with
  first_without c f template e = sym (rw (eq-eqb f 0 e, row_with) (first_none (option_to_list c)))

  module _ (f : ℕ) (template : List ℕ) (some : f ≡ 0 → ⊥) (found : Bool) (p : found ≡ cyclic_row g (set template 0 f)) where
    first_found : option_to_list (then_some found (set template 0 f)) ≡ first_cyclic g [] (row_with f template)
    unfolding row_with first_cyclic
    first_found = rw (ne_eqb f 0 some, row_with) (go found p)
      where
        go : (b : Bool) → b ≡ cyclic_row g (set template 0 f) → option_to_list (then_some b (set template 0 f)) ≡ first_cyclic g [] (set template 0 f ∷ [])
        go true q = rw (sym q, first_cyclic) refl
        go false q = rw (sym q, first_cyclic) refl

    -- a variable with a Skolem function, by its test
    pub first_test : (c : Option (List ℕ)) → IsNone c → option_to_list (then_some found (set template 0 f)) ≡ first_cyclic g (option_to_list c) (row_with f template)
    first_test None e = first_found
    first_test (Some l) e = not_both true refl e

    -- a function that was tested makes no difference again
    pub unchanging_again : Unchanging g template (then_some found (set template 0 f)) f
    unchanging_again = go found p first_found
      where
        go : (b : Bool) → b ≡ cyclic_row g (set template 0 f) → option_to_list (then_some b (set template 0 f)) ≡ first_cyclic g [] (row_with f template)
            → Unchanging g template (then_some b (set template 0 f)) f
        go true q e = first_old (Some (set template 0 f)) (row_with f template) refl
        go false q e = e

-- the Skolem rows of an atom's variables, one more
pub rows_with_none : (functions template atom : List ℕ) → rows_with functions template (numbers_from atom 1 0) ≡ []
unfolding rows_with numbers_from collect
rows_with_none functions template atom = refl

pub rows_with_more : (functions template atom : List ℕ) (p : ℕ)
    → rows_with functions template (numbers_from atom 1 (p + 1)) ≡ rows_with functions template (numbers_from atom 1 p) ++ row_with (get_or functions (get_or atom (p + 1) 0) 0) template
unfolding rows_with collect
rows_with_more functions template atom p =
    let with : ℕ → List (List ℕ) = λ v. row_with (get_or functions v 0) template in
    let e : 1 + p ≡ p + 1 = omega arith in
    ap (λ (k : ℕ). collect with (numbers_from atom 1 k)) (add-one p)
    ∙ ap (collect with) (numbers_from_more atom 1 p)
    ∙ collect_append with (numbers_from atom 1 p) (get_or atom (1 + p) 0 ∷ [])
    ∙ ap (λ (rs : List (List ℕ)). collect with (numbers_from atom 1 p) ++ rs) (append-nil (with (get_or atom (1 + p) 0)))
    ∙ ap (λ (k : ℕ). collect with (numbers_from atom 1 p) ++ with (get_or atom k 0)) e

-- Laws of copies: a copy argument by argument, whatever bounds its depth; and that tables only grow. Assumes nothing.
use mathlib.Core.Path.{◌≡◌, refl, sym, ap, ◌∙◌, subst}
use mathlib.Core.Bool.{true, false}
use mathlib.Core.List.{List, [], ◌∷◌, ◌++◌, Memᴰ}
use mathlib.Core.Logic.{◌⊎◌, inl, inr}
use Prim.Native.Nat.{ℕ, zero, suc, ◌+◌, ◌-◌, ◌*◌, ◌≤◌, ◌<◌}
use native.Mathlib.Nat.{add-zero}
use native.Mathlib.Numerals.{add-one}
use native.Mathlib.Omega.{arith}
use lib.Dec.{eqb}
use lib.ListN.{length, get_or, take, drop, set, replicate, length-append}
use lib.Seq.{take_all, take-suc, take-add, length-take-le}
use borrow.Author.Tests.{eqb-true}
use Rattle.model.specs.Lists.{padded}
use Rattle.laws.proofs.Bools.{case}
use Rattle.laws.proofs.Places.{length_padded, length_numbers_from, get_or_numbers_from}
use Rattle.tables.specs.Rows.{rows}
use Rattle.tables.specs.Terms.{Ordered, function_of, arity_of, copied_arity, argument_of, arguments_of}
use Rattle.tables.proofs.Tables.{rows_length}
use Rattle.tables.proofs.Cells.{get_or_cell, row_function, arguments_in_row}
use Rattle.facts.proofs.Rows.{padded_more}
use Rattle.tables.proofs.Terms.{arguments_of_before}
use Rattle.rows.specs.Copies.{constant_row, arguments_in, Copies, copy_all, copy_term}
use Rattle.facts.specs.Room.{Room}

-- the arguments of a term, by number

arguments_length : (t : List ℕ) (i : ℕ) → length (arguments_of t i) ≡ arity_of t i
unfolding arguments_of
arguments_length t i = length_numbers_from t (i * 10 + 2) (arity_of t i)

-- copies of a list of terms

copy_all_agree : (f g : ℕ → List (List ℕ) → List (List ℕ)) (is : List ℕ) (c : Copies)
    → ((x : ℕ) → Memᴰ x is → (ts : List (List ℕ)) → f x ts ≡ g x ts) → copy_all f is c ≡ copy_all g is c
unfolding copy_all
copy_all_agree f g [] c h = refl
copy_all_agree f g (i ∷ is) c h =
    ap (λ (ts : List (List ℕ)). copy_all f is (record { numbers = c.numbers ++ ((length ts - 1) ∷ []); terms = ts })) (h i (Memᴰ.head refl) c.terms)
    ∙ copy_all_agree f g is (record { numbers = c.numbers ++ ((length (g i c.terms) - 1) ∷ []); terms = g i c.terms }) (λ x p ts. h x (Memᴰ.tail p) ts)

pub copy_all_append : (f : ℕ → List (List ℕ) → List (List ℕ)) (is js : List ℕ) (c : Copies) → copy_all f (is ++ js) c ≡ copy_all f js (copy_all f is c)
unfolding copy_all
copy_all_append f [] js c = refl
copy_all_append f (i ∷ is) js c = copy_all_append f is js (record { numbers = c.numbers ++ ((length (f i c.terms) - 1) ∷ []); terms = f i c.terms })

pub copy_all_numbers : (f : ℕ → List (List ℕ) → List (List ℕ)) (is : List ℕ) (c : Copies)
    → length (copy_all f is c).numbers ≡ length c.numbers + length is
unfolding copy_all
copy_all_numbers f [] c = sym (add-zero (length c.numbers))
copy_all_numbers f (i ∷ is) c =
    let next : Copies = record { numbers = c.numbers ++ ((length (f i c.terms) - 1) ∷ []); terms = f i c.terms } in
    let e = length-append c.numbers ((length (f i c.terms) - 1) ∷ []) in
    copy_all_numbers f is next ∙ omega arith

pub copy_all_grows : (f : ℕ → List (List ℕ) → List (List ℕ)) → ((i : ℕ) (ts : List (List ℕ)) → length ts < length (f i ts)) → (is : List ℕ) (c : Copies)
    → length c.terms ≤ length (copy_all f is c).terms
unfolding copy_all
copy_all_grows f g [] c = omega arith
copy_all_grows f g (i ∷ is) c =
    let a = g i c.terms in
    let b = copy_all_grows f g is (record { numbers = c.numbers ++ ((length (f i c.terms) - 1) ∷ []); terms = f i c.terms }) in
    omega arith

pub copy_term_grows : (k : ℕ) (s : List (List ℕ)) (i : ℕ) (ts : List (List ℕ)) → length ts < length (copy_term k s i ts)
unfolding copy_term
copy_term_grows zero s i ts = rw length-append (omega arith)
copy_term_grows (suc k) s i ts = go (copy_all_grows (copy_term k s) (λ j us. copy_term_grows k s j us) (arguments_in (get_or s i [])) (record { numbers = []; terms = ts })) (case (eqb (get_or (get_or s i []) 0 0) 0))
  where
    go : length ts ≤ length (copy_all (copy_term k s) (arguments_in (get_or s i [])) (record { numbers = []; terms = ts })).terms
        → (eqb (get_or (get_or s i []) 0 0) 0 ≡ true) ⊎ (eqb (get_or (get_or s i []) 0 0) 0 ≡ false) → length ts < length (copy_term (suc k) s i ts)
    go b (inl e) = rw (e, copy_term) (rw length-append (omega arith))
    go b (inr e) = rw (e, copy_term) (rw length-append (omega arith))

-- what is made of a row and of the copies of its arguments
abbrev copied : List ℕ → List (List ℕ) → Copies → List (List ℕ)
copied r ts c =
    elim (eqb (get_or r 0 0) 0) [ true ↦ ts ++ (constant_row ∷ []) | false ↦ c.terms ++ (padded 10 (get_or r 0 0 ∷ get_or r 1 0 ∷ c.numbers) ∷ []) ]

-- every bound above the term's number gives the same
pub copy_term_same : {n : ℕ} {t : List ℕ} → Ordered n t → (k m i : ℕ) → i < n → i < k → i < m → (ts : List (List ℕ))
    → copy_term k (rows 10 n t) i ts ≡ copy_term m (rows 10 n t) i ts
unfolding copy_term
copy_term_same o zero m i h a b ts = absurd (omega arith)
copy_term_same o (suc k) zero i h a b ts = absurd (omega arith)
copy_term_same {n} {t} o (suc k) (suc m) i h a b ts =
    ap (copied (get_or (rows 10 n t) i []) ts)
    (copy_all_agree (copy_term k (rows 10 n t)) (copy_term m (rows 10 n t)) (arguments_in (get_or (rows 10 n t) i [])) (record { numbers = []; terms = ts })
    (λ x p us.
    let l = arguments_of_before o i x h (subst (λ (xs : List ℕ). Memᴰ x xs) (arguments_in_row o i h) p) in
    copy_term_same o k m x (omega arith) (omega arith) (omega arith) us))

-- the copies of the first j arguments of term i
pub up_to : ℕ → List ℕ → ℕ → List (List ℕ) → ℕ → Copies
up_to n t i ts j = copy_all (copy_term n (rows 10 n t)) (take j (arguments_of t i)) (record { numbers = []; terms = ts })

pub up_to_none : (n : ℕ) (t : List ℕ) (i : ℕ) (ts : List (List ℕ)) → up_to n t i ts 0 ≡ record { numbers = []; terms = ts }
unfolding up_to copy_all
up_to_none n t i ts = refl

pub up_to_more : (n : ℕ) (t : List ℕ) (i : ℕ) (ts : List (List ℕ)) (j : ℕ) → j < arity_of t i
    → up_to n t i ts (j + 1)
    ≡ (let us : List (List ℕ) = copy_term n (rows 10 n t) (argument_of t i j) (up_to n t i ts j).terms in
    record { numbers = (up_to n t i ts j).numbers ++ ((length us - 1) ∷ []); terms = us })
unfolding up_to copy_all arguments_of
up_to_more n t i ts j h =
    let l = arguments_length t i in
    ap (λ (k : ℕ). up_to n t i ts k) (add-one j)
    ∙ ap (λ (xs : List ℕ). copy_all (copy_term n (rows 10 n t)) xs (record { numbers = []; terms = ts }))
    (take-suc (arguments_of t i) j 0 (omega arith) ∙ ap (λ (a : ℕ). take j (arguments_of t i) ++ (a ∷ [])) (get_or_numbers_from t (i * 10 + 2) (arity_of t i) j h))
    ∙ copy_all_append (copy_term n (rows 10 n t)) (take j (arguments_of t i)) (argument_of t i j ∷ []) (record { numbers = []; terms = ts })

pub up_to_numbers : (n : ℕ) (t : List ℕ) (i : ℕ) (ts : List (List ℕ)) (j : ℕ) → j ≤ arity_of t i → length (up_to n t i ts j).numbers ≡ j
unfolding up_to
up_to_numbers n t i ts j h =
    let l = arguments_length t i in
    let e = copy_all_numbers (copy_term n (rows 10 n t)) (take j (arguments_of t i)) (record { numbers = []; terms = ts }) in
    let k = length-take-le j (arguments_of t i) (omega arith) in
    omega arith

pub up_to_grows : (n : ℕ) (t : List ℕ) (i : ℕ) (ts : List (List ℕ)) (j k : ℕ) → j ≤ k → length (up_to n t i ts j).terms ≤ length (up_to n t i ts k).terms
unfolding up_to
up_to_grows n t i ts j k h =
    let f = copy_term n (rows 10 n t) in
    let start : Copies = record { numbers = []; terms = ts } in
    let e : j + (k - j) ≡ k = omega arith in
    let b = copy_all_grows f (λ x us. copy_term_grows n (rows 10 n t) x us) (take (k - j) (drop j (arguments_of t i))) (copy_all f (take j (arguments_of t i)) start) in
    let q : (up_to n t i ts k).terms ≡ (copy_all f (take (k - j) (drop j (arguments_of t i))) (copy_all f (take j (arguments_of t i)) start)).terms =
    ap (λ (m : ℕ). (copy_all f (take m (arguments_of t i)) start).terms) (sym e)
    ∙ ap (λ (xs : List ℕ). (copy_all f xs start).terms) (take-add j (k - j) (arguments_of t i))
    ∙ ap (λ (c : Copies). c.terms) (copy_all_append f (take j (arguments_of t i)) (take (k - j) (drop j (arguments_of t i))) start) in
    omega (arith, ap length q)

pub copied_arity_le : (t : List ℕ) (i : ℕ) → copied_arity t i ≤ arity_of t i
unfolding copied_arity
copied_arity_le t i = go (case (eqb (function_of t i) 0))
  where
    go : (eqb (function_of t i) 0 ≡ true) ⊎ (eqb (function_of t i) 0 ≡ false) → copied_arity t i ≤ arity_of t i
    go (inl e) = rw (e, copied_arity) (omega arith)
    go (inr e) = rw (e, copied_arity) (omega arith)

-- a term is copied: its arguments, and then its row
module _ {n : ℕ} {t : List ℕ} (o : Ordered n t) (i : ℕ) (h : i < n) (ts : List (List ℕ)) where
  copy_term_constant : (k : ℕ) → eqb (get_or (get_or (rows 10 n t) i []) 0 0) 0 ≡ true → copy_term k (rows 10 n t) i ts ≡ ts ++ (constant_row ∷ [])
  unfolding copy_term
  copy_term_constant zero q = refl
  copy_term_constant (suc k) q = rw (q, copy_term)

  abbrev made : ℕ → ℕ → Copies → List (List ℕ)
  made f a c = c.terms ++ (padded 10 (f ∷ a ∷ c.numbers) ∷ [])

  copy_term_open : (k : ℕ) → eqb (get_or (get_or (rows 10 n t) i []) 0 0) 0 ≡ false
      → copy_term (suc k) (rows 10 n t) i ts
      ≡ made (get_or (get_or (rows 10 n t) i []) 0 0) (get_or (get_or (rows 10 n t) i []) 1 0) (copy_all (copy_term k (rows 10 n t)) (arguments_in (get_or (rows 10 n t) i [])) (record { numbers = []; terms = ts }))
  unfolding copy_term
  copy_term_open k q = rw (q, copy_term)

  copy_term_skolem : eqb (function_of t i) 0 ≡ false
      → copy_term n (rows 10 n t) i ts
      ≡ made (function_of t i) (arity_of t i) (copy_all (copy_term n (rows 10 n t)) (arguments_of t i) (record { numbers = []; terms = ts }))
  copy_term_skolem e =
      let one : 1 < 10 = omega arith in
      let p = row_function n t i h in
      let q = get_or_cell n t i 1 h one in
      let r = arguments_in_row o i h in
      copy_term_same o n (suc n) i h h (omega arith) ts
      ∙ copy_term_open n (ap (λ (f : ℕ). eqb f 0) p ∙ e)
      ∙ (λ k. made (p k) (q k) (copy_all (copy_term n (rows 10 n t)) (r k) (record { numbers = []; terms = ts })))

  pub copy_term_is : copy_term n (rows 10 n t) i ts ≡ made (function_of t i) (copied_arity t i) (up_to n t i ts (copied_arity t i))
  unfolding up_to copied_arity copy_all padded
  copy_term_is = go (case (eqb (function_of t i) 0))
    where
      go : (eqb (function_of t i) 0 ≡ true) ⊎ (eqb (function_of t i) 0 ≡ false)
          → copy_term n (rows 10 n t) i ts ≡ made (function_of t i) (copied_arity t i) (up_to n t i ts (copied_arity t i))
      go (inl e) =
          copy_term_constant n (ap (λ (f : ℕ). eqb f 0) (row_function n t i h) ∙ e) ∙ rw (e, copied_arity) (rw (eqb-true (function_of t i) 0 e) refl)
      go (inr e) =
          copy_term_skolem e
          ∙ rw (e, copied_arity)
          (ap
          (λ (xs : List ℕ). made (function_of t i) (arity_of t i) (copy_all (copy_term n (rows 10 n t)) xs (record { numbers = []; terms = ts })))
          (sym (take_all (arity_of t i) (arguments_of t i) (let l = arguments_length t i in omega arith))))

-- the first j arguments are copied: what the table holds, and the row so far
pub record Copied (n : ℕ) (t : List ℕ) (i : ℕ) (ts : List (List ℕ)) (table line : List ℕ) (m j : ℕ) : Type 0 where
  pub within : j ≤ copied_arity t i
  pub held : rows 10 m table ≡ (up_to n t i ts j).terms
  pub row : line ≡ padded 10 (function_of t i ∷ copied_arity t i ∷ (up_to n t i ts j).numbers)

pub copied_none : (n : ℕ) (t : List ℕ) (i m : ℕ) (table : List ℕ)
    → Copied n t i (rows 10 m table) table (set (set (replicate 10 0) 0 (function_of t i)) 1 (copied_arity t i)) m 0
unfolding padded
copied_none n t i m table =
    record {
      within = omega arith;
      held = ap (λ (c : Copies). c.terms) (sym (up_to_none n t i (rows 10 m table)));
      row = ap (λ (c : Copies). padded 10 (function_of t i ∷ copied_arity t i ∷ c.numbers)) (sym (up_to_none n t i (rows 10 m table)));
    }

module _ {n : ℕ} {t : List ℕ} (o : Ordered n t) (i : ℕ) (h : i < n) {ts : List (List ℕ)} {table line : List ℕ} {m j : ℕ} (c : Copied n t i ts table line m j) where
  copied_arity_is : j ≤ 8
  copied_arity_is = let a = o.arity i h in let b = copied_arity_le t i in let w = c.within in omega arith

  copied_numbers : length (up_to n t i ts j).numbers ≡ j
  copied_numbers = let b = copied_arity_le t i in let w = c.within in up_to_numbers n t i ts j (omega arith)

  pub copied_length : length line ≡ 10
  copied_length =
      let a = copied_arity_is in
      let b = copied_numbers in
      ap length c.row ∙ length_padded 10 (function_of t i ∷ copied_arity t i ∷ (up_to n t i ts j).numbers) (omega arith)

  pub copied_more : (table' : List ℕ) (m' : ℕ) → j < copied_arity t i
      → rows 10 m' table' ≡ copy_term n (rows 10 n t) (argument_of t i j) (rows 10 m table)
      → Copied n t i ts table' (set line (2 + j) (m' - 1)) m' (j + 1)
  copied_more table' m' l e =
      let b = copied_arity_le t i in
      let us : List (List ℕ) = copy_term n (rows 10 n t) (argument_of t i j) (up_to n t i ts j).terms in
      let more = up_to_more n t i ts j (omega arith) in
      let e' : rows 10 m' table' ≡ us = e ∙ ap (copy_term n (rows 10 n t) (argument_of t i j)) c.held in
      let count : m' ≡ length us = sym (rows_length 10 m' table') ∙ ap length e' in
      let xs : List ℕ = function_of t i ∷ copied_arity t i ∷ (up_to n t i ts j).numbers in
      let a = o.arity i h in
      let k = copied_numbers in
      let size : length xs ≡ 2 + j = omega arith in
      record {
        within = omega arith;
        held = e' ∙ sym (ap (λ (d : Copies). d.terms) more);
        row =
            ap (λ (r : List ℕ). set r (2 + j) (m' - 1)) c.row
            ∙ ap (λ (p : ℕ). set (padded 10 xs) p (m' - 1)) (sym size)
            ∙ padded_more 10 xs (m' - 1) (omega arith)
            ∙ ap (λ (p : ℕ). padded 10 (xs ++ ((p - 1) ∷ []))) count
            ∙ sym (ap (λ (d : Copies). padded 10 (function_of t i ∷ copied_arity t i ∷ d.numbers)) more);
      }

  pub copied_below : j < copied_arity t i
      → length (copy_term n (rows 10 n t) (argument_of t i j) (rows 10 m table)) < length (copy_term n (rows 10 n t) i ts)
  copied_below k =
      let b = copied_arity_le t i in
      let more = up_to_more n t i ts j (omega arith) in
      let g = up_to_grows n t i ts (j + 1) (copied_arity t i) (omega arith) in
      let z = length-append (up_to n t i ts (copied_arity t i)).terms (padded 10 (function_of t i ∷ copied_arity t i ∷ (up_to n t i ts (copied_arity t i)).numbers) ∷ []) in
      rw (copy_term_is o i h ts, c.held) (omega (arith, ap (λ (d : Copies). length d.terms) more))

  -- an argument has room, and a number that a cell holds
  pub copied_room : {space : List ℕ} → Room 12 space (copy_term n (rows 10 n t) i ts) → j < copied_arity t i
      → Room 12 space (copy_term n (rows 10 n t) (argument_of t i j) (rows 10 m table))
  copied_room r k =
      let b = copied_below k in
      let f = r.fits in
      let w = r.few in
      record { fits = omega arith; few = omega arith }

  pub copied_number : {space : List ℕ} → Room 12 space (copy_term n (rows 10 n t) i ts) → j < copied_arity t i → (m' : ℕ) (table' : List ℕ)
      → rows 10 m' table' ≡ copy_term n (rows 10 n t) (argument_of t i j) (rows 10 m table) → (1 ≤ m') × (m' < 65536)
  copied_number r k m' table' e =
      let b = copied_below k in
      let w = r.few in
      let g = copy_term_grows n (rows 10 n t) (argument_of t i j) (rows 10 m table) in
      let q : m' ≡ length (copy_term n (rows 10 n t) (argument_of t i j) (rows 10 m table)) = sym (rows_length 10 m' table') ∙ ap length e in
      (omega arith, omega arith)

  pub copied_all : j ≡ copied_arity t i → rows 10 m table ++ (line ∷ []) ≡ copy_term n (rows 10 n t) i ts
  copied_all e =
      (λ k. c.held k ++ (c.row k ∷ []))
      ∙ ap (λ (p : ℕ). (up_to n t i ts p).terms ++ (padded 10 (function_of t i ∷ copied_arity t i ∷ (up_to n t i ts p).numbers) ∷ [])) e
      ∙ sym (copy_term_is o i h ts)

  pub copied_last : {space : List ℕ} → Room 12 space (copy_term n (rows 10 n t) i ts) → j ≡ copied_arity t i → (suc m * 12 ≤ length space) × (suc m < 65536)
  copied_last r e =
      let f = r.fits in
      let w = r.few in
      let q : length (copy_term n (rows 10 n t) i ts) ≡ suc m =
      ap length (sym (copied_all e)) ∙ length-append (rows 10 m table) (line ∷ []) ∙ ap (λ (k : ℕ). k + 1) (rows_length 10 m table) ∙ add-one m in
      (omega arith, omega arith)

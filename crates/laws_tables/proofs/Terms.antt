-- A table of term rows spells out the terms that it was made from. Assumes nothing.
use mathlib.Core.Path.{◌≡◌, refl, ap, ap₂, ◌∙◌, subst}
use mathlib.Core.Bool.{true, false}
use mathlib.Core.List.{List, [], ◌∷◌, ◌++◌, map, Memᴰ}
use Prim.Native.Nat.{ℕ, zero, suc, ◌+◌, ◌-◌, ◌≤◌, ◌<◌}
use native.Mathlib.Nat.{zero-add, add-zero, add-suc, suc-add}
use native.Mathlib.Omega.{arith}
use lib.Dec.{eqb, ltb}
use lib.ListN.{length, get_or, take, drop, replicate, length-map, length-append, get_or-append}
use lib.Seq.{take_at}
use borrow.Author.Tests.{ne_eqb, lt-ltb, le-ltb}
use Rattle.model.specs.Limits.{fixed_mark}
use Rattle.model.specs.Lists.{collect, padded, row}
use Rattle.model.specs.Term.{Term, Terms, star, fixed, skolem, list, terms}
use Rattle.model.specs.Tables.{number, term_row}
use Rattle.model.specs.Spelled.{term_at, spelled_terms}
use Rattle.laws.proofs.Terms.{terms_list}
use Rattle.laws.proofs.Places.{length_padded}
use Rattle.laws_tables.proofs.Rows.{row_collect}
use Rattle.laws_tables.proofs.Numbering.{number_below, get_or_number}

-- A term that record i can hold, over terms numbered by ts. c says what a record of zeros is. No Skolem function is as high as the
-- mark of a rule constant.
pub data Recordable (c : ℕ → Term) (ts : List Term) (i : ℕ) : Term → Type 0 where
  plain : {t : Term} → term_row ts t ≡ replicate 10 0 → c i ≡ t → Recordable c ts i t
  known : {n : ℕ} → n < 3 → Recordable c ts i (fixed n)
  marked : {f : ℕ} {us : Terms} → 1 ≤ f → f ≤ 2048 → length (list us) ≤ 8 → ((a : Term) → Memᴰ a (list us) → Memᴰ a ts × (number ts a < i))
      → Recordable c ts i (skolem f us)

-- terms whose arguments stand before them, and after them some more over these
abbrev pub TermList : (ℕ → Term) → List Term → List Term → Type 0
TermList c ts us = (i : ℕ) → i < length (ts ++ us) → Recordable c ts i (get_or (ts ++ us) i star)

pub length_term_row : {c : ℕ → Term} {ts : List Term} {i : ℕ} {t : Term} → Recordable c ts i t → length (term_row ts t) ≡ 10
unfolding term_row
length_term_row (plain e k) = ap length e
length_term_row (known {n} h) = length_padded 10 ((fixed_mark + n) ∷ []) (omega arith)
length_term_row {ts = ts} (marked {f} {us} h b l k) =
    length_padded 10 (f ∷ length (list us) ∷ map (number ts) (list us)) (rw (length-map (list us) (number ts)) (omega arith))

pub recordable_mem : (c : ℕ → Term) (ts us : List Term) → TermList c ts us → {t : Term} → Memᴰ t (ts ++ us)
    → Recordable c ts (number (ts ++ us) t) t
recordable_mem c ts us h {t} m =
    subst (λ (x : Term). Recordable c ts (number (ts ++ us) t) x) (get_or_number t star m) (h (number (ts ++ us) t) (number_below t m))

-- one record, read

abbrev from_row : (ℕ → Term) → (ℕ → Term) → ℕ → List ℕ → Term
from_row c g i r =
    elim (eqb (get_or r 0 0) 0) [
      | true ↦ c i
      | false ↦
          elim (ltb (get_or r 0 0) fixed_mark) [
            | true ↦ skolem (get_or r 0 0) (terms (map g (take (get_or r 1 0) (drop 2 r))))
            | false ↦ fixed (get_or r 0 0 - fixed_mark)
          ]
    ]

term_at_row : (c : ℕ → Term) (k i : ℕ) (table r : List ℕ) → row 10 i table ≡ r → term_at c (suc k) table i ≡ from_row c (term_at c k table) i r
unfolding term_at
term_at_row c k i table r e = ap (from_row c (term_at c k table) i) e

from_row_fixed : (c g : ℕ → Term) (i n : ℕ) → from_row c g i (padded 10 ((fixed_mark + n) ∷ [])) ≡ fixed n
unfolding padded
from_row_fixed c g i n =
    rw (ne_eqb (fixed_mark + n) 0 (omega arith), le-ltb (fixed_mark + n) fixed_mark (omega arith), from_row) (ap fixed (omega arith))

from_row_skolem : (c g : ℕ → Term) (i f n : ℕ) (ns : List ℕ) → 1 ≤ f → f ≤ 2048 → length ns ≡ n
    → from_row c g i (padded 10 (f ∷ n ∷ ns)) ≡ skolem f (terms (map g ns))
unfolding padded
from_row_skolem c g i f n ns h b l =
    rw (ne_eqb f 0 (omega arith), lt-ltb f fixed_mark (omega arith), from_row) (ap (λ (ms : List ℕ). skolem f (terms (map g ms))) (take_at ns (replicate (10 - suc (suc (length ns))) 0) n l))

-- what was recorded is read

pub map_read : (g : ℕ → Term) (n : Term → ℕ) (us : List Term) → ((a : Term) → Memᴰ a us → g (n a) ≡ a) → map g (map n us) ≡ us
map_read g n [] h = refl
map_read g n (u ∷ us) h = ap₂ (λ (x : Term) (xs : List Term). x ∷ xs) (h u (Memᴰ.head refl)) (map_read g n us (λ a m. h a (Memᴰ.tail m)))

module _ (c : ℕ → Term) (ts us : List Term) (h : TermList c ts us) (table rest : List ℕ) (e : table ≡ collect (term_row ts) (ts ++ us) ++ rest) where
  pub row_table : (i : ℕ) → i < length (ts ++ us) → row 10 i table ≡ term_row ts (get_or (ts ++ us) i star)
  row_table i l = ap (row 10 i) e ∙ row_collect 10 (term_row ts) (ts ++ us) rest star (λ t m. length_term_row (recordable_mem c ts us h m)) i l

  term_at_recorded : (k i : ℕ) (t : Term) → row 10 i table ≡ term_row ts t → Recordable c ts i t
      → ((j : ℕ) → j < i → j < length (ts ++ us) → term_at c k table j ≡ get_or (ts ++ us) j star) → term_at c (suc k) table i ≡ t
  unfolding term_row
  term_at_recorded k i t r (plain p q) below = term_at_row c k i table (replicate 10 0) (r ∙ p) ∙ q
  term_at_recorded k i t r (known {n} h) below =
      term_at_row c k i table (padded 10 ((fixed_mark + n) ∷ [])) r ∙ from_row_fixed c (term_at c k table) i n
  term_at_recorded k i t r (marked {f} {us = as'} p b q ms) below =
      term_at_row c k i table (padded 10 (f ∷ length (list as') ∷ map (number ts) (list as'))) r
      ∙ from_row_skolem c (term_at c k table) i f (length (list as')) (map (number ts) (list as')) p b (length-map (list as') (number ts))
      ∙ ap (skolem f) (ap terms (map_read (term_at c k table) (number ts) (list as') args) ∙ terms_list as')
    where
      args : (a : Term) → Memᴰ a (list as') → term_at c k table (number ts a) ≡ a
      args a m =
          let (i, j) = ms a m in
          let n = number_below a i in
          below (number ts a) j (rw (length-append ts us) (omega arith)) ∙ get_or-append ts us star (number ts a) n ∙ get_or_number a star i

  pub term_at_table : (k i : ℕ) → i < k → i < length (ts ++ us) → term_at c k table i ≡ get_or (ts ++ us) i star
  term_at_table zero i l m = absurd (omega arith)
  term_at_table (suc k) i l m =
      term_at_recorded k i (get_or (ts ++ us) i star) (row_table i m) (h i m) (λ j n o. term_at_table k j (omega arith) o)

  -- an argument's number is read as the argument
  pub term_at_number : (k : ℕ) → length ts ≤ k → {a : Term} → Memᴰ a ts → term_at c k table (number ts a) ≡ a
  term_at_number k l {a} m =
      let n = number_below a m in
      term_at_table k (number ts a) (omega arith) (rw (length-append ts us) (omega arith)) ∙ get_or-append ts us star (number ts a) n ∙ get_or_number a star m

-- terms i, i + 1 and so on
spelled_terms_from : (c : ℕ → Term) (k : ℕ) (ts : List Term) (table : List ℕ) (i : ℕ)
    → ((j : ℕ) → j < length ts → term_at c k table (i + j) ≡ get_or ts j star) → spelled_terms c k (length ts) table i ≡ ts
unfolding spelled_terms
spelled_terms_from c k [] table i h = refl
spelled_terms_from c k (t ∷ ts) table i h =
    ap₂ (λ (x : Term) (xs : List Term). x ∷ xs) (rw (add-zero i) at (h 0 (omega arith)))
    (spelled_terms_from c k ts table (suc i) (λ j l. rw (suc-add i j, ← add-suc i j) (h (suc j) (omega arith))))

pub spelled_terms_table : (c : ℕ → Term) (ts us : List Term) → TermList c ts us → (k : ℕ) → length ts ≤ k → (table rest : List ℕ)
    → table ≡ collect (term_row ts) (ts ++ us) ++ rest → spelled_terms c k (length ts) table 0 ≡ ts
spelled_terms_table c ts us h k l table rest e =
    spelled_terms_from c k ts table 0
    (λ j m. rw zero-add (term_at_table c ts us h table rest e k j (omega arith) (rw (length-append ts us) (omega arith)) ∙ get_or-append ts us star j m))

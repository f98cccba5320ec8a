-- What a line shows of a row stands in the table, number by number. Assumes nothing.
use mathlib.Core.Path.{◌≡◌, refl, sym, ap, ◌∙◌}
use mathlib.Core.List.{List, [], ◌∷◌}
use Prim.Native.Nat.{ℕ, zero, suc, ◌+◌, ◌-◌, ◌*◌, ◌≤◌, ◌<◌}
use native.Mathlib.Nat.{add-zero}
use native.Mathlib.Omega.{arith}
use lib.ListN.{get_or, take, drop}
use lib.Seq.{take-take, drop-drop, get_or-take, get_or-drop}
use Rattle.model.specs.Lists.{row}
use Rattle.model.specs.Text.{term_numbers, fact_numbers}
use Rattle.text.specs.Legible.{LegibleTerms, LegibleFacts}

take_drop_take : (k p w : ℕ) (xs : List ℕ) → p + k ≤ w → take k (drop p (take w xs)) ≡ take k (drop p xs)
take_drop_take k zero w xs h = take-take k w xs (omega arith)
take_drop_take k (suc p) zero xs h = absurd (omega arith)
take_drop_take k (suc p) (suc w) [] h = refl
take_drop_take k (suc p) (suc w) (x ∷ xs) h = take_drop_take k p w xs (omega arith)

pub row_at : (w i p : ℕ) (xs : List ℕ) → p < w → get_or (row w i xs) p 0 ≡ get_or xs (i * w + p) 0
unfolding row
row_at w i p xs h = get_or-take w (drop (i * w) xs) p 0 h ∙ get_or-drop (i * w) xs p 0

pub row_head : (w i : ℕ) (xs : List ℕ) → 0 < w → get_or (row w i xs) 0 0 ≡ get_or xs (i * w) 0
row_head w i xs h = row_at w i 0 xs h ∙ ap (λ (p : ℕ). get_or xs p 0) (add-zero (i * w))

-- k numbers of a row from the p-th on, as the part of the table between two places
row_part : (w i p k first : ℕ) (xs : List ℕ) → p + k ≤ w → first ≡ i * w + p → take k (drop p (row w i xs)) ≡ take (first + k - first) (drop first xs)
unfolding row
row_part w i p k first xs h e =
    let n : k ≡ first + k - first = omega arith in
    take_drop_take k p w (drop (i * w) xs) h
    ∙ ap (take k) (drop-drop p (i * w) xs)
    ∙ ap (λ (m : ℕ). take k (drop m xs)) (sym e)
    ∙ ap (λ (m : ℕ). take m (drop first xs)) n

pub term_numbers_part : (terms : List ℕ) (i arity : ℕ) → arity ≡ get_or terms (i * 10 + 1) 0 → arity ≤ 8
    → term_numbers terms i ≡ get_or terms (i * 10) 0 ∷ take (i * 10 + 2 + arity - (i * 10 + 2)) (drop (i * 10 + 2) terms)
unfolding term_numbers
term_numbers_part terms i arity e h =
    ap (λ (x : ℕ). x ∷ take (get_or (row 10 i terms) 1 0) (drop 2 (row 10 i terms))) (row_head 10 i terms (omega arith))
    ∙ ap (λ (k : ℕ). get_or terms (i * 10) 0 ∷ take k (drop 2 (row 10 i terms))) (row_at 10 i 1 terms (omega arith) ∙ sym e)
    ∙ ap (λ (xs : List ℕ). get_or terms (i * 10) 0 ∷ xs) (row_part 10 i 2 arity (i * 10 + 2) terms (omega arith) refl)

pub fact_numbers_part : (arities facts : List ℕ) (i arity : ℕ) → arity ≡ get_or arities (get_or facts (i * 5) 0) 0 → arity ≤ 4
    → fact_numbers arities facts i ≡ get_or facts (i * 5) 0 ∷ take (i * 5 + 1 + arity - (i * 5 + 1)) (drop (i * 5 + 1) facts)
unfolding fact_numbers
fact_numbers_part arities facts i arity e h =
    ap (λ (x : ℕ). x ∷ take (get_or arities x 0) (drop 1 (row 5 i facts))) (row_head 5 i facts (omega arith))
    ∙ ap (λ (k : ℕ). get_or facts (i * 5) 0 ∷ take k (drop 1 (row 5 i facts))) (sym e)
    ∙ ap (λ (xs : List ℕ). get_or facts (i * 5) 0 ∷ xs) (row_part 5 i 1 arity (i * 5 + 1) facts (omega arith) refl)

-- fewer rows

pub fewer_terms : {terms : List ℕ} {t : ℕ} → LegibleTerms terms t → (n : ℕ) → n ≤ t → LegibleTerms terms n
fewer_terms h n l = record { within = let w = h.within in omega arith; arity = λ i m. h.arity i (omega arith) }

pub fewer_facts : {arities facts : List ℕ} {f : ℕ} → LegibleFacts arities facts f → (n : ℕ) → n ≤ f → LegibleFacts arities facts n
fewer_facts h n l =
    record {
      within = let w = h.within in omega arith;
      predicate = λ i m. h.predicate i (omega arith);
      arity = λ i m. h.arity i (omega arith);
    }

-- Numbers behind their spaces, and lines, as the loops write them: one more at a time. Assumes nothing.
use mathlib.Core.Path.{◌≡◌, refl, sym, ap, ◌∙◌}
use mathlib.Core.List.{List, [], ◌∷◌, ◌++◌, append-nil, append_assoc}
use Prim.Native.Nat.{ℕ, zero, suc, ◌+◌, ◌-◌, ◌≤◌, ◌<◌}
use native.Mathlib.Nat.{add-zero}
use native.Mathlib.Numerals.{add-one}
use native.Mathlib.Omega.{arith}
use lib.ListN.{length, get_or, take, drop, length-append, take-append-drop}
use lib.Seq.{take-suc}
use Rattle.model.specs.Lists.{collect}
use Rattle.model.specs.Text.{decimal, line, lines, records}
use Rattle.laws.proofs.Lists.{collect_append}
use Rattle.text.specs.Lines.{term_lines, fact_lines}
use Rattle.laws_tables.specs.Lines.{spaced}

module _ (f : ℕ → List ℕ) where
  pub collect_more : (ns : List ℕ) (i : ℕ) → i < length ns → collect f (take (i + 1) ns) ≡ collect f (take i ns) ++ f (get_or ns i 0)
  unfolding collect
  collect_more ns i h =
      ap (λ (k : ℕ). collect f (take k ns)) (add-one i)
      ∙ ap (collect f) (take-suc ns i 0 h)
      ∙ collect_append f (take i ns) (get_or ns i 0 ∷ [])
      ∙ ap (λ (xs : List ℕ). collect f (take i ns) ++ xs) (append-nil (f (get_or ns i 0)))

  -- what is written with the next number is no longer than the whole
  pub collect_within : (ns : List ℕ) (i : ℕ) → i < length ns → length (collect f (take i ns)) + length (f (get_or ns i 0)) ≤ length (collect f ns)
  collect_within ns i h =
      let e = ap length (collect_more ns i h) ∙ length-append (collect f (take i ns)) (f (get_or ns i 0)) in
      let g =
      sym (ap length (ap (collect f) (take-append-drop (i + 1) ns)))
      ∙ ap length (collect_append f (take (i + 1) ns) (drop (i + 1) ns))
      ∙ length-append (collect f (take (i + 1) ns)) (collect f (drop (i + 1) ns))
      in
      omega arith

  lines_append : (n m i : ℕ) → lines f (n + m) i ≡ lines f n i ++ lines f m (i + n)
  unfolding lines
  lines_append zero m i = let e : 0 + m ≡ m = omega arith in rw (e, add-zero)
  lines_append (suc n) m i =
      let e : suc n + m ≡ suc (n + m) = omega arith in
      let g : suc i + n ≡ i + suc n = omega arith in
      ap (λ (k : ℕ). lines f k i) e
      ∙ ap (λ (xs : List ℕ). f i ++ xs) (lines_append n m (suc i))
      ∙ ap (λ (k : ℕ). f i ++ (lines f n (suc i) ++ lines f m k)) g
      ∙ sym (append_assoc (f i) (lines f n (suc i)) (lines f m (i + suc n)))

  pub lines_more : (n : ℕ) → lines f (n + 1) 0 ≡ lines f n 0 ++ f n
  unfolding lines
  lines_more n =
      let e : 0 + n ≡ n = omega arith in
      lines_append n 1 0 ∙ ap (λ (xs : List ℕ). lines f n 0 ++ xs) (append-nil (f (0 + n))) ∙ ap (λ (k : ℕ). lines f n 0 ++ f k) e

  pub lines_within : (n i : ℕ) → i < n → length (lines f i 0) + length (f i) ≤ length (lines f n 0)
  lines_within n i h =
      let e = ap length (lines_more i) ∙ length-append (lines f i 0) (f i) in
      let k : n ≡ (i + 1) + (n - (i + 1)) = omega arith in
      let g =
      ap (λ (j : ℕ). length (lines f j 0)) k ∙ ap length (lines_append (i + 1) (n - (i + 1)) 0)
      ∙ length-append (lines f (i + 1) 0) (lines f (n - (i + 1)) (0 + (i + 1)))
      in
      omega arith

-- a line in the parts in which it is written

pub line_parts : (word ns : List ℕ) → line word ns ≡ word ++ (spaced ns ++ (10 ∷ []))
unfolding line
line_parts word ns = refl

pub line_numbered : (word : List ℕ) (n : ℕ) (ns : List ℕ) → line word (n ∷ ns) ≡ word ++ ((32 ∷ decimal n) ++ (spaced ns ++ (10 ∷ [])))
unfolding line collect
line_numbered word n ns = ap (λ (xs : List ℕ). word ++ xs) (append_assoc (32 ∷ decimal n) (spaced ns) (10 ∷ []))

pub spaced_two : (a b : ℕ) → spaced (a ∷ b ∷ []) ≡ (32 ∷ decimal a) ++ (32 ∷ decimal b)
unfolding collect
spaced_two a b = ap (λ (xs : List ℕ). (32 ∷ decimal a) ++ xs) (append-nil (32 ∷ decimal b))

pub line_ended : (word ns : List ℕ) → line word ns ≡ (word ++ spaced ns) ++ (10 ∷ [])
line_ended word ns = line_parts word ns ∙ sym (append_assoc word (spaced ns) (10 ∷ []))

pub line_header : (word : List ℕ) (n f t : ℕ) → line word (n ∷ f ∷ t ∷ []) ≡ ((word ++ spaced (n ∷ f ∷ [])) ++ (32 ∷ decimal t)) ++ (10 ∷ [])
unfolding collect
line_header word n f t =
    line_ended word (n ∷ f ∷ t ∷ [])
    ∙ ap (λ (xs : List ℕ). (word ++ xs) ++ (10 ∷ []))
    (collect_append (λ (k : ℕ). 32 ∷ decimal k) (n ∷ f ∷ []) (t ∷ []) ∙ ap (λ (xs : List ℕ). spaced (n ∷ f ∷ []) ++ xs) (append-nil (32 ∷ decimal t)))
    ∙ ap (λ (xs : List ℕ). xs ++ (10 ∷ [])) (sym (append_assoc word (spaced (n ∷ f ∷ [])) (32 ∷ decimal t)))

pub records_parts : (arities terms facts : List ℕ) (f t : ℕ) → records arities terms facts f t ≡ term_lines terms t ++ fact_lines arities facts f
unfolding records
records_parts arities terms facts f t = refl

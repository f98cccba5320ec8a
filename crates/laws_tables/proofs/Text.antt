-- The text of an answer: every byte is below 128, and how long it is at most for tables whose records are known. Assumes nothing.
use mathlib.Core.Path.{◌≡◌, refl}
use mathlib.Core.Bool.{true}
use mathlib.Core.List.{List, [], ◌∷◌, ◌++◌, Memᴰ}
use Prim.Native.Nat.{ℕ, suc, ◌+◌, ◌*◌, ◌^◌, ◌≤◌, ◌<◌}
use native.Mathlib.Omega.{arith}
use lib.Dec.{ltb}
use lib.ListN.{length, length-append}
use borrow.Author.Tests.{ltb-true}
use Rattle.model.specs.Lists.{all, collect}
use Rattle.model.specs.Stages.{Verdict, accepted, cyclic_at, refused}
use Rattle.model.specs.Tables.{Checked}
use Rattle.model.specs.Text.{line, lines, accepted_word, cyclic_word, refused_word, term_word, fact_word, loop_word, term_numbers, fact_numbers, records, text, declared, text_of}
use Rattle.laws.proofs.Lists.{all_mem}
use Rattle.laws_tables.specs.Lines.{spaced}
use Rattle.laws_tables.proofs.Lines.{Ascii, append_ascii, line_ascii, lines_ascii, length_line, length_spaced_cons, length_spaced_most, length_spaced, length_lines}

word_ascii : (word : List ℕ) → all (λ (x : ℕ). ltb x 128) word ≡ true → Ascii word
word_ascii word h x m = ltb-true x 128 (all_mem (λ (x : ℕ). ltb x 128) h m)

records_ascii : (arities terms facts : List ℕ) (f t : ℕ) → Ascii (records arities terms facts f t)
unfolding records all
records_ascii arities terms facts f t =
    append_ascii (lines (λ i. line term_word (i ∷ term_numbers terms i)) t 0) (lines (λ i. line fact_word (fact_numbers arities facts i)) f 0)
    (lines_ascii (λ i. line term_word (i ∷ term_numbers terms i)) (λ i. line_ascii term_word (i ∷ term_numbers terms i) (word_ascii term_word refl)) t 0)
    (lines_ascii (λ i. line fact_word (fact_numbers arities facts i)) (λ i. line_ascii fact_word (fact_numbers arities facts i) (word_ascii fact_word refl)) f 0)

pub text_ascii : (arities : List ℕ) (v : Verdict) (terms facts : List ℕ) → Ascii (text arities v terms facts)
unfolding text all
text_ascii arities (accepted n f t) terms facts =
    append_ascii (line accepted_word (n ∷ f ∷ t ∷ [])) (records arities terms facts f t)
    (line_ascii accepted_word (n ∷ f ∷ t ∷ []) (word_ascii accepted_word refl)) (records_ascii arities terms facts f t)
text_ascii arities (cyclic_at n f t) terms facts =
    append_ascii (line cyclic_word (n ∷ f ∷ t ∷ [])) (records arities terms facts f t ++ line loop_word (term_numbers terms t))
    (line_ascii cyclic_word (n ∷ f ∷ t ∷ []) (word_ascii cyclic_word refl))
    (append_ascii (records arities terms facts f t) (line loop_word (term_numbers terms t)) (records_ascii arities terms facts f t)
    (line_ascii loop_word (term_numbers terms t) (word_ascii loop_word refl)))
text_ascii arities (refused n p) terms facts = line_ascii refused_word (n ∷ p ∷ []) (word_ascii refused_word refl)

pub text_of_ascii : (bytes : List ℕ) (c : Checked) → Ascii (text_of bytes c)
unfolding text_of
text_of_ascii bytes c = text_ascii (declared bytes) c.verdict c.terms c.facts

-- What a line shows of a term: its Skolem function, or the mark of a rule constant, and term numbers of at most three digits. The
-- longest line has a Skolem function of four digits and eight term numbers; such a mark has five digits, and stands alone.
pub record TermLine (ns : List ℕ) : Type 0 where
  pub function : ℕ
  pub arguments : List ℕ
  pub whole : ns ≡ function ∷ arguments
  -- its digits after the first
  pub rest : ℕ
  pub function_small : function < 10 ^ suc rest
  pub short : rest + length arguments * 4 ≤ 35
  pub small : (n : ℕ) → Memᴰ n arguments → n < 10 ^ 3

-- what a line shows of a fact: a predicate of at most four digits, and at most four term numbers of at most three
pub record FactLine (ns : List ℕ) : Type 0 where
  pub predicate : ℕ
  pub arguments : List ℕ
  pub whole : ns ≡ predicate ∷ arguments
  pub predicate_small : predicate < 10 ^ 4
  pub few : length arguments ≤ 4
  pub small : (n : ℕ) → Memᴰ n arguments → n < 10 ^ 3

length_function : {ns : List ℕ} → TermLine ns → length (spaced ns) ≤ 37
length_function {ns} h =
    let k = length_spaced_cons h.function h.arguments h.rest h.function_small in
    let l = length_spaced h.arguments 2 h.small in
    let m = h.short in
    rw h.whole (omega arith)

length_term_line : (i : ℕ) {ns : List ℕ} → i < 10 ^ 3 → TermLine ns → length (line term_word (i ∷ ns)) ≤ 46
length_term_line i {ns} l h =
    let k = length_spaced_cons i ns 2 l in
    let m = length_function h in
    rw length_line (omega arith)

length_fact_line : {ns : List ℕ} → FactLine ns → length (line fact_word ns) ≤ 26
length_fact_line {ns} h =
    let k = length_spaced_cons h.predicate h.arguments 3 h.predicate_small in
    let l = length_spaced h.arguments 2 h.small in
    let m = h.few in
    rw (length_line, h.whole) (omega arith)

-- tables whose first t and f records are such
pub record Shown (arities terms facts : List ℕ) (f t : ℕ) : Type 0 where
  pub terms_few_is : t ≤ 512
  pub facts_few_is : f ≤ 2048
  pub term : (i : ℕ) → i < t → TermLine (term_numbers terms i)
  pub fact : (i : ℕ) → i < f → FactLine (fact_numbers arities facts i)

length_records : {arities terms facts : List ℕ} {f t : ℕ} → Shown arities terms facts f t → length (records arities terms facts f t) ≤ 76800
unfolding records
length_records {arities} {terms} {facts} {f} {t} h =
    let m = h.terms_few_is in
    let n = h.facts_few_is in
    let k =
    length_lines (λ i. line term_word (i ∷ term_numbers terms i)) 46 t 0
    (λ i p q. let l : i < t = omega arith in length_term_line i (omega arith) (h.term i l))
    in
    let j = length_lines (λ i. line fact_word (fact_numbers arities facts i)) 26 f 0 (λ i p q. let l : i < f = omega arith in length_fact_line (h.fact i l)) in
    rw length-append (omega arith)

length_header : (word : List ℕ) (n f t : ℕ) → n < 10 ^ 4 → f < 10 ^ 4 → t < 10 ^ 3 → length (line word (n ∷ f ∷ t ∷ [])) ≤ length word + 15
unfolding collect
length_header word n f t h k l =
    let i = length_spaced_cons n (f ∷ t ∷ []) 3 h in
    let j = length_spaced_cons f (t ∷ []) 3 k in
    let m = length_spaced_cons t [] 2 l in
    rw length_line (omega arith)

pub length_accepted : {arities terms facts : List ℕ} {n f t : ℕ} → n < 10 ^ 4 → Shown arities terms facts f t
    → length (text arities (accepted n f t) terms facts) ≤ 76823
unfolding text
length_accepted {n = n} {f} {t} l h =
    let p = h.terms_few_is in
    let q = h.facts_few_is in
    let i = length_header accepted_word n f t l (omega arith) (omega arith) in
    let j = length_records h in
    rw length-append (omega arith)

pub length_cyclic_at : {arities terms facts : List ℕ} {n f t : ℕ} → n < 10 ^ 4 → Shown arities terms facts f t → TermLine (term_numbers terms t)
    → length (text arities (cyclic_at n f t) terms facts) ≤ 76863
unfolding text
length_cyclic_at {arities} {terms} {facts} {n} {f} {t} l h k =
    let p = h.terms_few_is in
    let q = h.facts_few_is in
    let i = length_header cyclic_word n f t l (omega arith) (omega arith) in
    let j = length_records h in
    let m = length_function k in
    rw (length-append, length-append, length_line loop_word (term_numbers terms t)) (omega arith)

pub length_refused : (arities : List ℕ) (n p : ℕ) (terms facts : List ℕ) → n < 10 ^ 2 → length (text arities (refused n p) terms facts) ≤ 32
unfolding text collect
length_refused arities n p terms facts h =
    let i = length_spaced_cons n (p ∷ []) 1 h in
    let j = length_spaced_most p [] in
    rw length_line (omega arith)

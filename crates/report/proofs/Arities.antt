-- The arities that a form has, and that the text of an answer depends on them number by number. Assumes nothing.
use mathlib.Core.Path.{◌≡◌, refl, ap, ◌∙◌, fun_ext}
use mathlib.Core.List.{List, [], ◌∷◌, ◌++◌, append_assoc}
use Prim.Native.Nat.{ℕ, ◌≤◌}
use native.Mathlib.Omega.{arith}
use lib.ListN.{length, get_or, take, drop, length-append, length-take, length-drop}
use lib.Seq.{take_at, drop_at}
use Rattle.model.specs.Lists.{collect, padded, row}
use Rattle.model.specs.Rules.{RuleSet}
use Rattle.model.specs.WellFormed.{WellFormed}
use Rattle.model.specs.Format.{Parsed, good, bad, read}
use Rattle.model.specs.Form.{form_length, arities_place, rule_row, encoded, Reading, reading}
use Rattle.model.specs.Stages.{Verdict, accepted, cyclic_at, refused}
use Rattle.model.specs.Text.{line, lines, accepted_word, cyclic_word, fact_word, loop_word, term_numbers, fact_numbers, records, text}
use Rattle.laws.proofs.WellFormed.{predicates_few}
use Rattle.laws.proofs.Places.{length_padded, get_or_padded}
use Rattle.laws_format.proofs.Bytes.{read_well_formed}
use Rattle.laws_format.proofs.Form.{encoded_length}
use Rattle.laws_format.proofs.RoundTrip.{reading_bad, reading_good}
use Rattle.text.specs.Lines.{term_lines}

-- a list that has the arities of the rule set in the bytes, if there is one
pub record Declares (bytes arities : List ℕ) : Type 0 where
  pub room : 1024 ≤ length arities
  pub same : (b : RuleSet) (i : ℕ) → read bytes ≡ good b i → (p : ℕ) → get_or arities p 0 ≡ get_or b.arities p 0

-- the 1,024 numbers of a form that have them
encoded_arities : (b : RuleSet) → WellFormed b → (rest : List ℕ) → take 1024 (drop arities_place (encoded b ++ rest)) ≡ padded 1024 b.arities
unfolding encoded
encoded_arities b w rest =
    let rows : List ℕ = padded 6784 (collect rule_row b.rules) in
    let listed : List ℕ = padded 1024 b.arities in
    let behind : List ℕ = b.version ∷ 0 ∷ [] in
    let q : length listed ≡ 1024 = length_padded 1024 b.arities (predicates_few w) in
    let a = length-append rows (listed ++ behind) in
    let d = length-append listed behind in
    let e = encoded_length w in
    let l : length rows ≡ 6784 = omega arith in
    ap (λ (xs : List ℕ). take 1024 (drop 6784 xs)) (append_assoc rows (listed ++ behind) rest)
    ∙ ap (take 1024) (drop_at rows ((listed ++ behind) ++ rest) 6784 l ∙ append_assoc listed behind rest)
    ∙ take_at listed (behind ++ rest) 1024 q

-- what `read` leaves has them
pub reading_declares : (bytes form : List ℕ) → form_length ≤ length form → Declares bytes (take 1024 (drop arities_place (reading bytes form).form))
reading_declares bytes form h = record { room = room (read bytes) refl; same = same }
  where
    arities : List ℕ
    arities = take 1024 (drop arities_place (reading bytes form).form)

    read_good : (b : RuleSet) (i : ℕ) → read bytes ≡ good b i → arities ≡ padded 1024 b.arities
    read_good b i e =
        ap (λ (r : Reading). take 1024 (drop arities_place r.form)) (reading_good bytes form b i h e)
        ∙ encoded_arities b (read_well_formed bytes b i e) (drop form_length form)

    room : (r : Parsed RuleSet) → read bytes ≡ r → 1024 ≤ length arities
    room (good b i) e = let k = ap length (read_good b i e) ∙ length_padded 1024 b.arities (predicates_few (read_well_formed bytes b i e)) in omega arith
    room (bad n p) e =
        let k = ap (λ (r : Reading). length (take 1024 (drop arities_place r.form))) (reading_bad bytes form n p h e) in
        let l : 1024 ≤ length (take 1024 (drop arities_place form)) = rw (length-take, length-drop) (omega arith) in
        omega arith

    same : (b : RuleSet) (i : ℕ) → read bytes ≡ good b i → (p : ℕ) → get_or arities p 0 ≡ get_or b.arities p 0
    same b i e p = ap (λ (xs : List ℕ). get_or xs p 0) (read_good b i e) ∙ get_or_padded 1024 b.arities p

-- the same arities give the same text

module _ (as' bs : List ℕ) (h : (p : ℕ) → get_or as' p 0 ≡ get_or bs p 0) (terms facts : List ℕ) where
  same_numbers : (i : ℕ) → fact_numbers as' facts i ≡ fact_numbers bs facts i
  unfolding fact_numbers
  same_numbers i = ap (λ (k : ℕ). get_or (row 5 i facts) 0 0 ∷ take k (drop 1 (row 5 i facts))) (h (get_or (row 5 i facts) 0 0))

  same_records : (f t : ℕ) → records as' terms facts f t ≡ records bs terms facts f t
  unfolding records
  same_records f t = ap (λ (g : ℕ → List ℕ). term_lines terms t ++ lines (λ i. line fact_word (g i)) f 0) (fun_ext same_numbers)

  pub same_text : (v : Verdict) → text as' v terms facts ≡ text bs v terms facts
  unfolding text
  same_text (accepted n f t) = ap (λ (xs : List ℕ). line accepted_word (n ∷ f ∷ t ∷ []) ++ xs) (same_records f t)
  same_text (cyclic_at n f t) = ap (λ (xs : List ℕ). line cyclic_word (n ∷ f ∷ t ∷ []) ++ (xs ++ line loop_word (term_numbers terms t))) (same_records f t)
  same_text (refused n p) = refl

-- Theorems on stores: what is packed is unpacked again, and what is unpacked packs to the same bytes. Assumes nothing.
use mathlib.Core.Path.{◌≡◌, refl, sym, ap, ap₂, ◌∙◌}
use mathlib.Core.Bool.{true}
use mathlib.Core.List.{List, [], ◌∷◌, ◌++◌, append-nil, append_assoc}
use Prim.Native.Nat.{ℕ, suc, ◌+◌, ◌-◌, ◌*◌, ◌/◌, ◌%◌, ◌≤◌, ◌<◌}
use native.Mathlib.Omega.{arith}
use lib.Dec.{leb}
use lib.ListN.{length, get_or, take, drop, replicate, length-append, length-drop}
use lib.Seq.{drop_at, drop-drop, take_all, take-add, drop-cons}
use borrow.Author.Tests.{eq-eqb, le-leb, eqb-true, leb-true}
use Rattle.model.specs.Limits.{term_limit, fact_limit, terms_front, facts_front}
use Rattle.model.specs.Lists.{collect, padded}
use Rattle.model.specs.Format.{stated, big_endian}
use Rattle.model.specs.Tables.{fronted}
use Rattle.laws.proofs.Bools.{and_true, true_and}
use Rattle.laws_tables.specs.Lent.{Fronts}
use Rattle.columns_model.specs.Differences.{modulus, two_bytes, numbers_of}
use Rattle.columns_model.specs.Columns.{laid, raised}
use Rattle.columns_model.specs.Store.{head_length, numbers, content, stored, fronts, within, packed, term_count, fact_count, store_length, sound, stored_terms, stored_facts, counts, unpacked}
use Rattle.columns_model.proofs.Differences.{Below, paired_bytes, length_bytes, numbers_bytes, bytes_numbers, bytes_paired, drop_numbers, length_numbers, numbers_below}
use Rattle.columns_model.proofs.Answers.{enough, unpacked_good}
use Rattle.columns_model.proofs.Columns.{at_below, drop_mem, raised_laid, laid_raised, length_laid}

-- counts within the limits
pub record Within (t f : ℕ) : Type 0 where
  pub terms : t ≤ term_limit
  pub facts : f ≤ fact_limit

module _ (t f : ℕ) (terms facts : List ℕ) where
  length_numbers_laid : length (numbers t f terms facts) ≡ t * 10 + f * 5
  unfolding numbers
  length_numbers_laid =
      length-append (laid 10 t terms) (laid 5 f facts) ∙ (let a = length_laid 10 t terms in let b = length_laid 5 f facts in omega arith)

  pub length_content : length (content t f terms facts) ≡ 5 + t * 20 + f * 10
  unfolding content two_bytes
  length_content = let a = length_bytes (numbers t f terms facts) in let b = length_numbers_laid in omega arith

  pub length_stored : length (stored t f terms facts) ≡ store_length t f
  unfolding stored big_endian
  length_stored = let a = length_content in omega arith

-- the length in its four bytes

stated_length : (n : ℕ) (rest : List ℕ) → n < 65536 → stated (big_endian n ++ rest) ≡ n
unfolding big_endian stated
stated_length n rest h = omega arith

length_stated : (n a b c d : ℕ) → ((a * 256 + b) * 256 + c) * 256 + d ≡ n → a < 256 → b < 256 → c < 256 → d < 256 → big_endian n ≡ a ∷ b ∷ c ∷ d ∷ []
unfolding big_endian
length_stated n a b c d e i j k l =
    let p : (n / 16777216) % 256 ≡ a = omega arith in
    let q : (n / 65536) % 256 ≡ b = omega arith in
    let r : (n / 256) % 256 ≡ c = omega arith in
    let s : n % 256 ≡ d = omega arith in
    λ t. p t ∷ q t ∷ r t ∷ s t ∷ []

-- tests that hold

pub fronts_hold : {terms facts : List ℕ} → Fronts terms facts → fronts terms facts ≡ true
fronts_hold {terms} {facts} h = enough terms facts h.terms h.facts

pub within_holds : {t f : ℕ} → Within t f → within t f ≡ true
unfolding within
within_holds {t} {f} h = true_and (leb t term_limit) (leb f fact_limit) (le-leb _ _ h.terms) (le-leb _ _ h.facts)

-- a store of tables is sound, and spells their counts and records

module _ (t f : ℕ) (terms facts : List ℕ) (w : Within t f) where
  abbrev bs : List ℕ
  bs = stored t f terms facts

  count_terms : term_count bs ≡ t
  unfolding stored big_endian content two_bytes
  count_terms = paired_bytes t

  count_facts : fact_count bs ≡ f
  unfolding stored big_endian content two_bytes
  count_facts = paired_bytes f

  states : stated bs + 4 ≡ length bs
  unfolding stored
  states =
      let n = length_content t f terms facts in
      let l = length_stored t f terms facts in
      let i = w.terms in
      let k = w.facts in
      let e = stated_length (length (content t f terms facts)) (content t f terms facts) (omega arith) in
      omega arith

  version : get_or bs 4 0 ≡ 1
  unfolding stored big_endian content
  version = refl

  pub stored_sound : sound bs ≡ true
  unfolding sound
  stored_sound =
      let l = length_stored t f terms facts in
      true_and _ _ (le-leb head_length (length bs) (omega arith))
      (true_and _ _ (eq-eqb (stated bs + 4) (length bs) states)
      (true_and _ _ (eq-eqb (get_or bs 4 0) 1 version)
      (true_and _ _ (ap₂ within count_terms count_facts ∙ within_holds w)
      (eq-eqb (store_length (term_count bs) (fact_count bs)) (length bs) (ap₂ store_length count_terms count_facts ∙ sym l)))))

  -- the numbers behind the head, and those behind the terms' columns
  behind : drop head_length bs ≡ collect two_bytes (numbers t f terms facts)
  unfolding stored big_endian content two_bytes
  behind = refl

  all_numbers : numbers_of (drop head_length bs) ≡ laid 10 t terms ++ laid 5 f facts
  unfolding numbers numbers_of
  all_numbers =
      ap numbers_of (behind ∙ sym (append-nil (collect two_bytes (numbers t f terms facts))))
      ∙ numbers_bytes (numbers t f terms facts) []
      ∙ append-nil (numbers t f terms facts)

  fact_numbers_is : numbers_of (drop (head_length + t * 20) bs) ≡ laid 5 f facts
  unfolding numbers_of
  fact_numbers_is =
      let e : t * 20 ≡ t * 10 + t * 10 = omega arith in
      let l : length (laid 10 t terms) ≡ t * 10 = let a = length_laid 10 t terms in omega arith in
      ap numbers_of (sym (drop-drop (t * 20) head_length bs) ∙ ap (λ (k : ℕ). drop k (drop head_length bs)) e)
      ∙ sym (drop_numbers (t * 10) (drop head_length bs))
      ∙ ap (drop (t * 10)) all_numbers
      ∙ drop_at (laid 10 t terms) (laid 5 f facts) (t * 10) l

  module _ (long : Fronts terms facts) (small_terms : Below modulus terms) (small_facts : Below modulus facts) where
    spelled_terms_is : stored_terms bs ≡ take (t * 10) terms
    unfolding stored_terms
    spelled_terms_is =
        let i = w.terms in
        let k = long.terms in
        ap₂ (raised 10) count_terms all_numbers ∙ raised_laid 10 t terms (laid 5 f facts) (omega arith) small_terms

    spelled_facts_is : stored_facts bs ≡ take (f * 5) facts
    unfolding stored_facts
    spelled_facts_is =
        let i = w.facts in
        let k = long.facts in
        ap₂ (raised 5) count_facts (ap (λ (n : ℕ). numbers_of (drop (head_length + n * 20) bs)) count_terms ∙ fact_numbers_is)
        ∙ ap (raised 5 f) (sym (append-nil (laid 5 f facts)))
        ∙ raised_laid 5 f facts [] (omega arith) small_facts

    -- unpacking it gives both counts and their records, zeros after
    pub unpacked_stored : (terms₀ facts₀ : List ℕ) → Fronts terms₀ facts₀
        → unpacked bs terms₀ facts₀
        ≡ record { answer = counts t f; terms = fronted terms_front (take (t * 10) terms) terms₀; facts = fronted facts_front (take (f * 5) facts) facts₀ }
    unpacked_stored terms₀ facts₀ h =
        unpacked_good bs terms₀ facts₀ (fronts_hold h) stored_sound
        ∙ (λ i. record {
          answer = counts (count_terms i) (count_facts i);
          terms = fronted terms_front (spelled_terms_is i) terms₀;
          facts = fronted facts_front (spelled_facts_is i) facts₀;
        })

-- what a sound store is

module _ (bs : List ℕ) (good : sound bs ≡ true) where
  pub record Parts : Type 0 where
    pub long : head_length ≤ length bs
    pub says : stated bs + 4 ≡ length bs
    pub first : get_or bs 4 0 ≡ 1
    pub few : Within (term_count bs) (fact_count bs)
    pub fits : store_length (term_count bs) (fact_count bs) ≡ length bs

  pub parts : Parts
  unfolding sound within
  parts =
      let a = and_true _ _ good in
      let b = and_true _ _ a.1 in
      let c = and_true _ _ b.1 in
      let d = and_true _ _ c.1 in
      let e = and_true _ _ d.0 in
      record {
        long = leb-true _ _ a.0;
        says = eqb-true _ _ b.0;
        first = eqb-true _ _ c.0;
        few = record { terms = leb-true _ _ e.0; facts = leb-true _ _ e.1 };
        fits = eqb-true _ _ d.1;
      }

-- the other way: what it spells packs to its bytes

module _ (bs : List ℕ) (good : sound bs ≡ true) (byte : Below 256 bs) where
  abbrev t : ℕ
  t = term_count bs

  abbrev f : ℕ
  f = fact_count bs

  -- all numbers behind the head
  abbrev ds : List ℕ
  ds = numbers_of (drop head_length bs)

  length_behind : length (drop head_length bs) ≡ t * 20 + f * 10
  length_behind = length-drop head_length bs ∙ (let l = (parts bs good).fits in omega arith)

  length_ds : length ds ≡ t * 10 + f * 5
  length_ds = let a = length_numbers (drop head_length bs) in let b = length_behind in omega arith

  small_ds : Below modulus ds
  small_ds = numbers_below (drop head_length bs) (λ x m. byte x (drop_mem head_length bs m))

  -- those of the facts' columns
  behind_terms : numbers_of (drop (head_length + t * 20) bs) ≡ drop (t * 10) ds
  behind_terms =
      let e : t * 20 ≡ t * 10 + t * 10 = omega arith in
      ap numbers_of (sym (drop-drop (t * 20) head_length bs) ∙ ap (λ (k : ℕ). drop k (drop head_length bs)) e)
      ∙ sym (drop_numbers (t * 10) (drop head_length bs))

  -- records in front of a table, laid down
  laid_front : (w n front : ℕ) (es table : List ℕ) → w * n ≤ length es → Below modulus es → laid w n (fronted front (raised w n es) table) ≡ take (w * n) es
  unfolding fronted padded
  laid_front w n front es table l h =
      let r : List ℕ = raised w n es in
      ap (laid w n) (append_assoc r (replicate (front - length r) 0) (drop front table))
      ∙ laid_raised w n es (replicate (front - length r) 0 ++ drop front table) l h

  module _ (terms₀ facts₀ : List ℕ) where
    abbrev terms : List ℕ
    terms = fronted terms_front (stored_terms bs) terms₀

    abbrev facts : List ℕ
    facts = fronted facts_front (stored_facts bs) facts₀

    laid_terms : laid 10 t terms ≡ take (t * 10) ds
    unfolding stored_terms
    laid_terms =
        let l = length_ds in
        let e : 10 * t ≡ t * 10 = omega arith in
        laid_front 10 t terms_front ds terms₀ (omega arith) small_ds ∙ ap (λ (k : ℕ). take k ds) e

    laid_facts : laid 5 f facts ≡ take (f * 5) (drop (t * 10) ds)
    unfolding stored_facts
    laid_facts =
        let l = length_ds in
        let k = length-drop (t * 10) ds in
        let e : 5 * f ≡ f * 5 = omega arith in
        ap (λ (es : List ℕ). laid 5 f (fronted facts_front (raised 5 f es) facts₀)) behind_terms
        ∙ laid_front 5 f facts_front (drop (t * 10) ds) facts₀ (omega arith) (λ x m. small_ds x (drop_mem (t * 10) ds m))
        ∙ ap (λ (k : ℕ). take k (drop (t * 10) ds)) e

    same_numbers : numbers t f terms facts ≡ ds
    unfolding numbers
    same_numbers =
        let l = length_ds in
        ap₂ (λ (xs ys : List ℕ). xs ++ ys) laid_terms laid_facts ∙ sym (take-add (t * 10) (f * 5) ds) ∙ take_all (t * 10 + f * 5) ds (omega arith)

    same_columns : collect two_bytes (numbers t f terms facts) ≡ drop head_length bs
    same_columns =
        let l = length_behind in
        ap (collect two_bytes) same_numbers
        ∙ bytes_numbers (t * 10 + f * 5) (drop head_length bs) (λ x m. byte x (drop_mem head_length bs m)) (omega arith)

    byte_at : (k : ℕ) → get_or bs k 0 < 256
    byte_at k = at_below 256 bs k (omega arith) byte

    same_terms_count : two_bytes t ≡ get_or bs 5 0 ∷ get_or bs 6 0 ∷ []
    same_terms_count = bytes_paired (get_or bs 5 0) (get_or bs 6 0) (byte_at 6)

    same_facts_count : two_bytes f ≡ get_or bs 7 0 ∷ get_or bs 8 0 ∷ []
    same_facts_count = bytes_paired (get_or bs 7 0) (get_or bs 8 0) (byte_at 8)

    one_more : (k : ℕ) → k < 9 → drop k bs ≡ get_or bs k 0 ∷ drop (suc k) bs
    one_more k h = let l = (parts bs good).long in drop-cons bs k 0 (omega arith)

    after_length : drop 4 bs ≡ get_or bs 4 0 ∷ get_or bs 5 0 ∷ get_or bs 6 0 ∷ get_or bs 7 0 ∷ get_or bs 8 0 ∷ drop 9 bs
    after_length = rw (one_more 4 (omega arith), one_more 5 (omega arith), one_more 6 (omega arith), one_more 7 (omega arith), one_more 8 (omega arith))

    four : bs ≡ get_or bs 0 0 ∷ get_or bs 1 0 ∷ get_or bs 2 0 ∷ get_or bs 3 0 ∷ drop 4 bs
    four =
        one_more 0 (omega arith)
        ∙ ap (λ (l : List ℕ). get_or bs 0 0 ∷ l) (one_more 1 (omega arith))
        ∙ ap (λ (l : List ℕ). get_or bs 0 0 ∷ get_or bs 1 0 ∷ l) (one_more 2 (omega arith))
        ∙ ap (λ (l : List ℕ). get_or bs 0 0 ∷ get_or bs 1 0 ∷ get_or bs 2 0 ∷ l) (one_more 3 (omega arith))

    same_content : content t f terms facts ≡ drop 4 bs
    unfolding content
    same_content =
        let v : get_or bs 4 0 ≡ 1 = (parts bs good).first in
        (λ i. sym v i ∷ (same_terms_count i ++ (same_facts_count i ++ same_columns i))) ∙ sym after_length

    same_length : big_endian (length (content t f terms facts)) ≡ get_or bs 0 0 ∷ get_or bs 1 0 ∷ get_or bs 2 0 ∷ get_or bs 3 0 ∷ []
    unfolding stated
    same_length =
        let l = (parts bs good).says in
        let k = (parts bs good).long in
        let e = ap length same_content ∙ length-drop 4 bs in
        length_stated (length (content t f terms facts)) (get_or bs 0 0) (get_or bs 1 0) (get_or bs 2 0) (get_or bs 3 0) (omega arith) (byte_at 0) (byte_at 1) (byte_at 2) (byte_at 3)

    pub stored_same : stored t f terms facts ≡ bs
    unfolding stored
    stored_same = ap₂ (λ (xs ys : List ℕ). xs ++ ys) same_length same_content ∙ sym four

-- The store of two tables, and all that packing and unpacking answer and leave behind (document 02, C-23). Assumes nothing.
use Rattle.std.specs.Prelude.{List, ◌∷◌, ◌++◌, Bool, true, false, ◌&&◌, ℕ, ◌+◌, ◌*◌, eqb, leb, length, get_or, drop}
use Rattle.model.specs.Limits.{term_width, fact_width, term_limit, fact_limit, terms_front, facts_front}
use Rattle.model.specs.Lists.{collect}
use Rattle.model.specs.Format.{stated, big_endian}
use Rattle.model.specs.Form.{Writing, done, refusal}
use Rattle.model.specs.Tables.{fronted}
use Rattle.columns_model.specs.Differences.{two_bytes, paired, numbers_of}
use Rattle.columns_model.specs.Columns.{laid, raised}

-- the bytes before the columns: the length, the version and two counts
abbrev pub head_length : ℕ
head_length = 9

-- the bytes of the largest store
abbrev pub store_room : ℕ
store_room = 30729

-- the numbers of all columns, those of the terms first
unfoldable pub numbers : ℕ → ℕ → List ℕ → List ℕ → List ℕ
numbers t f terms facts = laid term_width t terms ++ laid fact_width f facts

-- version 1, the counts of terms and facts, the columns
unfoldable pub content : ℕ → ℕ → List ℕ → List ℕ → List ℕ
content t f terms facts = 1 ∷ (two_bytes t ++ (two_bytes f ++ collect two_bytes (numbers t f terms facts)))

-- the store of t terms and f facts: first how many bytes follow
unfoldable pub stored : ℕ → ℕ → List ℕ → List ℕ → List ℕ
stored t f terms facts = big_endian (length (content t f terms facts)) ++ content t f terms facts

-- both tables have their front parts
unfoldable pub fronts : List ℕ → List ℕ → Bool
fronts terms facts = leb terms_front (length terms) && leb facts_front (length facts)

unfoldable pub within : ℕ → ℕ → Bool
within t f = leb t term_limit && leb f fact_limit

-- everything that `pack` answers and leaves behind
unfoldable pub packed : ℕ → ℕ → List ℕ → List ℕ → List ℕ → Writing
packed t f terms facts out =
    elim (fronts terms facts && leb store_room (length out)) [
      | false ↦ record { answer = refusal 1 0; bytes = out }
      | true ↦
          elim (within t f) [
            | false ↦ record { answer = refusal 26 0; bytes = out }
            | true ↦
                let bytes : List ℕ = stored t f terms facts in
                record { answer = done (length bytes); bytes = bytes ++ drop (length bytes) out }
          ]
    ]

-- the counts that a store states
abbrev pub term_count : List ℕ → ℕ
term_count bs = paired (get_or bs 5 0) (get_or bs 6 0)

abbrev pub fact_count : List ℕ → ℕ
fact_count bs = paired (get_or bs 7 0) (get_or bs 8 0)

-- so many bytes have a store of t terms and f facts
abbrev pub store_length : ℕ → ℕ → ℕ
store_length t f = head_length + t * 20 + f * 10

-- nine bytes or more, the length that they state, version 1, counts within the limits, and as many bytes as these need
unfoldable pub sound : List ℕ → Bool
sound bs =
    leb head_length (length bs)
    && (eqb (stated bs + 4) (length bs)
    && (eqb (get_or bs 4 0) 1 && (within (term_count bs) (fact_count bs) && eqb (store_length (term_count bs) (fact_count bs)) (length bs))))

-- the records of a store
unfoldable pub stored_terms : List ℕ → List ℕ
stored_terms bs = raised term_width (term_count bs) (numbers_of (drop head_length bs))

unfoldable pub stored_facts : List ℕ → List ℕ
stored_facts bs = raised fact_width (fact_count bs) (numbers_of (drop (head_length + term_count bs * 20) bs))

-- the counts of terms and facts, or a refusal and its place
pub data Answer : Type 0 where
  counts : ℕ → ℕ → Answer
  refused : ℕ → ℕ → Answer

pub record Unpacking : Type 0 where
  pub answer : Answer
  pub terms : List ℕ
  pub facts : List ℕ

-- everything that `unpack` answers and leaves behind
unfoldable pub unpacked : List ℕ → List ℕ → List ℕ → Unpacking
unpacked bs terms facts =
    elim (fronts terms facts) [
      | false ↦ record { answer = refused 1 0; terms = terms; facts = facts }
      | true ↦
          elim (sound bs) [
            | false ↦ record { answer = refused 26 0; terms = terms; facts = facts }
            | true ↦
                record {
                  answer = counts (term_count bs) (fact_count bs);
                  terms = fronted terms_front (stored_terms bs) terms;
                  facts = fronted facts_front (stored_facts bs) facts;
                }
          ]
    ]

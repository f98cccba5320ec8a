-- The cases that document 01 marks to be proved, [P], forms of River, books on which a misreading of it gives another answer, one for the
-- order of records, books of both versions, books at other depths, and rule sets that name constants. Their theorems stand in
-- proofs/Cases.antt. Assumes nothing.
use Rattle.std.specs.Prelude.{List, [], ◌∷◌, ◌++◌, ℕ, ◌-◌, length, replicate}
use Rattle.model.specs.Limits.{terms_front, facts_front}
use Rattle.model.specs.Lists.{collect, padded}
use Rattle.model.specs.Rules.{RuleSet}
use Rattle.model.specs.Stages.{Verdict, accepted, cyclic_at, refused}
use Rattle.model.specs.Tables.{Checked, fronted}

-- what is to be found in the tables: what stood there, or rows of terms and of facts, each without its zeros at the end
pub data Tables : Type 0 where
  untouched : Tables
  rows : List (List ℕ) → List (List ℕ) → Tables

pub record Case : Type 0 where
  pub bytes : List ℕ
  pub verdict : Verdict
  pub tables : Tables

-- tables that are longer than their front parts, with marked contents
abbrev pub terms₀ : List ℕ
terms₀ = replicate 5131 9

abbrev pub facts₀ : List ℕ
facts₀ = replicate 10241 9

unfoldable pub expected_tables : Verdict → Tables → Checked
expected_tables v untouched = record { verdict = v; terms = terms₀; facts = facts₀ }
expected_tables v (rows ts fs) =
    record { verdict = v; terms = fronted terms_front (collect (padded 10) ts) terms₀; facts = fronted facts_front (collect (padded 5) fs) facts₀ }

unfoldable pub expected : Case → Checked
expected c = expected_tables c.verdict c.tables

unfoldable pub cases : List Case
cases =
    -- row 2
    record { bytes = 0 ∷ 0 ∷ 0 ∷ []; verdict = refused 2 0; tables = untouched } ∷
    -- row 3
    record { bytes = 0 ∷ 0 ∷ 0 ∷ 1 ∷ 0 ∷ []; verdict = refused 3 4; tables = untouched } ∷
    -- row 4
    record { bytes = 0 ∷ 0 ∷ 0 ∷ 2 ∷ 1 ∷ 0 ∷ []; verdict = refused 4 5; tables = untouched } ∷
    -- row 5
    record { bytes = 0 ∷ 0 ∷ 0 ∷ 4 ∷ 1 ∷ 1 ∷ 1 ∷ 65 ∷ []; verdict = refused 5 7; tables = untouched } ∷
    -- row 6
    record { bytes = 0 ∷ 0 ∷ 0 ∷ 5 ∷ 1 ∷ 1 ∷ 1 ∷ 1 ∷ 0 ∷ []; verdict = refused 6 8; tables = untouched } ∷
    -- row 7
    record { bytes = 0 ∷ 0 ∷ 0 ∷ 6 ∷ 1 ∷ 1 ∷ 1 ∷ 1 ∷ 1 ∷ 1 ∷ []; verdict = refused 7 9; tables = untouched } ∷
    -- row 8
    record { bytes = 0 ∷ 0 ∷ 0 ∷ 17 ∷ 1 ∷ 1 ∷ 2 ∷ 1 ∷ 1 ∷ 0 ∷ 0 ∷ 0 ∷ 2 ∷ 1 ∷ 0 ∷ 0 ∷ 1 ∷ 1 ∷ 0 ∷ 0 ∷ 1 ∷ []; verdict = refused 8 8; tables = untouched } ∷
    -- row 9
    record { bytes = 0 ∷ 0 ∷ 0 ∷ 11 ∷ 1 ∷ 1 ∷ 1 ∷ 1 ∷ 1 ∷ 0 ∷ 0 ∷ 1 ∷ 1 ∷ 0 ∷ 1 ∷ []; verdict = refused 9 8; tables = untouched } ∷
    -- row 10
    record { bytes = 0 ∷ 0 ∷ 0 ∷ 0 ∷ []; verdict = refused 10 4; tables = untouched } ∷
    -- River
    record { bytes = 0 ∷ 0 ∷ 0 ∷ 33 ∷ 1 ∷ 3 ∷ 1 ∷ 2 ∷ 1 ∷ 3 ∷ 1 ∷ 0 ∷ 0 ∷ 1 ∷ 1 ∷ 1 ∷ 0 ∷ 1 ∷ 1 ∷ 1 ∷ 0 ∷ 1 ∷ 2 ∷ 1 ∷ 2 ∷ 1 ∷ 1 ∷ 0 ∷ 1 ∷ 1 ∷ 1 ∷ 0 ∷ 1 ∷ 1 ∷ 1 ∷ 2 ∷ 1 ∷ []; verdict = accepted 2 5 2; tables = rows ((0 ∷ []) ∷ (1 ∷ 1 ∷ 0 ∷ []) ∷ []) ((0 ∷ 0 ∷ []) ∷ (1 ∷ 0 ∷ 0 ∷ []) ∷ (2 ∷ 0 ∷ []) ∷ (1 ∷ 0 ∷ 1 ∷ []) ∷ (2 ∷ 1 ∷ []) ∷ []) } ∷
    -- Lake; its last term row is the `loop` row
    record { bytes = 0 ∷ 0 ∷ 0 ∷ 25 ∷ 1 ∷ 3 ∷ 1 ∷ 2 ∷ 1 ∷ 2 ∷ 1 ∷ 0 ∷ 0 ∷ 1 ∷ 1 ∷ 1 ∷ 0 ∷ 1 ∷ 1 ∷ 1 ∷ 0 ∷ 1 ∷ 2 ∷ 1 ∷ 2 ∷ 1 ∷ 1 ∷ 0 ∷ 1 ∷ []; verdict = cyclic_at 3 6 2; tables = rows ((0 ∷ []) ∷ (1 ∷ 1 ∷ 0 ∷ []) ∷ (1 ∷ 1 ∷ 1 ∷ []) ∷ []) ((0 ∷ 0 ∷ []) ∷ (1 ∷ 0 ∷ 0 ∷ []) ∷ (2 ∷ 0 ∷ []) ∷ (1 ∷ 0 ∷ 1 ∷ []) ∷ (2 ∷ 1 ∷ []) ∷ (0 ∷ 1 ∷ []) ∷ []) } ∷
    []

unfoldable pub river_bytes : List ℕ
river_bytes = 0 ∷ 0 ∷ 0 ∷ 33 ∷ 1 ∷ 3 ∷ 1 ∷ 2 ∷ 1 ∷ 3 ∷ 1 ∷ 0 ∷ 0 ∷ 1 ∷ 1 ∷ 1 ∷ 0 ∷ 1 ∷ 1 ∷ 1 ∷ 0 ∷ 1 ∷ 2 ∷ 1 ∷ 2 ∷ 1 ∷ 1 ∷ 0 ∷ 1 ∷ 1 ∷ 1 ∷ 0 ∷ 1 ∷ 1 ∷ 1 ∷ 2 ∷ 1 ∷ []

-- A form of River with x in every place that is not counted.
unfoldable pub river_form : ℕ → List ℕ
river_form x = 3 ∷ 3 ∷ (filled 6784 (batches ++ (divided ++ closings)) ++ (filled 1024 (1 ∷ 2 ∷ 1 ∷ []) ++ (1 ∷ x ∷ [])))
  where
    filled : ℕ → List ℕ → List ℕ
    filled n xs = xs ++ replicate (n - length xs) x

    -- a group of one atom
    alone : List ℕ → List ℕ
    alone xs = filled 21 (1 ∷ xs)

    batches : List ℕ
    batches = filled 106 (1 ∷ (alone (0 ∷ 0 ∷ []) ++ alone (1 ∷ 0 ∷ 1 ∷ [])))

    divided : List ℕ
    divided = filled 106 (2 ∷ (alone (1 ∷ 0 ∷ 1 ∷ []) ++ (alone (2 ∷ 1 ∷ []) ++ alone (0 ∷ 1 ∷ []))))

    closings : List ℕ
    closings = filled 106 (1 ∷ (alone (1 ∷ 0 ∷ 1 ∷ []) ++ alone (2 ∷ 1 ∷ [])))

-- the eight lines that document 01 prints for River
unfoldable pub river_text : List ℕ
river_text =
    97 ∷ 99 ∷ 99 ∷ 101 ∷ 112 ∷ 116 ∷ 101 ∷ 100 ∷ 32 ∷ 50 ∷ 32 ∷ 53 ∷ 32 ∷ 50 ∷ 10 ∷ 116 ∷ 101 ∷ 114 ∷ 109 ∷ 32 ∷ 48 ∷ 32 ∷ 48 ∷ 10 ∷ 116 ∷ 101 ∷ 114 ∷ 109 ∷ 32 ∷ 49 ∷ 32 ∷ 49 ∷ 32 ∷ 48 ∷ 10 ∷ 102 ∷ 97 ∷ 99 ∷ 116 ∷ 32 ∷ 48 ∷ 32 ∷ 48 ∷ 10 ∷ 102 ∷ 97 ∷ 99 ∷ 116 ∷ 32 ∷ 49 ∷ 32 ∷ 48 ∷ 32 ∷ 48 ∷ 10 ∷ 102 ∷ 97 ∷ 99 ∷ 116 ∷ 32 ∷ 50 ∷ 32 ∷ 48 ∷ 10 ∷ 102 ∷ 97 ∷ 99 ∷ 116 ∷ 32 ∷ 49 ∷ 32 ∷ 48 ∷ 32 ∷ 49 ∷ 10 ∷ 102 ∷ 97 ∷ 99 ∷ 116 ∷ 32 ∷ 50 ∷ 32 ∷ 49 ∷ 10 ∷ []

-- On each of these the misreading that is named gives another answer.
unfoldable pub misreadings : List Case
misreadings =
    -- one name for all stars
    record { bytes = 0 ∷ 0 ∷ 0 ∷ 26 ∷ 1 ∷ 3 ∷ 2 ∷ 1 ∷ 2 ∷ 2 ∷ 1 ∷ 0 ∷ 0 ∷ 0 ∷ 1 ∷ 1 ∷ 1 ∷ 0 ∷ 1 ∷ 0 ∷ 0 ∷ 1 ∷ 2 ∷ 1 ∷ 1 ∷ 0 ∷ 1 ∷ 2 ∷ 0 ∷ 2 ∷ []; verdict = accepted 1 4 2; tables = rows ((0 ∷ []) ∷ (1 ∷ 1 ∷ 0 ∷ []) ∷ []) ((0 ∷ 0 ∷ 0 ∷ []) ∷ (1 ∷ 0 ∷ []) ∷ (2 ∷ 0 ∷ 0 ∷ []) ∷ (2 ∷ 0 ∷ 1 ∷ []) ∷ []) } ∷
    -- one name a variable
    record { bytes = 0 ∷ 0 ∷ 0 ∷ 38 ∷ 1 ∷ 4 ∷ 2 ∷ 3 ∷ 1 ∷ 1 ∷ 3 ∷ 1 ∷ 0 ∷ 0 ∷ 1 ∷ 1 ∷ 1 ∷ 1 ∷ 0 ∷ 1 ∷ 2 ∷ 1 ∷ 1 ∷ 0 ∷ 0 ∷ 1 ∷ 1 ∷ 1 ∷ 2 ∷ 1 ∷ 1 ∷ 1 ∷ 0 ∷ 1 ∷ 2 ∷ 2 ∷ 1 ∷ 2 ∷ 2 ∷ 1 ∷ 3 ∷ 2 ∷ []; verdict = accepted 2 7 2; tables = rows ((0 ∷ []) ∷ (1 ∷ 2 ∷ 0 ∷ 0 ∷ []) ∷ []) ((0 ∷ 0 ∷ 0 ∷ []) ∷ (1 ∷ 0 ∷ 0 ∷ 0 ∷ []) ∷ (2 ∷ 0 ∷ []) ∷ (3 ∷ 0 ∷ []) ∷ (1 ∷ 0 ∷ 0 ∷ 1 ∷ []) ∷ (2 ∷ 1 ∷ []) ∷ (3 ∷ 1 ∷ []) ∷ []) } ∷
    -- blocked by one atom
    record { bytes = 0 ∷ 0 ∷ 0 ∷ 30 ∷ 1 ∷ 4 ∷ 1 ∷ 2 ∷ 1 ∷ 1 ∷ 2 ∷ 1 ∷ 0 ∷ 0 ∷ 1 ∷ 2 ∷ 1 ∷ 0 ∷ 1 ∷ 2 ∷ 1 ∷ 1 ∷ 1 ∷ 0 ∷ 1 ∷ 2 ∷ 2 ∷ 2 ∷ 1 ∷ 3 ∷ 1 ∷ 1 ∷ 0 ∷ 1 ∷ []; verdict = cyclic_at 3 8 2; tables = rows ((0 ∷ []) ∷ (1 ∷ 1 ∷ 0 ∷ []) ∷ (1 ∷ 1 ∷ 1 ∷ []) ∷ []) ((0 ∷ 0 ∷ []) ∷ (1 ∷ 0 ∷ 0 ∷ []) ∷ (2 ∷ 0 ∷ []) ∷ (3 ∷ 0 ∷ []) ∷ (1 ∷ 0 ∷ 1 ∷ []) ∷ (2 ∷ 1 ∷ []) ∷ (3 ∷ 1 ∷ []) ∷ (0 ∷ 1 ∷ []) ∷ []) } ∷
    -- the frontier of the whole rule
    record { bytes = 0 ∷ 0 ∷ 0 ∷ 36 ∷ 1 ∷ 4 ∷ 2 ∷ 2 ∷ 2 ∷ 1 ∷ 3 ∷ 1 ∷ 0 ∷ 0 ∷ 1 ∷ 2 ∷ 1 ∷ 1 ∷ 0 ∷ 2 ∷ 1 ∷ 2 ∷ 1 ∷ 3 ∷ 1 ∷ 1 ∷ 0 ∷ 1 ∷ 1 ∷ 1 ∷ 3 ∷ 1 ∷ 1 ∷ 2 ∷ 0 ∷ 1 ∷ 1 ∷ 1 ∷ 3 ∷ 1 ∷ []; verdict = accepted 2 8 3; tables = rows ((0 ∷ []) ∷ (1 ∷ 2 ∷ 0 ∷ 0 ∷ []) ∷ (2 ∷ 2 ∷ 0 ∷ 0 ∷ []) ∷ []) ((0 ∷ 0 ∷ 0 ∷ []) ∷ (1 ∷ 0 ∷ 0 ∷ []) ∷ (2 ∷ 0 ∷ 0 ∷ []) ∷ (3 ∷ 0 ∷ []) ∷ (1 ∷ 0 ∷ 1 ∷ []) ∷ (2 ∷ 0 ∷ 2 ∷ []) ∷ (3 ∷ 1 ∷ []) ∷ (3 ∷ 2 ∷ []) ∷ []) } ∷
    -- the facts that made inner terms
    record { bytes = 0 ∷ 0 ∷ 0 ∷ 57 ∷ 1 ∷ 6 ∷ 1 ∷ 2 ∷ 2 ∷ 1 ∷ 1 ∷ 1 ∷ 5 ∷ 1 ∷ 0 ∷ 0 ∷ 1 ∷ 1 ∷ 1 ∷ 0 ∷ 1 ∷ 1 ∷ 1 ∷ 0 ∷ 1 ∷ 1 ∷ 1 ∷ 2 ∷ 1 ∷ 2 ∷ 1 ∷ 2 ∷ 0 ∷ 1 ∷ 1 ∷ 1 ∷ 3 ∷ 1 ∷ 3 ∷ 1 ∷ 0 ∷ 1 ∷ 2 ∷ 1 ∷ 2 ∷ 0 ∷ 0 ∷ 1 ∷ 1 ∷ 4 ∷ 2 ∷ 1 ∷ 3 ∷ 0 ∷ 2 ∷ 1 ∷ 4 ∷ 0 ∷ 1 ∷ 5 ∷ 0 ∷ []; verdict = accepted 3 14 4; tables = rows ((0 ∷ []) ∷ (1 ∷ 1 ∷ 0 ∷ []) ∷ (2 ∷ 1 ∷ 0 ∷ []) ∷ (2 ∷ 1 ∷ 1 ∷ []) ∷ []) ((0 ∷ 0 ∷ []) ∷ (1 ∷ 0 ∷ 0 ∷ []) ∷ (2 ∷ 0 ∷ 0 ∷ []) ∷ (3 ∷ 0 ∷ []) ∷ (4 ∷ 0 ∷ []) ∷ (5 ∷ 0 ∷ []) ∷ (1 ∷ 0 ∷ 1 ∷ []) ∷ (2 ∷ 0 ∷ 2 ∷ []) ∷ (2 ∷ 1 ∷ 3 ∷ []) ∷ (3 ∷ 2 ∷ []) ∷ (4 ∷ 2 ∷ []) ∷ (3 ∷ 3 ∷ []) ∷ (4 ∷ 3 ∷ []) ∷ (5 ∷ 2 ∷ []) ∷ []) } ∷
    -- the bodies that made a term
    record { bytes = 0 ∷ 0 ∷ 0 ∷ 40 ∷ 1 ∷ 4 ∷ 1 ∷ 1 ∷ 2 ∷ 1 ∷ 3 ∷ 2 ∷ 0 ∷ 0 ∷ 1 ∷ 0 ∷ 1 ∷ 1 ∷ 2 ∷ 0 ∷ 1 ∷ 2 ∷ 2 ∷ 0 ∷ 1 ∷ 1 ∷ 0 ∷ 1 ∷ 1 ∷ 3 ∷ 1 ∷ 1 ∷ 2 ∷ 0 ∷ 1 ∷ 2 ∷ 1 ∷ 3 ∷ 1 ∷ 2 ∷ 0 ∷ 1 ∷ 1 ∷ 1 ∷ []; verdict = accepted 2 6 2; tables = rows ((0 ∷ []) ∷ (1 ∷ 1 ∷ 0 ∷ []) ∷ []) ((0 ∷ 0 ∷ []) ∷ (1 ∷ 0 ∷ []) ∷ (2 ∷ 0 ∷ 0 ∷ []) ∷ (3 ∷ 0 ∷ []) ∷ (2 ∷ 0 ∷ 1 ∷ []) ∷ (3 ∷ 1 ∷ []) ∷ []) } ∷
    -- fresh constants of their own
    record { bytes = 0 ∷ 0 ∷ 0 ∷ 71 ∷ 1 ∷ 7 ∷ 2 ∷ 2 ∷ 2 ∷ 2 ∷ 2 ∷ 2 ∷ 2 ∷ 5 ∷ 1 ∷ 0 ∷ 0 ∷ 1 ∷ 1 ∷ 1 ∷ 1 ∷ 1 ∷ 2 ∷ 1 ∷ 2 ∷ 0 ∷ 1 ∷ 1 ∷ 1 ∷ 3 ∷ 1 ∷ 2 ∷ 2 ∷ 0 ∷ 0 ∷ 1 ∷ 2 ∷ 0 ∷ 2 ∷ 1 ∷ 1 ∷ 4 ∷ 1 ∷ 2 ∷ 3 ∷ 4 ∷ 0 ∷ 1 ∷ 1 ∷ 0 ∷ 2 ∷ 3 ∷ 1 ∷ 3 ∷ 1 ∷ 1 ∷ 5 ∷ 2 ∷ 3 ∷ 2 ∷ 1 ∷ 0 ∷ 1 ∷ 3 ∷ 2 ∷ 3 ∷ 2 ∷ 1 ∷ 5 ∷ 1 ∷ 3 ∷ 1 ∷ 6 ∷ 1 ∷ 3 ∷ []; verdict = accepted 2 15 3; tables = rows ((0 ∷ []) ∷ (1 ∷ 1 ∷ 0 ∷ []) ∷ (2 ∷ 1 ∷ 0 ∷ []) ∷ []) ((0 ∷ 0 ∷ 0 ∷ []) ∷ (1 ∷ 0 ∷ 0 ∷ []) ∷ (2 ∷ 0 ∷ 0 ∷ []) ∷ (3 ∷ 0 ∷ 0 ∷ []) ∷ (4 ∷ 0 ∷ 0 ∷ []) ∷ (5 ∷ 0 ∷ 0 ∷ []) ∷ (6 ∷ 0 ∷ 0 ∷ []) ∷ (1 ∷ 0 ∷ 1 ∷ []) ∷ (3 ∷ 0 ∷ 2 ∷ []) ∷ (5 ∷ 0 ∷ 2 ∷ []) ∷ (5 ∷ 1 ∷ 0 ∷ []) ∷ (5 ∷ 1 ∷ 2 ∷ []) ∷ (6 ∷ 0 ∷ 2 ∷ []) ∷ (6 ∷ 1 ∷ 0 ∷ []) ∷ (6 ∷ 1 ∷ 2 ∷ []) ∷ []) } ∷
    -- 001's example 1
    record { bytes = 0 ∷ 0 ∷ 0 ∷ 43 ∷ 1 ∷ 4 ∷ 1 ∷ 2 ∷ 2 ∷ 1 ∷ 4 ∷ 1 ∷ 0 ∷ 0 ∷ 1 ∷ 1 ∷ 1 ∷ 0 ∷ 1 ∷ 1 ∷ 2 ∷ 0 ∷ 1 ∷ 2 ∷ 1 ∷ 0 ∷ 0 ∷ 1 ∷ 3 ∷ 0 ∷ 1 ∷ 1 ∷ 0 ∷ 1 ∷ 1 ∷ 1 ∷ 3 ∷ 1 ∷ 1 ∷ 1 ∷ 0 ∷ 1 ∷ 1 ∷ 1 ∷ 2 ∷ 1 ∷ 2 ∷ []; verdict = accepted 2 8 4; tables = rows ((0 ∷ []) ∷ (1 ∷ 1 ∷ 0 ∷ []) ∷ (2 ∷ 1 ∷ 0 ∷ []) ∷ (2 ∷ 1 ∷ 1 ∷ []) ∷ []) ((0 ∷ 0 ∷ []) ∷ (1 ∷ 0 ∷ 0 ∷ []) ∷ (2 ∷ 0 ∷ 0 ∷ []) ∷ (3 ∷ 0 ∷ []) ∷ (1 ∷ 0 ∷ 1 ∷ []) ∷ (2 ∷ 0 ∷ 2 ∷ []) ∷ (3 ∷ 1 ∷ []) ∷ (2 ∷ 1 ∷ 3 ∷ []) ∷ []) } ∷
    -- 004's example 55
    record { bytes = 0 ∷ 0 ∷ 0 ∷ 19 ∷ 1 ∷ 2 ∷ 2 ∷ 1 ∷ 1 ∷ 2 ∷ 0 ∷ 0 ∷ 1 ∷ 1 ∷ 0 ∷ 1 ∷ 2 ∷ 0 ∷ 1 ∷ 2 ∷ 0 ∷ 2 ∷ 1 ∷ []; verdict = cyclic_at 2 4 2; tables = rows ((0 ∷ []) ∷ (1 ∷ 1 ∷ 0 ∷ []) ∷ (1 ∷ 1 ∷ 1 ∷ []) ∷ []) ((0 ∷ 0 ∷ 0 ∷ []) ∷ (1 ∷ 0 ∷ []) ∷ (0 ∷ 0 ∷ 1 ∷ []) ∷ (0 ∷ 1 ∷ 0 ∷ []) ∷ []) } ∷
    []

-- The order of records (document 02, C-11). A(x) → ∃y z. R(x,z) ∧ R(x,y); R(x,y) → S(x,y) ∧ T(y,x) ∨ U(x,y) ∧ V(y,x); R(x,y) → W(y,x);
-- R(x,y) ∧ R(x,z) → P(y,z): stage 1 names its terms against the order of their Skolem functions, and stage 2 has new facts of several rules,
-- triggers, disjuncts and atoms.
unfoldable pub ordered : List Case
ordered =
    record { bytes = 0 ∷ 0 ∷ 0 ∷ 62 ∷ 1 ∷ 8 ∷ 1 ∷ 2 ∷ 2 ∷ 2 ∷ 2 ∷ 2 ∷ 2 ∷ 2 ∷ 4 ∷ 1 ∷ 0 ∷ 0 ∷ 1 ∷ 2 ∷ 1 ∷ 0 ∷ 5 ∷ 1 ∷ 0 ∷ 3 ∷ 1 ∷ 1 ∷ 0 ∷ 1 ∷ 2 ∷ 2 ∷ 2 ∷ 0 ∷ 1 ∷ 3 ∷ 1 ∷ 0 ∷ 2 ∷ 4 ∷ 0 ∷ 1 ∷ 5 ∷ 1 ∷ 0 ∷ 1 ∷ 1 ∷ 0 ∷ 1 ∷ 1 ∷ 1 ∷ 6 ∷ 1 ∷ 0 ∷ 2 ∷ 1 ∷ 0 ∷ 1 ∷ 1 ∷ 0 ∷ 2 ∷ 1 ∷ 1 ∷ 7 ∷ 1 ∷ 2 ∷ []; verdict = accepted 2 28 3; tables = rows ((0 ∷ []) ∷ (2 ∷ 1 ∷ 0 ∷ []) ∷ (1 ∷ 1 ∷ 0 ∷ []) ∷ []) ((0 ∷ 0 ∷ []) ∷ (1 ∷ 0 ∷ 0 ∷ []) ∷ (2 ∷ 0 ∷ 0 ∷ []) ∷ (3 ∷ 0 ∷ 0 ∷ []) ∷ (4 ∷ 0 ∷ 0 ∷ []) ∷ (5 ∷ 0 ∷ 0 ∷ []) ∷ (6 ∷ 0 ∷ 0 ∷ []) ∷ (7 ∷ 0 ∷ 0 ∷ []) ∷ (1 ∷ 0 ∷ 1 ∷ []) ∷ (1 ∷ 0 ∷ 2 ∷ []) ∷ (2 ∷ 0 ∷ 1 ∷ []) ∷ (3 ∷ 1 ∷ 0 ∷ []) ∷ (4 ∷ 0 ∷ 1 ∷ []) ∷ (5 ∷ 1 ∷ 0 ∷ []) ∷ (2 ∷ 0 ∷ 2 ∷ []) ∷ (3 ∷ 2 ∷ 0 ∷ []) ∷ (4 ∷ 0 ∷ 2 ∷ []) ∷ (5 ∷ 2 ∷ 0 ∷ []) ∷ (6 ∷ 1 ∷ 0 ∷ []) ∷ (6 ∷ 2 ∷ 0 ∷ []) ∷ (7 ∷ 0 ∷ 1 ∷ []) ∷ (7 ∷ 0 ∷ 2 ∷ []) ∷ (7 ∷ 1 ∷ 0 ∷ []) ∷ (7 ∷ 1 ∷ 1 ∷ []) ∷ (7 ∷ 1 ∷ 2 ∷ []) ∷ (7 ∷ 2 ∷ 0 ∷ []) ∷ (7 ∷ 2 ∷ 1 ∷ []) ∷ (7 ∷ 2 ∷ 2 ∷ []) ∷ []) } ∷
    []

-- Versions (document 02, C-15)
unfoldable pub versions : List Case
versions =
    -- River in version 2
    record { bytes = 0 ∷ 0 ∷ 0 ∷ 41 ∷ 2 ∷ 0 ∷ 3 ∷ 1 ∷ 2 ∷ 1 ∷ 3 ∷ 1 ∷ 0 ∷ 0 ∷ 0 ∷ 1 ∷ 1 ∷ 0 ∷ 1 ∷ 0 ∷ 1 ∷ 1 ∷ 0 ∷ 1 ∷ 0 ∷ 1 ∷ 2 ∷ 1 ∷ 0 ∷ 2 ∷ 1 ∷ 1 ∷ 0 ∷ 0 ∷ 1 ∷ 1 ∷ 0 ∷ 1 ∷ 0 ∷ 1 ∷ 1 ∷ 1 ∷ 0 ∷ 2 ∷ 1 ∷ []; verdict = accepted 2 5 2; tables = rows ((0 ∷ []) ∷ (1 ∷ 1 ∷ 0 ∷ []) ∷ []) ((0 ∷ 0 ∷ []) ∷ (1 ∷ 0 ∷ 0 ∷ []) ∷ (2 ∷ 0 ∷ []) ∷ (1 ∷ 0 ∷ 1 ∷ []) ∷ (2 ∷ 1 ∷ []) ∷ []) } ∷
    -- no version 3 yet
    record { bytes = 0 ∷ 0 ∷ 0 ∷ 1 ∷ 3 ∷ []; verdict = refused 3 4; tables = untouched } ∷
    -- 65 predicates in version 1
    record { bytes = 0 ∷ 0 ∷ 0 ∷ 2 ∷ 1 ∷ 65 ∷ []; verdict = refused 4 5; tables = untouched } ∷
    -- none in version 2, and 1,025: the place is that of the first byte
    record { bytes = 0 ∷ 0 ∷ 0 ∷ 3 ∷ 2 ∷ 0 ∷ 0 ∷ []; verdict = refused 4 5; tables = untouched } ∷
    record { bytes = 0 ∷ 0 ∷ 0 ∷ 3 ∷ 2 ∷ 4 ∷ 1 ∷ []; verdict = refused 4 5; tables = untouched } ∷
    -- a count that is cut short, although its first byte is too large
    record { bytes = 0 ∷ 0 ∷ 0 ∷ 2 ∷ 2 ∷ 5 ∷ []; verdict = refused 10 6; tables = untouched } ∷
    -- a predicate that its second byte makes wrong, and one that is cut short
    record { bytes = 0 ∷ 0 ∷ 0 ∷ 8 ∷ 2 ∷ 0 ∷ 1 ∷ 1 ∷ 1 ∷ 1 ∷ 0 ∷ 1 ∷ []; verdict = refused 7 10; tables = untouched } ∷
    record { bytes = 0 ∷ 0 ∷ 0 ∷ 7 ∷ 2 ∷ 0 ∷ 1 ∷ 1 ∷ 1 ∷ 1 ∷ 0 ∷ []; verdict = refused 10 11; tables = untouched } ∷
    []

-- Depths (document 02, C-14): what is no depth is refused before the bytes are looked at, and a way is counted by itself.
pub record AtDepth : Type 0 where
  pub depth : ℕ
  pub case : Case

unfoldable pub deeper : List AtDepth
deeper =
    -- no depth
    record { depth = 0; case = record { bytes = []; verdict = refused 18 0; tables = untouched } } ∷
    -- 4 is none either, and River is not looked at
    record { depth = 4; case = record { bytes = 0 ∷ 0 ∷ 0 ∷ 33 ∷ 1 ∷ 3 ∷ 1 ∷ 2 ∷ 1 ∷ 3 ∷ 1 ∷ 0 ∷ 0 ∷ 1 ∷ 1 ∷ 1 ∷ 0 ∷ 1 ∷ 1 ∷ 1 ∷ 0 ∷ 1 ∷ 2 ∷ 1 ∷ 2 ∷ 1 ∷ 1 ∷ 0 ∷ 1 ∷ 1 ∷ 1 ∷ 0 ∷ 1 ∷ 1 ∷ 1 ∷ 2 ∷ 1 ∷ []; verdict = refused 18 0; tables = untouched } } ∷
    -- Lake at 2 and 3
    record { depth = 2; case = record { bytes = 0 ∷ 0 ∷ 0 ∷ 25 ∷ 1 ∷ 3 ∷ 1 ∷ 2 ∷ 1 ∷ 2 ∷ 1 ∷ 0 ∷ 0 ∷ 1 ∷ 1 ∷ 1 ∷ 0 ∷ 1 ∷ 1 ∷ 1 ∷ 0 ∷ 1 ∷ 2 ∷ 1 ∷ 2 ∷ 1 ∷ 1 ∷ 0 ∷ 1 ∷ []; verdict = cyclic_at 5 9 3; tables = rows ((0 ∷ []) ∷ (1 ∷ 1 ∷ 0 ∷ []) ∷ (1 ∷ 1 ∷ 1 ∷ []) ∷ (1 ∷ 1 ∷ 2 ∷ []) ∷ []) ((0 ∷ 0 ∷ []) ∷ (1 ∷ 0 ∷ 0 ∷ []) ∷ (2 ∷ 0 ∷ []) ∷ (1 ∷ 0 ∷ 1 ∷ []) ∷ (2 ∷ 1 ∷ []) ∷ (0 ∷ 1 ∷ []) ∷ (1 ∷ 1 ∷ 2 ∷ []) ∷ (2 ∷ 2 ∷ []) ∷ (0 ∷ 2 ∷ []) ∷ []) } } ∷
    record { depth = 3; case = record { bytes = 0 ∷ 0 ∷ 0 ∷ 25 ∷ 1 ∷ 3 ∷ 1 ∷ 2 ∷ 1 ∷ 2 ∷ 1 ∷ 0 ∷ 0 ∷ 1 ∷ 1 ∷ 1 ∷ 0 ∷ 1 ∷ 1 ∷ 1 ∷ 0 ∷ 1 ∷ 2 ∷ 1 ∷ 2 ∷ 1 ∷ 1 ∷ 0 ∷ 1 ∷ []; verdict = cyclic_at 7 12 4; tables = rows ((0 ∷ []) ∷ (1 ∷ 1 ∷ 0 ∷ []) ∷ (1 ∷ 1 ∷ 1 ∷ []) ∷ (1 ∷ 1 ∷ 2 ∷ []) ∷ (1 ∷ 1 ∷ 3 ∷ []) ∷ []) ((0 ∷ 0 ∷ []) ∷ (1 ∷ 0 ∷ 0 ∷ []) ∷ (2 ∷ 0 ∷ []) ∷ (1 ∷ 0 ∷ 1 ∷ []) ∷ (2 ∷ 1 ∷ []) ∷ (0 ∷ 1 ∷ []) ∷ (1 ∷ 1 ∷ 2 ∷ []) ∷ (2 ∷ 2 ∷ []) ∷ (0 ∷ 2 ∷ []) ∷ (1 ∷ 2 ∷ 3 ∷ []) ∷ (2 ∷ 3 ∷ []) ∷ (0 ∷ 3 ∷ []) ∷ []) } } ∷
    -- a pedigree of two generations, accepted at 2
    record { depth = 2; case = record { bytes = 0 ∷ 0 ∷ 0 ∷ 24 ∷ 1 ∷ 3 ∷ 1 ∷ 2 ∷ 1 ∷ 2 ∷ 1 ∷ 0 ∷ 0 ∷ 1 ∷ 1 ∷ 1 ∷ 0 ∷ 1 ∷ 2 ∷ 1 ∷ 0 ∷ 1 ∷ 2 ∷ 0 ∷ 1 ∷ 1 ∷ 0 ∷ 1 ∷ []; verdict = accepted 3 6 3; tables = rows ((0 ∷ []) ∷ (1 ∷ 1 ∷ 0 ∷ []) ∷ (1 ∷ 1 ∷ 1 ∷ []) ∷ []) ((0 ∷ 0 ∷ []) ∷ (1 ∷ 0 ∷ 0 ∷ []) ∷ (2 ∷ 0 ∷ []) ∷ (1 ∷ 0 ∷ 1 ∷ []) ∷ (0 ∷ 1 ∷ []) ∷ (1 ∷ 1 ∷ 2 ∷ []) ∷ []) } } ∷
    -- and of three, at 2 and at 3
    record { depth = 2; case = record { bytes = 0 ∷ 0 ∷ 0 ∷ 37 ∷ 1 ∷ 3 ∷ 1 ∷ 2 ∷ 1 ∷ 3 ∷ 1 ∷ 0 ∷ 0 ∷ 1 ∷ 1 ∷ 1 ∷ 0 ∷ 1 ∷ 2 ∷ 1 ∷ 0 ∷ 1 ∷ 2 ∷ 0 ∷ 1 ∷ 1 ∷ 0 ∷ 1 ∷ 3 ∷ 1 ∷ 0 ∷ 1 ∷ 1 ∷ 1 ∷ 2 ∷ 2 ∷ 0 ∷ 1 ∷ 1 ∷ 0 ∷ 2 ∷ []; verdict = cyclic_at 5 7 3; tables = rows ((0 ∷ []) ∷ (1 ∷ 1 ∷ 0 ∷ []) ∷ (1 ∷ 1 ∷ 1 ∷ []) ∷ (1 ∷ 1 ∷ 2 ∷ []) ∷ []) ((0 ∷ 0 ∷ []) ∷ (1 ∷ 0 ∷ 0 ∷ []) ∷ (2 ∷ 0 ∷ []) ∷ (1 ∷ 0 ∷ 1 ∷ []) ∷ (0 ∷ 1 ∷ []) ∷ (1 ∷ 1 ∷ 2 ∷ []) ∷ (0 ∷ 2 ∷ []) ∷ []) } } ∷
    record { depth = 3; case = record { bytes = 0 ∷ 0 ∷ 0 ∷ 37 ∷ 1 ∷ 3 ∷ 1 ∷ 2 ∷ 1 ∷ 3 ∷ 1 ∷ 0 ∷ 0 ∷ 1 ∷ 1 ∷ 1 ∷ 0 ∷ 1 ∷ 2 ∷ 1 ∷ 0 ∷ 1 ∷ 2 ∷ 0 ∷ 1 ∷ 1 ∷ 0 ∷ 1 ∷ 3 ∷ 1 ∷ 0 ∷ 1 ∷ 1 ∷ 1 ∷ 2 ∷ 2 ∷ 0 ∷ 1 ∷ 1 ∷ 0 ∷ 2 ∷ []; verdict = accepted 5 8 4; tables = rows ((0 ∷ []) ∷ (1 ∷ 1 ∷ 0 ∷ []) ∷ (1 ∷ 1 ∷ 1 ∷ []) ∷ (1 ∷ 1 ∷ 2 ∷ []) ∷ []) ((0 ∷ 0 ∷ []) ∷ (1 ∷ 0 ∷ 0 ∷ []) ∷ (2 ∷ 0 ∷ []) ∷ (1 ∷ 0 ∷ 1 ∷ []) ∷ (0 ∷ 1 ∷ []) ∷ (1 ∷ 1 ∷ 2 ∷ []) ∷ (0 ∷ 2 ∷ []) ∷ (1 ∷ 2 ∷ 3 ∷ []) ∷ []) } } ∷
    -- the same function side by side in two arguments, at depth 1, where the book is smallest
    record { depth = 1; case = record { bytes = 0 ∷ 0 ∷ 0 ∷ 27 ∷ 1 ∷ 3 ∷ 1 ∷ 2 ∷ 3 ∷ 2 ∷ 1 ∷ 0 ∷ 0 ∷ 1 ∷ 1 ∷ 1 ∷ 0 ∷ 1 ∷ 2 ∷ 1 ∷ 0 ∷ 1 ∷ 1 ∷ 2 ∷ 3 ∷ 1 ∷ 1 ∷ 2 ∷ 1 ∷ 3 ∷ 4 ∷ []; verdict = accepted 2 8 6; tables = rows ((0 ∷ []) ∷ (1 ∷ 1 ∷ []) ∷ (2 ∷ 2 ∷ []) ∷ (2 ∷ 2 ∷ 0 ∷ 1 ∷ []) ∷ (2 ∷ 2 ∷ 1 ∷ []) ∷ (2 ∷ 2 ∷ 1 ∷ 1 ∷ []) ∷ []) ((0 ∷ []) ∷ (1 ∷ []) ∷ (2 ∷ []) ∷ (1 ∷ 0 ∷ 1 ∷ []) ∷ (2 ∷ 0 ∷ 0 ∷ 2 ∷ []) ∷ (2 ∷ 0 ∷ 1 ∷ 3 ∷ []) ∷ (2 ∷ 1 ∷ 0 ∷ 4 ∷ []) ∷ (2 ∷ 1 ∷ 1 ∷ 5 ∷ []) ∷ []) } } ∷
    []

-- Rule constants (document 02, C-16): a rule set, and what its stages come to at depth 1
pub record Named : Type 0 where
  pub book : RuleSet
  pub verdict : Verdict
  pub tables : Tables

unfoldable pub named : List Named
named =
    -- ⋆ and a constant, at one place and at two
    record {
      book =
          record {
            version = 3;
            fixed = 1;
            arities = 2 ∷ 1 ∷ [];
            rules =
                [];
          };
      verdict = accepted 0 6 2;
      tables = rows ((0 ∷ []) ∷ (60001 ∷ []) ∷ []) ((0 ∷ []) ∷ (0 ∷ 0 ∷ 1 ∷ []) ∷ (0 ∷ 1 ∷ []) ∷ (0 ∷ 1 ∷ 1 ∷ []) ∷ (1 ∷ []) ∷ (1 ∷ 1 ∷ []) ∷ []);
    } ∷
    -- P(x,x) → Q(x,x); P(x,y) → Q(x,y) ∨ ∃z. R(x,y,z): the constant is not renamed, so that its trigger alone is blocked
    record {
      book =
          record {
            version = 3;
            fixed = 1;
            arities = 2 ∷ 2 ∷ 3 ∷ [];
            rules =
                record {
                  body = record { predicate = 0; variables = 0 ∷ 0 ∷ [] } ∷ [];
                  head = (record { predicate = 1; variables = 0 ∷ 0 ∷ [] } ∷ []) ∷ [];
                } ∷
                record {
                  body = record { predicate = 0; variables = 0 ∷ 1 ∷ [] } ∷ [];
                  head = (record { predicate = 1; variables = 0 ∷ 1 ∷ [] } ∷ []) ∷ (record { predicate = 2; variables = 0 ∷ 1 ∷ 2 ∷ [] } ∷ []) ∷ [];
                } ∷
                [];
          };
      verdict = accepted 1 19 5;
      tables = rows ((0 ∷ []) ∷ (60001 ∷ []) ∷ (1 ∷ 2 ∷ []) ∷ (1 ∷ 2 ∷ 0 ∷ 1 ∷ []) ∷ (1 ∷ 2 ∷ 1 ∷ []) ∷ []) ((0 ∷ []) ∷ (0 ∷ 0 ∷ 1 ∷ []) ∷ (0 ∷ 1 ∷ []) ∷ (0 ∷ 1 ∷ 1 ∷ []) ∷ (1 ∷ []) ∷ (1 ∷ 0 ∷ 1 ∷ []) ∷ (1 ∷ 1 ∷ []) ∷ (1 ∷ 1 ∷ 1 ∷ []) ∷ (2 ∷ []) ∷ (2 ∷ 0 ∷ 0 ∷ 1 ∷ []) ∷ (2 ∷ 0 ∷ 1 ∷ []) ∷ (2 ∷ 0 ∷ 1 ∷ 1 ∷ []) ∷ (2 ∷ 1 ∷ []) ∷ (2 ∷ 1 ∷ 0 ∷ 1 ∷ []) ∷ (2 ∷ 1 ∷ 1 ∷ []) ∷ (2 ∷ 1 ∷ 1 ∷ 1 ∷ []) ∷ (2 ∷ 0 ∷ 0 ∷ 2 ∷ []) ∷ (2 ∷ 0 ∷ 1 ∷ 3 ∷ []) ∷ (2 ∷ 1 ∷ 0 ∷ 4 ∷ []) ∷ []);
    } ∷
    -- River, whose third rule names the spring in its body
    record {
      book =
          record {
            version = 3;
            fixed = 1;
            arities = 1 ∷ 2 ∷ 1 ∷ [];
            rules =
                record {
                  body = record { predicate = 0; variables = 0 ∷ [] } ∷ [];
                  head = (record { predicate = 1; variables = 0 ∷ 1 ∷ [] } ∷ []) ∷ [];
                } ∷
                record {
                  body = record { predicate = 1; variables = 0 ∷ 1 ∷ [] } ∷ [];
                  head = (record { predicate = 2; variables = 1 ∷ [] } ∷ []) ∷ (record { predicate = 0; variables = 1 ∷ [] } ∷ []) ∷ [];
                } ∷
                record {
                  body = record { predicate = 1; variables = 8 ∷ 0 ∷ [] } ∷ [];
                  head = (record { predicate = 2; variables = 0 ∷ [] } ∷ []) ∷ [];
                } ∷
                [];
          };
      verdict = cyclic_at 3 13 4;
      tables = rows ((0 ∷ []) ∷ (60001 ∷ []) ∷ (1 ∷ 1 ∷ []) ∷ (1 ∷ 1 ∷ 1 ∷ []) ∷ (1 ∷ 1 ∷ 2 ∷ []) ∷ []) ((0 ∷ []) ∷ (0 ∷ 1 ∷ []) ∷ (1 ∷ []) ∷ (1 ∷ 0 ∷ 1 ∷ []) ∷ (1 ∷ 1 ∷ []) ∷ (1 ∷ 1 ∷ 1 ∷ []) ∷ (2 ∷ []) ∷ (2 ∷ 1 ∷ []) ∷ (1 ∷ 0 ∷ 2 ∷ []) ∷ (1 ∷ 1 ∷ 3 ∷ []) ∷ (2 ∷ 2 ∷ []) ∷ (0 ∷ 2 ∷ []) ∷ (2 ∷ 3 ∷ []) ∷ []);
    } ∷
    -- a constant in a head, and two in bodies; every trigger of the divided rule is blocked
    record {
      book =
          record {
            version = 3;
            fixed = 2;
            arities = 1 ∷ 3 ∷ 1 ∷ 1 ∷ [];
            rules =
                record {
                  body = record { predicate = 0; variables = 0 ∷ [] } ∷ [];
                  head = (record { predicate = 1; variables = 0 ∷ 9 ∷ 1 ∷ [] } ∷ []) ∷ [];
                } ∷
                record {
                  body = record { predicate = 1; variables = 0 ∷ 8 ∷ 1 ∷ [] } ∷ [];
                  head = (record { predicate = 2; variables = 1 ∷ [] } ∷ []) ∷ [];
                } ∷
                record {
                  body = record { predicate = 1; variables = 0 ∷ 9 ∷ 1 ∷ [] } ∷ [];
                  head = (record { predicate = 3; variables = 1 ∷ [] } ∷ []) ∷ (record { predicate = 0; variables = 1 ∷ [] } ∷ []) ∷ [];
                } ∷
                record {
                  body = record { predicate = 1; variables = 0 ∷ 9 ∷ 1 ∷ [] } ∷ [];
                  head = (record { predicate = 3; variables = 1 ∷ [] } ∷ []) ∷ [];
                } ∷
                [];
          };
      verdict = accepted 2 42 6;
      tables = rows ((0 ∷ []) ∷ (60001 ∷ []) ∷ (60002 ∷ []) ∷ (1 ∷ 1 ∷ []) ∷ (1 ∷ 1 ∷ 1 ∷ []) ∷ (1 ∷ 1 ∷ 2 ∷ []) ∷ []) ((0 ∷ []) ∷ (0 ∷ 1 ∷ []) ∷ (0 ∷ 2 ∷ []) ∷ (1 ∷ []) ∷ (1 ∷ 0 ∷ 0 ∷ 1 ∷ []) ∷ (1 ∷ 0 ∷ 0 ∷ 2 ∷ []) ∷ (1 ∷ 0 ∷ 1 ∷ []) ∷ (1 ∷ 0 ∷ 1 ∷ 1 ∷ []) ∷ (1 ∷ 0 ∷ 1 ∷ 2 ∷ []) ∷ (1 ∷ 0 ∷ 2 ∷ []) ∷ (1 ∷ 0 ∷ 2 ∷ 1 ∷ []) ∷ (1 ∷ 0 ∷ 2 ∷ 2 ∷ []) ∷ (1 ∷ 1 ∷ []) ∷ (1 ∷ 1 ∷ 0 ∷ 1 ∷ []) ∷ (1 ∷ 1 ∷ 0 ∷ 2 ∷ []) ∷ (1 ∷ 1 ∷ 1 ∷ []) ∷ (1 ∷ 1 ∷ 1 ∷ 1 ∷ []) ∷ (1 ∷ 1 ∷ 1 ∷ 2 ∷ []) ∷ (1 ∷ 1 ∷ 2 ∷ []) ∷ (1 ∷ 1 ∷ 2 ∷ 1 ∷ []) ∷ (1 ∷ 1 ∷ 2 ∷ 2 ∷ []) ∷ (1 ∷ 2 ∷ []) ∷ (1 ∷ 2 ∷ 0 ∷ 1 ∷ []) ∷ (1 ∷ 2 ∷ 0 ∷ 2 ∷ []) ∷ (1 ∷ 2 ∷ 1 ∷ []) ∷ (1 ∷ 2 ∷ 1 ∷ 1 ∷ []) ∷ (1 ∷ 2 ∷ 1 ∷ 2 ∷ []) ∷ (1 ∷ 2 ∷ 2 ∷ []) ∷ (1 ∷ 2 ∷ 2 ∷ 1 ∷ []) ∷ (1 ∷ 2 ∷ 2 ∷ 2 ∷ []) ∷ (2 ∷ []) ∷ (2 ∷ 1 ∷ []) ∷ (2 ∷ 2 ∷ []) ∷ (3 ∷ []) ∷ (3 ∷ 1 ∷ []) ∷ (3 ∷ 2 ∷ []) ∷ (1 ∷ 0 ∷ 2 ∷ 3 ∷ []) ∷ (1 ∷ 1 ∷ 2 ∷ 4 ∷ []) ∷ (1 ∷ 2 ∷ 2 ∷ 5 ∷ []) ∷ (3 ∷ 3 ∷ []) ∷ (3 ∷ 4 ∷ []) ∷ (3 ∷ 5 ∷ []) ∷ []);
    } ∷
    -- 2,052 facts in stage 0
    record {
      book =
          record {
            version = 3;
            fixed = 3;
            arities = 4 ∷ 4 ∷ 4 ∷ 4 ∷ 4 ∷ 4 ∷ 4 ∷ 4 ∷ 1 ∷ [];
            rules = [];
          };
      verdict = refused 13 0;
      tables = rows [] [];
    } ∷
    []

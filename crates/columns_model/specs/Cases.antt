-- River's tables and their store, and tables with marks: what proofs/Cases.antt computes. Assumes nothing.
use Rattle.std.specs.Prelude.{List, [], ◌∷◌, ◌++◌, ℕ, ◌+◌, ◌-◌, length, replicate}
use Rattle.model.specs.Limits.{terms_front, facts_front}
use Rattle.model.specs.Lists.{collect, padded}
use Rattle.columns_model.specs.Store.{store_room}

-- the records of River's two terms and five facts (document 01)
unfoldable pub river_terms : List ℕ
river_terms = collect (padded 10) ((0 ∷ []) ∷ (1 ∷ 1 ∷ 0 ∷ []) ∷ [])

unfoldable pub river_facts : List ℕ
river_facts = collect (padded 5) ((0 ∷ []) ∷ (1 ∷ 0 ∷ 0 ∷ []) ∷ (2 ∷ 0 ∷ []) ∷ (1 ∷ 0 ∷ 1 ∷ []) ∷ (2 ∷ 1 ∷ []) ∷ [])

-- their store: ten columns of two numbers, then five of five; what falls by 1 is 65,535
unfoldable pub river_store : List ℕ
river_store =
    0 ∷ 0 ∷ 0 ∷ 95 ∷ 1 ∷ 0 ∷ 2 ∷ 0 ∷ 5 ∷
    (0 ∷ 0 ∷ 0 ∷ 1 ∷ 0 ∷ 0 ∷ 0 ∷ 1 ∷ [])
    ++ (replicate 32 0
    ++ ((0 ∷ 0 ∷ 0 ∷ 1 ∷ 0 ∷ 1 ∷ 255 ∷ 255 ∷ 0 ∷ 1 ∷ [])
    ++ ((0 ∷ 0 ∷ 0 ∷ 0 ∷ 0 ∷ 0 ∷ 0 ∷ 0 ∷ 0 ∷ 1 ∷ [])
    ++ ((0 ∷ 0 ∷ 0 ∷ 0 ∷ 0 ∷ 0 ∷ 0 ∷ 1 ∷ 255 ∷ 255 ∷ [])
    ++ replicate 20 0))))

-- a list one longer than n, with marks behind some numbers
unfoldable pub marked : ℕ → List ℕ → List ℕ
marked n xs = xs ++ replicate (n + 1 - length xs) 9

-- a list that is a number longer than it must be, and one that is a number too short
abbrev pub terms₀ : List ℕ
terms₀ = marked terms_front []

abbrev pub facts₀ : List ℕ
facts₀ = marked facts_front []

abbrev pub out₀ : List ℕ
out₀ = marked store_room []

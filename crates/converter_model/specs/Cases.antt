-- Cases of the converters. Their theorems stand in proofs/Cases.antt. Assumes nothing.
use Rattle.std.specs.Prelude.{List, [], ◌∷◌, ℕ}

-- River in version 1 and in version 2
unfoldable pub river : List ℕ
river = 0 ∷ 0 ∷ 0 ∷ 33 ∷ 1 ∷ 3 ∷ 1 ∷ 2 ∷ 1 ∷ 3 ∷ 1 ∷ 0 ∷ 0 ∷ 1 ∷ 1 ∷ 1 ∷ 0 ∷ 1 ∷ 1 ∷ 1 ∷ 0 ∷ 1 ∷ 2 ∷ 1 ∷ 2 ∷ 1 ∷ 1 ∷ 0 ∷ 1 ∷ 1 ∷ 1 ∷ 0 ∷ 1 ∷ 1 ∷ 1 ∷ 2 ∷ 1 ∷ []

unfoldable pub river_wide : List ℕ
river_wide = 0 ∷ 0 ∷ 0 ∷ 41 ∷ 2 ∷ 0 ∷ 3 ∷ 1 ∷ 2 ∷ 1 ∷ 3 ∷ 1 ∷ 0 ∷ 0 ∷ 0 ∷ 1 ∷ 1 ∷ 0 ∷ 1 ∷ 0 ∷ 1 ∷ 1 ∷ 0 ∷ 1 ∷ 0 ∷ 1 ∷ 2 ∷ 1 ∷ 0 ∷ 2 ∷ 1 ∷ 1 ∷ 0 ∷ 0 ∷ 1 ∷ 1 ∷ 0 ∷ 1 ∷ 0 ∷ 1 ∷ 1 ∷ 1 ∷ 0 ∷ 2 ∷ 1 ∷ []

pub record Fault : Type 0 where
  pub bytes : List ℕ
  pub number : ℕ
  pub place : ℕ

-- what the upgrade refuses
unfoldable pub not_upgraded : List Fault
not_upgraded =
    -- another version
    record { bytes = river_wide; number = 3; place = 4 } ∷
    record { bytes = 0 ∷ 0 ∷ 0 ∷ 1 ∷ 3 ∷ []; number = 3; place = 4 } ∷
    -- a length that is not the stated one comes first
    record { bytes = 0 ∷ 0 ∷ 0 ∷ 2 ∷ 2 ∷ []; number = 2; place = 0 } ∷
    -- the version's byte is lacking
    record { bytes = 0 ∷ 0 ∷ 0 ∷ 0 ∷ []; number = 10; place = 4 } ∷
    -- the faults of a rule set
    record { bytes = 0 ∷ 0 ∷ 0 ∷ 2 ∷ 1 ∷ 65 ∷ []; number = 4; place = 5 } ∷
    record { bytes = 0 ∷ 0 ∷ 0 ∷ 6 ∷ 1 ∷ 1 ∷ 1 ∷ 1 ∷ 1 ∷ 1 ∷ []; number = 7; place = 9 } ∷
    []

-- what the downgrade refuses
unfoldable pub not_downgraded : List Fault
not_downgraded =
    -- another version, whatever else is wrong
    record { bytes = river; number = 3; place = 4 } ∷
    record { bytes = 0 ∷ 0 ∷ 0 ∷ 2 ∷ 1 ∷ 0 ∷ []; number = 3; place = 4 } ∷
    -- 65 predicates, before the arities are looked at, and none
    record { bytes = 0 ∷ 0 ∷ 0 ∷ 3 ∷ 2 ∷ 0 ∷ 65 ∷ []; number = 4; place = 5 } ∷
    record { bytes = 0 ∷ 0 ∷ 0 ∷ 3 ∷ 2 ∷ 0 ∷ 0 ∷ []; number = 4; place = 5 } ∷
    -- a count that is cut short
    record { bytes = 0 ∷ 0 ∷ 0 ∷ 2 ∷ 2 ∷ 5 ∷ []; number = 10; place = 6 } ∷
    -- a predicate that is not declared
    record { bytes = 0 ∷ 0 ∷ 0 ∷ 8 ∷ 2 ∷ 0 ∷ 1 ∷ 1 ∷ 1 ∷ 1 ∷ 0 ∷ 1 ∷ []; number = 7; place = 10 } ∷
    []

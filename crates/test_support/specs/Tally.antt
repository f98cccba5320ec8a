-- Counts that stop at the largest number of 64 bits. Assumes nothing.
use Rattle.std.specs.Prelude.{Bool, true, false, ℕ, min}

abbrev pub capped : ℕ → ℕ
capped n = min n 18446744073709551615

-- how often a case counts as a difference
abbrev pub once : Bool → ℕ
once true = 1
once false = 0

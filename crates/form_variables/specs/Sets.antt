-- Sets of variables as numbers: variable v is the binary digit 2 ^ v. Assumes nothing.
use Rattle.std.specs.Prelude.{List, [], ◌∷◌, Bool, ℕ, zero, suc, ◌^◌, ◌/◌, ◌%◌, eqb}
use Rattle.std.specs.Int.Bits.{bit_or}
use Rattle.model.specs.Lists.{keep}
use Rattle.model.specs.Rules.{names}

unfoldable pub set_of : List ℕ → ℕ
set_of [] = 0
set_of (v ∷ vs) = bit_or (2 ^ v) (set_of vs)

-- v is in the set
unfoldable pub has : ℕ → ℕ → Bool
has set zero = eqb (set % 2) 1
has set (suc v) = has (set / 2) v

-- the variables of the set, in rising order
unfoldable pub elements : ℕ → List ℕ
elements set = keep (has set) names

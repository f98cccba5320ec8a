-- Numbers of sixteen bits as differences, and in two bytes (document 02, C-23). Assumes nothing.
use Rattle.std.specs.Prelude.{List, [], ◌∷◌, ℕ, ◌+◌, ◌-◌, ◌*◌, ◌/◌, ◌%◌}

-- how many numbers of sixteen bits there are
abbrev pub modulus : ℕ
modulus = 65536

-- what the number above must be raised by, modulo 65,536
abbrev pub difference : ℕ → ℕ → ℕ
difference above x = (x + modulus - above) % modulus

-- the other way
abbrev pub sum : ℕ → ℕ → ℕ
sum above d = (above + d) % modulus

-- each number as its difference from the one above it; the first has `above` over it
unfoldable pub differences : ℕ → List ℕ → List ℕ
differences above [] = []
differences above (x ∷ xs) = difference above x ∷ differences x xs

unfoldable pub sums : ℕ → List ℕ → List ℕ
sums above [] = []
sums above (d ∷ ds) = sum above d ∷ sums (sum above d) ds

-- big-endian
unfoldable pub two_bytes : ℕ → List ℕ
two_bytes n = n / 256 ∷ n % 256 ∷ []

abbrev pub paired : ℕ → ℕ → ℕ
paired high low = high * 256 + low

-- the number of each two bytes
unfoldable pub numbers_of : List ℕ → List ℕ
numbers_of [] = []
numbers_of (a ∷ []) = []
numbers_of (a ∷ b ∷ bs) = paired a b ∷ numbers_of bs

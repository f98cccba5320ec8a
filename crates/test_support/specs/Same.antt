-- Whether a list has a given number at each of its places. Assumes nothing.
use Rattle.std.specs.Prelude.{◌≡◌, Bool, true, false, List, [], ℕ, zero, suc, ◌<◌, length, get_or}

-- what a list was full of
abbrev pub byte_mark : ℕ
byte_mark = 238

abbrev pub number_mark : ℕ
number_mark = 65535

-- the answer says whether the number at every place k is f k
pub record Decides (answer : Bool) (xs : List ℕ) (f : ℕ → ℕ) : Type 0 where
  pub same : answer ≡ true → (k : ℕ) → k < length xs → get_or xs k 0 ≡ f k
  pub other : answer ≡ false → (k : ℕ) × (k < length xs) × (get_or xs k 0 ≡ f k → ⊥)

-- what an answer leaves in front of the marks: a refusal, nothing
unfoldable pub front : ℕ → List ℕ → List ℕ
front zero bytes = bytes
front (suc n) bytes = []

-- Where a byte stands next, and numbers in columns of fixed width. Assumes nothing.
use Rattle.std.specs.Prelude.{◌≡◌, true, false, ◌&&◌, List, ℕ, ◌+◌, ◌*◌, ◌-◌, ◌≤◌, ◌<◌, leb, length, get_or}

-- where the byte stands next from i on, or the text's end
pub record Next (byte : ℕ) (text : List ℕ) (i next : ℕ) : Type 0 where
  pub from : i ≤ next
  pub within : next ≤ length text
  pub before : (k : ℕ) → k < next → i ≤ k → get_or text k 0 ≡ byte → ⊥
  pub at : next < length text → get_or text next 0 ≡ byte

-- what a byte is as a digit; 0 where it is none
unfoldable pub value : ℕ → ℕ
value b = elim (leb 48 b && leb b 57) [ true ↦ b - 48 | false ↦ 0 ]

unfoldable pub digit : List ℕ → ℕ → ℕ
digit line i = value (get_or line i 0)

abbrev pub two : List ℕ → ℕ → ℕ
two line i = digit line i * 10 + digit line (i + 1)

abbrev pub four : List ℕ → ℕ → ℕ
four line i = two line i * 100 + two line (i + 2)

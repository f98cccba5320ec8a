-- What a byte is as a digit, by the tests of its range. Assumes nothing.
use mathlib.Core.Path.{◌≡◌}
use mathlib.Core.List.{List}
use Prim.Native.Nat.{ℕ, ◌-◌, ◌≤◌, ◌<◌}
use native.Mathlib.Omega.{arith}
use lib.ListN.{length, get_or, get_or-eq_default}
use borrow.Author.Tests.{le-leb, lt-leb}
use Rattle.test_support.specs.Columns.{value, digit}

module _ (line : List ℕ) (i : ℕ) where
  pub digit_missing : length line ≤ i → digit line i ≡ 0
  unfolding value digit
  digit_missing h = rw (get_or-eq_default line 0 h, value, digit)

  pub digit_below : get_or line i 0 < 48 → digit line i ≡ 0
  unfolding value digit
  digit_below h = rw (lt-leb 48 (get_or line i 0) h, value, digit)

  pub digit_above : 57 < get_or line i 0 → digit line i ≡ 0
  unfolding value digit
  digit_above h = rw (le-leb 48 (get_or line i 0) (omega arith), lt-leb (get_or line i 0) 57 h, value, digit)

  pub digit_within : 48 ≤ get_or line i 0 → get_or line i 0 ≤ 57 → digit line i ≡ get_or line i 0 - 48
  unfolding value digit
  digit_within h k = rw (le-leb 48 (get_or line i 0) h, le-leb (get_or line i 0) 57 k, value, digit)

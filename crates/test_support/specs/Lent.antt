-- The length of a list that a case names. Assumes nothing.
use Rattle.std.specs.Prelude.{true, false, ℕ, ◌+◌, ◌-◌, eqb}

-- one short where the case's letter is the list's, longer where it is `+`
unfoldable pub room : ℕ → ℕ → ℕ → ℕ
room lists letter asked = elim (eqb lists letter) [ true ↦ asked - 1 | false ↦ elim (eqb lists 43) [ true ↦ asked + 57 | false ↦ asked ] ]

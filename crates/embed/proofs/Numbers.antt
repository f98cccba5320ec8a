-- What a call left, from the answer of the function that it called. Assumes nothing.
use mathlib.Core.Path.{◌≡◌, sym}
use mathlib.Core.List.{List}
use Prim.Native.Nat.{ℕ}
use Rattle.model.specs.Stages.{Verdict}
use Rattle.embed.specs.Numbers.{of_checked, verdict_number, verdict_values}

-- the number of a verdict, and its three values
pub check_left : (v : Verdict) {terms facts : List ℕ} {n : ℕ} {xs : List ℕ} → (n ≡ verdict_number v) × (xs ≡ verdict_values v)
    → of_checked (record { verdict = v; terms = terms; facts = facts }) ≡ record { number = n; answer = xs; terms = terms; facts = facts }
check_left v {terms} {facts} h = λ i. record { number = sym h.0 i; answer = sym h.1 i; terms = terms; facts = facts }

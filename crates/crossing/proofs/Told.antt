-- The numbers of an answer make what is left, and tell the answer: no two answers have the same. Assumes nothing.
use mathlib.Core.Path.{◌≡◌, sym}
use mathlib.Core.List.{List}
use Prim.Native.Nat.{ℕ, ◌≤◌}
use native.Mathlib.Omega.{arith}
use Rattle.model.specs.Form.{Transfer, done, refusal}
use Rattle.crossing.specs.Numbers.{transfer_number, transfer_value, transferred}

pub transfer_left : (a : Transfer) {xs : List ℕ} {n k : ℕ} → n ≡ transfer_number a → k ≡ transfer_value a → transferred a xs ≡ record { number = n; value = k; list = xs }
transfer_left a {xs} e f = λ i. record { number = sym e i; value = sym f i; list = xs }

-- a refusal, if it is one, has a number that is not 0
abbrev pub Numbered : Transfer → Type 0
Numbered (done n) = Unit {0}
Numbered (refusal n p) = 1 ≤ n

-- so the numbers tell
pub transfer_told : (a b : Transfer) → Numbered a → Numbered b → transfer_number a ≡ transfer_number b → transfer_value a ≡ transfer_value b → a ≡ b
transfer_told (done n) (done m) h k e f = cc
transfer_told (done n) (refusal m q) h k e f = absurd (omega arith)
transfer_told (refusal n p) (done m) h k e f = absurd (omega arith)
transfer_told (refusal n p) (refusal m q) h k e f = cc

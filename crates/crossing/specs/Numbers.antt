-- By which numbers an answer crosses to C. Assumes nothing.
use Rattle.std.specs.Prelude.{List, ℕ}
use Rattle.model.specs.Form.{Transfer, done, refusal}

-- the number that is returned: 0, or the refusal's
abbrev pub transfer_number : Transfer → ℕ
transfer_number (done n) = 0
transfer_number (refusal n p) = n

-- the number that is left: how many were read or written, or the refusal's place
abbrev pub transfer_value : Transfer → ℕ
transfer_value (done n) = n
transfer_value (refusal n p) = p

-- both, and the list that the call filled
pub record TransferLeft : Type 0 where
  pub number : ℕ
  pub value : ℕ
  pub list : List ℕ

abbrev pub transferred : Transfer → List ℕ → TransferLeft
transferred a xs = record { number = transfer_number a; value = transfer_value a; list = xs }

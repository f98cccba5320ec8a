-- The contract of `write`. Assumes nothing.
use Rattle.std.specs.Prelude.{◌≡◌, List, ℕ, Result}
use Rattle.model.specs.Form.{writing}
use Rattle.refusal.specs.declared.Refused.{Refused}
use Rattle.reader.specs.Transfer.{transfer_of}

-- what `write` answers and leaves, given a form and a list of bytes
abbrev pub WritesBytes : List ℕ → List ℕ → Result ℕ Refused → List ℕ → Type 0
WritesBytes form out₀ r out = writing form out₀ ≡ record { answer = transfer_of r; bytes = out }

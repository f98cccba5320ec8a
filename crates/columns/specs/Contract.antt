-- What the answers of `pack` and `unpack` stand for, and their contracts. Assumes nothing.
use Rattle.std.specs.Prelude.{◌≡◌, List, ℕ, Result, Ok, Err}
use Rattle.refusal.specs.Numbers.{number_of}
use Rattle.refusal.specs.declared.Refused.{Refused}
use Rattle.reader.specs.Transfer.{transfer_of}
use Rattle.columns_model.specs.Store.{Answer, counts, refused, packed, unpacked}
use Rattle.columns.specs.declared.Stored.{Stored}

-- the definition's answer for what `unpack` answers
abbrev pub answer_of : Result Stored Refused → Answer
answer_of (Ok s) = counts s.terms s.facts
answer_of (Err r) = refused (number_of r.refusal) r.place

-- what `pack` answers and leaves, given two counts, two tables and a list of bytes
abbrev pub Packs : ℕ → ℕ → List ℕ → List ℕ → List ℕ → Result ℕ Refused → List ℕ → Type 0
Packs t f terms facts out₀ r out = packed t f terms facts out₀ ≡ record { answer = transfer_of r; bytes = out }

-- what `unpack` answers and leaves, given bytes and two tables
abbrev pub Unpacks : List ℕ → List ℕ → List ℕ → Result Stored Refused → List ℕ → List ℕ → Type 0
Unpacks bs terms₀ facts₀ r terms facts = unpacked bs terms₀ facts₀ ≡ record { answer = answer_of r; terms = terms; facts = facts }

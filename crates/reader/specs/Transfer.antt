-- What the answers of `read` and `write` stand for, and the contracts of `read` and `read_afresh`. Assumes nothing.
use Rattle.std.specs.Prelude.{◌≡◌, List, ℕ, Result, Ok, Err}
use Rattle.model.specs.Form as form
use Rattle.parsing.specs.Step.{zeros}
use Rattle.refusal.specs.declared.Refused.{Refused}
use Rattle.refusal.specs.Numbers.{number_of}

-- model's answer for that of the code
abbrev pub transfer_of : Result ℕ Refused → form.Transfer
transfer_of (Ok n) = form.done n
transfer_of (Err r) = form.refusal (number_of r.refusal) r.place

-- what `read` answers and leaves, given bytes and a form
abbrev pub Reads : List ℕ → List ℕ → Result ℕ Refused → List ℕ → Type 0
Reads bytes form₀ r left = form.reading bytes form₀ ≡ record { answer = transfer_of r; form = left }

-- what `read_afresh` answers, given bytes and a form of zeros, and what it leaves there where it has read: as `read` does with such a form
abbrev pub ReadsAfresh : List ℕ → Result ℕ Refused → List ℕ → Type 0
ReadsAfresh bytes (Ok n) left = form.reading bytes (zeros form.form_length) ≡ record { answer = form.done n; form = left }
ReadsAfresh bytes (Err r) left = (form.reading bytes (zeros form.form_length)).answer ≡ form.refusal (number_of r.refusal) r.place

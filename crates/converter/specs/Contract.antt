-- The contracts of the converters. Assumes nothing.
use Rattle.std.specs.Prelude.{◌≡◌, List, ℕ, ◌≤◌, Result}
use Rattle.model.specs.Limits.{last_version}
use Rattle.model.specs.Format.{good, bad, read}
use Rattle.model.specs.Form.{refusal, encoded, Writing, writing}
use Rattle.reader.specs.Transfer.{transfer_of}
use Rattle.refusal.specs.declared.Refused.{Refused}
use Rattle.converter_model.specs.Converter.{versioned, converting}

-- a version that there is
pub record Known (version : ℕ) : Type 0 where
  pub first : 1 ≤ version
  pub last : version ≤ last_version

-- the rule set of some bytes, written in another version
unfoldable pub rewriting : ℕ → List ℕ → List ℕ → Writing
rewriting version bytes out =
    elim (read bytes) [
      | bad n p ↦ record { answer = refusal n p; bytes = out }
      | good b i ↦ writing (encoded (versioned version b)) out
    ]

abbrev pub Rewrites : ℕ → List ℕ → List ℕ → Result ℕ Refused → List ℕ → Type 0
Rewrites version bytes out₀ r out = rewriting version bytes out₀ ≡ record { answer = transfer_of r; bytes = out }

-- what a converter answers and leaves, given bytes and an output
abbrev pub Converts : ℕ → ℕ → List ℕ → List ℕ → Result ℕ Refused → List ℕ → Type 0
Converts from to bytes out₀ r out = converting from to bytes out₀ ≡ record { answer = transfer_of r; bytes = out }

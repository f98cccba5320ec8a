-- Everything that `print` answers and leaves behind, and its contract. Assumes nothing.
use Rattle.std.specs.Prelude.{◌≡◌, true, false, ◌&&◌, List, ◌++◌, ℕ, leb, length, drop, Result}
use Rattle.model.specs.Form.{Transfer, done, refusal}
use Rattle.model.specs.Limits.{terms_front, facts_front}
use Rattle.model.specs.Tables.{Checked, is_depth, checked}
use Rattle.model.specs.Text.{text_of}
use Rattle.refusal.specs.declared.Refused.{Refused}
use Rattle.reader.specs.Transfer.{transfer_of}
use Rattle.judging.specs.declared.verdict.Verdict.{Verdict}
use Rattle.dmfa.specs.Promises.{Checks}

-- so many bytes have room for every text
abbrev pub text_room : ℕ
text_room = 76863

pub record Printing : Type 0 where
  pub answer : Transfer
  pub terms : List ℕ
  pub facts : List ℕ
  pub out : List ℕ

-- a list too short is refusal 1, and a number that is no depth is 18: both change nothing
unfoldable pub printing : ℕ → List ℕ → List ℕ → List ℕ → List ℕ → Printing
printing depth bytes terms facts out =
    elim (leb terms_front (length terms) && leb facts_front (length facts) && leb text_room (length out)) [
      | false ↦ record { answer = refusal 1 0; terms = terms; facts = facts; out = out }
      | true ↦
          elim (is_depth depth) [
            | false ↦ record { answer = refusal 18 0; terms = terms; facts = facts; out = out }
            | true ↦
                let c : Checked = checked depth bytes terms facts in
                let s : List ℕ = text_of bytes c in
                record { answer = done (length s); terms = c.terms; facts = c.facts; out = s ++ drop (length s) out }
          ]
    ]

-- the contract: what `print` answers and leaves, given bytes, a depth, two tables and a list for the text
abbrev pub Prints : ℕ → List ℕ → List ℕ → List ℕ → List ℕ → Result ℕ Refused → List ℕ → List ℕ → List ℕ → Type 0
Prints depth bytes terms₀ facts₀ out₀ r terms facts out =
    printing depth bytes terms₀ facts₀ out₀ ≡ record { answer = transfer_of r; terms = terms; facts = facts; out = out }

-- an answer of the check, and what the check left in its tables
abbrev pub Answer : List ℕ → Verdict → List ℕ → List ℕ → Type 0
Answer bytes v terms facts =
    (depth : ℕ) × (terms₀ : List ℕ) × (facts₀ : List ℕ) × Checks depth bytes terms₀ facts₀ v terms facts

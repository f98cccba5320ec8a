-- What `print` leaves on an input of the program and tables of zeros is `printed` of that input. Assumes nothing.
use mathlib.Core.Path.{◌≡◌, sym, ap, ◌∙◌, subst}
use mathlib.Core.List.{List}
use Prim.Native.Nat.{ℕ, ◌≤◌}
use native.Mathlib.Omega.{arith}
use lib.ListN.{length, take, replicate, length-take}
use lib.Seq.{take_all}
use Rattle.std.specs.Prelude.{Result, Ok, Err}
use Rattle.std.specs.Result.{result_unwrap_or}
use Rattle.refusal.specs.declared.Refused.{Refused}
use Rattle.model.specs.Form as form
use Rattle.model.specs.Limits.{input_limit, terms_front, facts_front, program_depth}
use Rattle.model.specs.Text.{printed}
use Rattle.reader.specs.Transfer.{transfer_of}
use Rattle.report.specs.Printing.{text_room, Prints}
use Rattle.report.proofs.Printing.{program_prints}

-- the count of a transfer that is done
counted : (r : Result ℕ Refused) (n : ℕ) → transfer_of r ≡ form.done n → result_unwrap_or r 0 ≡ n
counted (Ok k) n e = cc
counted (Err x) n e = let z : ◌≡◌ {A = ℕ} 0 1 = cc in absurd (omega arith)

module _ (input out : List ℕ) (few : length input ≤ input_limit) (room : text_room ≤ length out) (r : Result ℕ Refused) {terms facts left : List ℕ}
    (p : Prints program_depth input (replicate terms_front 0) (replicate facts_front 0) out r terms facts left) where
  told : (transfer_of r ≡ form.done (length (printed input))) × (take (length (printed input)) left ≡ printed input)
  told =
      program_prints input out room r
      (subst (λ (bs : List ℕ). Prints program_depth bs (replicate terms_front 0) (replicate facts_front 0) out r terms facts left) (sym (take_all input_limit input few)) p)

  pub text_is : (n : ℕ) → n ≡ result_unwrap_or r 0 → (n ≡ length (printed input)) × (take n left ≡ printed input)
  text_is n e = let q = e ∙ counted r _ told.0 in (q, ap (λ (k : ℕ). take k left) q ∙ told.1)

-- so many bytes as a text has stand in the list that holds it
pub text_within : (n : ℕ) (out : List ℕ) {s : List ℕ} → (n ≡ length s) × (take n out ≡ s) → n ≤ length out
text_within n out (e, h) = let k = sym (length-take n out) ∙ ap length h in omega arith

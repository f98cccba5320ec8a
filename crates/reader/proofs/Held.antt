-- What the reader leaves holds the well-formed rule set that the bytes give, as the functions of crate form ask. Assumes nothing.
use mathlib.Core.Path.{◌≡◌, sym, subst}
use mathlib.Core.List.{List, ◌++◌}
use Prim.Native.Nat.{ℕ, ◌≤◌}
use native.Mathlib.Omega.{arith}
use lib.ListN.{length, drop, length-append}
use Rattle.model.specs.Rules.{RuleSet}
use Rattle.model.specs.WellFormed.{WellFormed}
use Rattle.model.specs.Format.{good, read}
use Rattle.model.specs.Form.{form_length, encoded, decoded, Reading, done, reading}
use Rattle.laws_format.proofs.Bytes.{read_well_formed}
use Rattle.laws_format.proofs.Form.{encoded_length, decoded_encoded}
use Rattle.laws_format.proofs.RoundTrip.{reading_good, reading_done}
use Rattle.form.specs.Places.{Held}

-- a form with this rule set in front
pub encoded_held : (b : RuleSet) → WellFormed b → (rest : List ℕ) → Held (encoded b ++ rest)
encoded_held b w rest =
    record {
      room = omega (arith, encoded_length w, length-append (encoded b) rest);
      sound = subst WellFormed (sym (decoded_encoded w rest)) w;
    }

-- the form holds rule set b
pub record Holds (b : RuleSet) (form : List ℕ) : Type 0 where
  pub held : Held form
  pub same : decoded form ≡ b

module _ (bytes form : List ℕ) where
  pub reading_holds : (b : RuleSet) (n : ℕ) → form_length ≤ length form → read bytes ≡ good b n → Holds b (reading bytes form).form
  reading_holds b n h e =
      let w = read_well_formed bytes b n e in
      let rest : List ℕ = drop form_length form in
      subst (λ (r : Reading). Holds b r.form) (sym (reading_good bytes form b n h e))
      (record { held = encoded_held b w rest; same = decoded_encoded w rest })

  -- the same from the answer
  pub read_holds : (n : ℕ) → (reading bytes form).answer ≡ done n → (b : RuleSet) × (read bytes ≡ good b n) × Holds b (reading bytes form).form
  read_holds n e = let (b, r, h) = reading_done bytes form n e in (b, r, reading_holds b n h r)

-- The definition `read` by its first tests, and what `reading` leaves, in a form of zeros and in another. Assumes nothing.
use mathlib.Core.Path.{◌≡◌, refl, sym, ap, ◌∙◌}
use mathlib.Core.List.{List, [], ◌++◌, append-nil}
use Prim.Native.Nat.{ℕ, ◌+◌, ◌≤◌, ◌<◌}
use native.Mathlib.Omega.{arith}
use lib.ListN.{length, drop, length-replicate, drop_of_length-le}
use Rattle.laws_format.proofs.RoundTrip.{reading_good, reading_bad, reading_done}
use mathlib.Core.Bool.{true, false}
use lib.Dec.{eqb}
use borrow.Author.Tests.{le-leb, lt-leb}
use Rattle.model.specs.Rules.{RuleSet}
use Rattle.model.specs.Format.{Parsed, good, bad, stated, whole, rule_set, read}
use Rattle.model.specs.Form.{form_length, done, refusal, encoded, Reading, reading}
use Rattle.parsing.specs.Step.{zeros}

pub zeros_long : form_length ≤ length (zeros form_length)
unfolding zeros
zeros_long = omega (arith, length-replicate {A = ℕ} form_length 0)

zeros_end : drop form_length (zeros form_length) ≡ []
unfolding zeros
zeros_end = let h : length (zeros form_length) ≤ form_length = omega (arith, length-replicate {A = ℕ} form_length 0) in drop_of_length-le (zeros form_length) h

module _ (bs : List ℕ) where
  pub whole_short : length bs < 4 → whole bs ≡ false
  unfolding whole
  whole_short h = rw (lt-leb 4 (length bs) h, whole)

  pub whole_long : 4 ≤ length bs → whole bs ≡ eqb (stated bs + 4) (length bs)
  unfolding whole
  whole_long h = rw (le-leb 4 (length bs) h, whole)

  pub read_cut : whole bs ≡ false → read bs ≡ bad 2 0
  unfolding read
  read_cut e = rw (e, read)

  pub read_whole : whole bs ≡ true → read bs ≡ rule_set bs
  unfolding read
  read_whole e = rw (e, read)

  -- a refusal of a form that is long enough is one of the bytes
  pub reading_refused : (form : List ℕ) → form_length ≤ length form → (n p : ℕ) → (reading bs form).answer ≡ refusal n p → read bs ≡ bad n p
  reading_refused form room n p e = go (read bs) refl
    where
      go : (r : Parsed RuleSet) → read bs ≡ r → read bs ≡ bad n p
      go (good b i) q =
          let k = ap (λ (x : Reading). x.answer) (reading_good bs form b i room q) in
          let z : ◌≡◌ {A = ℕ} 0 1 = cc in
          absurd (omega arith)
      go (bad m o) q =
          let k = ap (λ (x : Reading). x.answer) (reading_bad bs form m o room q) in
          let s : m ≡ n = cc in
          let t : o ≡ p = cc in
          q ∙ (λ i. bad (s i) (t i))

  -- a form of zeros

  pub afresh_bad : (n p : ℕ) → read bs ≡ bad n p → (reading bs (zeros form_length)).answer ≡ refusal n p
  afresh_bad n p e = ap (λ (x : Reading). x.answer) (reading_bad bs (zeros form_length) n p zeros_long e)

  pub afresh_good : (b : RuleSet) (i : ℕ) → read bs ≡ good b i → reading bs (zeros form_length) ≡ record { answer = done i; form = encoded b }
  afresh_good b i e =
      reading_good bs (zeros form_length) b i zeros_long e
      ∙ ap (λ (xs : List ℕ). record { answer = done i; form = xs }) (ap (λ (xs : List ℕ). encoded b ++ xs) zeros_end ∙ append-nil (encoded b))

  -- another form that is long enough

  module _ (form : List ℕ) (room : form_length ≤ length form) where
    pub afresh_refused : (n p : ℕ) → (reading bs (zeros form_length)).answer ≡ refusal n p → reading bs form ≡ record { answer = refusal n p; form = form }
    afresh_refused n p e = reading_bad bs form n p room (reading_refused (zeros form_length) zeros_long n p e)

    -- what was left in the zeros is copied over it
    pub afresh_copied : (i : ℕ) (left : List ℕ) → reading bs (zeros form_length) ≡ record { answer = done i; form = left }
        → reading bs form ≡ record { answer = done i; form = left ++ drop form_length form }
    afresh_copied i left e =
        let (b, r, h) = reading_done bs (zeros form_length) i (ap (λ (x : Reading). x.answer) e) in
        let f : left ≡ encoded b = ap (λ (x : Reading). x.form) (sym e ∙ afresh_good b i r) in
        reading_good bs form b i room r ∙ ap (λ (xs : List ℕ). record { answer = done i; form = xs ++ drop form_length form }) (sym f)

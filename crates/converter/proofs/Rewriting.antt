-- A form with another version is the form of the rule set in that version, and writing it is what a converter gives. Assumes nothing.
use mathlib.Core.Path.{◌≡◌, refl, sym, ap, ◌∙◌}
use mathlib.Core.Bool.{true}
use mathlib.Core.List.{List, [], ◌∷◌, ◌++◌, append_assoc, append-nil}
use Prim.Native.Nat.{ℕ, ◌≤◌}
use native.Mathlib.Omega.{arith}
use lib.ListN.{length, drop, set, length-append}
use lib.Seq.{set_at}
use Rattle.model.specs.Lists.{padded, collect}
use Rattle.model.specs.Limits.{bytes_limit}
use Rattle.model.specs.Rules.{RuleSet}
use Rattle.model.specs.WellFormed.{WellFormed}
use Rattle.model.specs.Format.{Parsed, good, bad, rule_set, whole, read, bytes_of}
use Rattle.model.specs.Form.{form_length, refusal, done, rule_row, encoded, decoded, Reading, reading, Writing, writing}
use Rattle.laws.proofs.WellFormed.{predicates_few}
use Rattle.laws.proofs.Places.{length_padded}
use Rattle.laws_format.proofs.Bytes.{read_well_formed, read_of_bytes, rule_set_of_read, bytes_at_most}
use Rattle.laws_format.proofs.Form.{encoded_length, decoded_encoded}
use Rattle.laws_format.proofs.RoundTrip.{writing_good, reading_done}
use Rattle.parsing.specs.Step.{zeros}
use Rattle.reader.proofs.Reading.{afresh_good}
use Rattle.converter_model.specs.Converter.{versioned, opening, convertible, converting}
use Rattle.converter_model.proofs.Converting.{versioned_well_formed, parts_good, read_whole, convertible_whole, convertible_read, converting_bad, converting_good}
use Rattle.converter.specs.Contract.{Known, rewriting}

-- the version stands behind all other numbers that are counted
pub set_version : {b : RuleSet} → WellFormed b → (version : ℕ) → set (encoded b) 7810 version ≡ encoded (versioned version b)
unfolding encoded
set_version {b} w version =
    let rows : List ℕ = padded 6784 (collect rule_row b.rules) in
    let listed : List ℕ = padded 1024 b.arities in
    let front : List ℕ = length b.arities ∷ length b.rules ∷ (rows ++ listed) in
    let l = length_padded 1024 b.arities (predicates_few w) in
    let m = length-append rows listed in
    let n = length-append rows (listed ++ (b.version ∷ 0 ∷ [])) in
    let o = length-append listed (b.version ∷ 0 ∷ []) in
    let wide : length front ≡ 7810 = omega (arith, encoded_length w) in
    let parts : (v : ℕ) → rows ++ (listed ++ (v ∷ 0 ∷ [])) ≡ (rows ++ listed) ++ (v ∷ 0 ∷ []) = λ v. sym (append_assoc rows listed (v ∷ 0 ∷ [])) in
    ap (λ (xs : List ℕ). set (length b.arities ∷ length b.rules ∷ xs) 7810 version) (parts b.version)
    ∙ set_at front b.version (0 ∷ []) version 7810 wide
    ∙ ap (λ (xs : List ℕ). length b.arities ∷ length b.rules ∷ xs) (sym (parts version))

module _ (version : ℕ) (bytes out : List ℕ) where
  pub rewriting_bad : (n p : ℕ) → read bytes ≡ bad n p → rewriting version bytes out ≡ record { answer = refusal n p; bytes = out }
  unfolding rewriting
  rewriting_bad n p e = rw (e, rewriting)

  pub rewriting_good : (b : RuleSet) (i : ℕ) → read bytes ≡ good b i → rewriting version bytes out ≡ writing (encoded (versioned version b)) out
  unfolding rewriting
  rewriting_good b i e = rw (e, rewriting)

  -- by what was read into a form of zeros, and then given another version
  pub rewriting_written : (n : ℕ) (left : List ℕ) {x : Writing} → reading bytes (zeros form_length) ≡ record { answer = done n; form = left }
      → writing (set left 7810 version) out ≡ x → rewriting version bytes out ≡ x
  rewriting_written n left e f =
      let (b, r, h) = reading_done bytes (zeros form_length) n (ap (λ (y : Reading). y.answer) e) in
      let same : left ≡ encoded b = ap (λ (y : Reading). y.form) (sym e ∙ afresh_good bytes b n r) in
      rewriting_good b n r
      ∙ sym (ap (λ (form : List ℕ). writing form out) (ap (λ (xs : List ℕ). set xs 7810 version) same ∙ set_version (read_well_formed bytes b n r) version)) ∙ f

-- what is well-formed is written
pub encoded_written : (b : RuleSet) → WellFormed b → (out : List ℕ) → bytes_limit ≤ length out
    → writing (encoded b) out ≡ record { answer = done (length (bytes_of b)); bytes = bytes_of b ++ drop (length (bytes_of b)) out }
encoded_written b w out room =
    let held : decoded (encoded b) ≡ b = ap decoded (sym (append-nil (encoded b))) ∙ decoded_encoded w [] in
    let read_again = rule_set_of_read (bytes_of b) b (length (bytes_of b)) (read_of_bytes b w) in
    let l : length (bytes_of b) ≤ length out = omega (arith, bytes_at_most w) in
    writing_good (encoded b) out b (length (bytes_of b)) (ap (λ (x : RuleSet). rule_set (bytes_of x)) held ∙ read_again) (rw held l)
    ∙ ap (λ (x : RuleSet). record { answer = done (length (bytes_of x)); bytes = bytes_of x ++ drop (length (bytes_of x)) out }) held

-- behind its opening, what is read is what is convertible
pub rewriting_converts : (from to : ℕ) (bytes out : List ℕ) → Known to → bytes_limit ≤ length out → whole bytes ≡ true → (n i : ℕ) → opening from bytes ≡ good n i
    → converting from to bytes out ≡ rewriting to bytes out
rewriting_converts from to bytes out known room w n i e = go (read bytes) refl
  where
    same : convertible from bytes ≡ read bytes
    same = convertible_whole bytes from w ∙ parts_good (opening from bytes) (λ m j. rule_set bytes) n i e ∙ sym (read_whole bytes w)

    go : (o : Parsed RuleSet) → read bytes ≡ o → converting from to bytes out ≡ rewriting to bytes out
    go (bad m p) f = converting_bad from to bytes out room m p (same ∙ f) ∙ sym (rewriting_bad to bytes out m p f)
    go (good b j) f =
        let t = convertible_read from bytes b j (same ∙ f) in
        let formed : WellFormed (versioned to b) = versioned_well_formed (read_well_formed bytes b j f) (record { first = known.first; last = known.last }) t.few in
        converting_good from to bytes out room b j (same ∙ f) ∙ sym (rewriting_good to bytes out b j f ∙ encoded_written (versioned to b) formed out room)

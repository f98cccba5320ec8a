-- Reading and writing undo each other (document 01, "Part of the product"): what is written is read into a form as the same rule set, and what
-- is read is written as the same bytes. The writer refuses only by 3 to 9, at a byte, and by 1. Assumes nothing.
use mathlib.Core.Path.{◌≡◌, refl, sym, ap, ◌∙◌}
use mathlib.Core.Bool.{true, false}
use mathlib.Core.Logic.{◌⊎◌, inl, inr}
use mathlib.Core.List.{List, ◌++◌}
use Prim.Native.Nat.{ℕ, ◌≤◌, ◌<◌}
use native.Mathlib.Omega.{arith}
use lib.Dec.{leb}
use lib.ListN.{length, take, drop}
use lib.Seq.{take-append_seam}
use borrow.Author.Tests.{leb-true, leb-false, le-leb, lt-leb}
use Rattle.model.specs.Rules.{RuleSet}
use Rattle.model.specs.WellFormed.{WellFormed}
use Rattle.model.specs.Format.{Parsed, good, bad, rule_set, read, content, bytes_of}
use Rattle.model.specs.Form.{form_length, encoded, decoded, done, refusal, Reading, reading, Writing, writing}
use Rattle.laws.proofs.Bools.{case}
use Rattle.laws_format.proofs.Parsers.{Bytes, Meets, meets_value, meets_fault}
use Rattle.laws_format.proofs.Format.{rule_set_meets}
use Rattle.laws_format.proofs.Bytes.{read_well_formed, read_end, bytes_of_read, rule_set_of_read, drop_bytes_of, read_bytes_of, read_of_bytes}
use Rattle.laws_format.proofs.Form.{decoded_encoded, decoded_shaped}

-- what the bytes of the rule set of a form meet
module _ (form : List ℕ) where
  pub decoded_meets : Meets (length (bytes_of (decoded form))) (decoded form) (length (bytes_of (decoded form))) (WellFormed (decoded form)) (rule_set (bytes_of (decoded form)))
  decoded_meets = rule_set_meets (bytes_of (decoded form)) (decoded form) (decoded_shaped form) (drop_bytes_of (decoded form))

  module _ (b : RuleSet) (i : ℕ) (e : rule_set (bytes_of (decoded form)) ≡ good b i) where
    pub decoded_same : b ≡ decoded form
    decoded_same = (meets_value decoded_meets b i e).0

    pub decoded_end : i ≡ length (bytes_of (decoded form))
    decoded_end = (meets_value decoded_meets b i e).1

    pub decoded_well_formed : WellFormed (decoded form)
    decoded_well_formed = (meets_value decoded_meets b i e).2

    pub decoded_read : read (bytes_of (decoded form)) ≡ good (decoded form) (length (bytes_of (decoded form)))
    decoded_read = read_of_bytes (decoded form) decoded_well_formed

  -- the reader of these bytes would find the same fault at the same place, wherever four bytes have room for their length
  pub decoded_fault_read : (n p : ℕ) → rule_set (bytes_of (decoded form)) ≡ bad n p → length (content (decoded form)) < 4294967296
      → read (bytes_of (decoded form)) ≡ bad n p
  decoded_fault_read n p e h = read_bytes_of (decoded form) h ∙ e

  -- 3 to 9 alone, at a byte, and only for what is not well-formed
  pub decoded_fault : (n p : ℕ) → rule_set (bytes_of (decoded form)) ≡ bad n p
      → (WellFormed (decoded form) → ⊥) × (3 ≤ n) × (n ≤ 9) × (p < length (bytes_of (decoded form)))
  decoded_fault n p e = meets_fault decoded_meets n p e

-- `reading`, case by case

module _ (bytes form : List ℕ) where
  pub reading_short : length form < form_length → reading bytes form ≡ record { answer = refusal 1 0; form = form }
  unfolding reading
  reading_short h = rw (lt-leb form_length (length form) h, reading)

  pub reading_bad : (n p : ℕ) → form_length ≤ length form → read bytes ≡ bad n p → reading bytes form ≡ record { answer = refusal n p; form = form }
  unfolding reading
  reading_bad n p h e = rw (le-leb form_length (length form) h, e, reading)

  pub reading_good : (b : RuleSet) (i : ℕ) → form_length ≤ length form → read bytes ≡ good b i
      → reading bytes form ≡ record { answer = done i; form = encoded b ++ drop form_length form }
  unfolding reading
  reading_good b i h e = rw (le-leb form_length (length form) h, e, reading)

  -- what was read
  pub reading_done : (n : ℕ) → (reading bytes form).answer ≡ done n → (b : RuleSet) × (read bytes ≡ good b n) × (form_length ≤ length form)
  reading_done n e = go (case (leb form_length (length form))) (read bytes) refl
    where
      go : (leb form_length (length form) ≡ true) ⊎ (leb form_length (length form) ≡ false) → (o : Parsed RuleSet) → read bytes ≡ o
          → (b : RuleSet) × (read bytes ≡ good b n) × (form_length ≤ length form)
      go (inr l) o h = let k = ap (λ (x : Reading). x.answer) (reading_short (leb-false form_length (length form) l)) in let z : ◌≡◌ {A = ℕ} 0 1 = cc in absurd (omega arith)
      go (inl l) (bad m p) h =
          let k = ap (λ (x : Reading). x.answer) (reading_bad m p (leb-true form_length (length form) l) h) in
          let z : ◌≡◌ {A = ℕ} 0 1 = cc in
          absurd (omega arith)
      go (inl l) (good b i) h =
          let k = ap (λ (x : Reading). x.answer) (reading_good b i (leb-true form_length (length form) l) h) in
          let s : i ≡ n = cc in
          (b, h ∙ ap (good b) s, leb-true form_length (length form) l)

-- `writing`, case by case

module _ (form out : List ℕ) where
  pub writing_bad : (n p : ℕ) → rule_set (bytes_of (decoded form)) ≡ bad n p → writing form out ≡ record { answer = refusal n p; bytes = out }
  unfolding writing
  writing_bad n p e = rw (e, writing)

  pub writing_short : (b : RuleSet) (i : ℕ) → rule_set (bytes_of (decoded form)) ≡ good b i → length out < length (bytes_of (decoded form))
      → writing form out ≡ record { answer = refusal 1 0; bytes = out }
  unfolding writing
  writing_short b i e h = rw (e, lt-leb (length (bytes_of (decoded form))) (length out) h, writing)

  pub writing_good : (b : RuleSet) (i : ℕ) → rule_set (bytes_of (decoded form)) ≡ good b i → length (bytes_of (decoded form)) ≤ length out
      → writing form out ≡ record { answer = done (length (bytes_of (decoded form))); bytes = bytes_of (decoded form) ++ drop (length (bytes_of (decoded form))) out }
  unfolding writing
  writing_good b i e h = rw (e, le-leb (length (bytes_of (decoded form))) (length out) h, writing)

  -- everything that `writing` can give
  pub data Written : Writing → Type 0 where
    faulty : {n p : ℕ} → (WellFormed (decoded form) → ⊥) → rule_set (bytes_of (decoded form)) ≡ bad n p → 3 ≤ n → n ≤ 9 → p < length (bytes_of (decoded form))
        → Written (record { answer = refusal n p; bytes = out })
    short : WellFormed (decoded form) → length out < length (bytes_of (decoded form)) → Written (record { answer = refusal 1 0; bytes = out })
    whole : WellFormed (decoded form) → length (bytes_of (decoded form)) ≤ length out
        → Written (record { answer = done (length (bytes_of (decoded form))); bytes = bytes_of (decoded form) ++ drop (length (bytes_of (decoded form))) out })

  pub writing_written : Written (writing form out)
  writing_written = go (rule_set (bytes_of (decoded form))) refl (case (leb (length (bytes_of (decoded form))) (length out)))
    where
      go : (o : Parsed RuleSet) → rule_set (bytes_of (decoded form)) ≡ o
          → (leb (length (bytes_of (decoded form))) (length out) ≡ true) ⊎ (leb (length (bytes_of (decoded form))) (length out) ≡ false) → Written (writing form out)
      go (bad n p) e l = let (f, h, k, m) = decoded_fault form n p e in rw (writing_bad n p e) (faulty f e h k m)
      go (good b i) e (inl l) =
          let h = leb-true (length (bytes_of (decoded form))) (length out) l in
          rw (writing_good b i e h) (whole (decoded_well_formed form b i e) h)
      go (good b i) e (inr l) =
          let h = leb-false (length (bytes_of (decoded form))) (length out) l in
          rw (writing_short b i e h) (short (decoded_well_formed form b i e) h)

  -- what was written
  pub record Done (n : ℕ) (left : List ℕ) : Type 0 where
    pub well_formed : WellFormed (decoded form)
    pub count : n ≡ length (bytes_of (decoded form))
    pub bytes : take n left ≡ bytes_of (decoded form)

  written_done : {x : Writing} → Written x → (n : ℕ) → x.answer ≡ done n → Done n x.bytes
  written_done (faulty f e l m h) n k = let z : ◌≡◌ {A = ℕ} 0 1 = cc in absurd (omega arith)
  written_done (short w l) n k = let z : ◌≡◌ {A = ℕ} 0 1 = cc in absurd (omega arith)
  written_done (whole w l) n k =
      let e : n ≡ length (bytes_of (decoded form)) = cc in
      record { well_formed = w; count = e; bytes = rw e (take-append_seam (bytes_of (decoded form)) (drop (length (bytes_of (decoded form))) out)) }

  pub writing_done : (n : ℕ) → (writing form out).answer ≡ done n → Done n (writing form out).bytes
  writing_done n e = written_done writing_written n e

-- Written, then read: the same rule set in the counted places of the front, 0 in the others, and nothing changed beyond it.
pub written_read : (form out other : List ℕ) (n : ℕ) → (writing form out).answer ≡ done n → form_length ≤ length other
    → reading (take n (writing form out).bytes) other ≡ record { answer = done n; form = encoded (decoded form) ++ drop form_length other }
written_read form out other n e h =
    let d = writing_done form out n e in
    reading_good (take n (writing form out).bytes) other (decoded form) n h
    (ap read d.bytes ∙ read_of_bytes (decoded form) d.well_formed ∙ ap (good (decoded form)) (sym d.count))

-- so the form holds again what the written one held
pub written_read_decoded : (form out other : List ℕ) (n : ℕ) → (writing form out).answer ≡ done n → form_length ≤ length other
    → decoded (reading (take n (writing form out).bytes) other).form ≡ decoded form
written_read_decoded form out other n e h =
    ap (λ (x : Reading). decoded x.form) (written_read form out other n e h) ∙ decoded_encoded (writing_done form out n e).well_formed (drop form_length other)

-- Read, then written: the same bytes.
pub read_written : (bytes form out : List ℕ) (n : ℕ) → Bytes bytes → (reading bytes form).answer ≡ done n → length bytes ≤ length out
    → writing (reading bytes form).form out ≡ record { answer = done n; bytes = bytes ++ drop n out }
read_written bytes form out n h e l = go (reading_done bytes form n e)
  where
    go : (b : RuleSet) × (read bytes ≡ good b n) × (form_length ≤ length form) → writing (reading bytes form).form out ≡ record { answer = done n; bytes = bytes ++ drop n out }
    go (b, r, f) =
        let w = read_well_formed bytes b n r in
        let left : (reading bytes form).form ≡ encoded b ++ drop form_length form = ap (λ (x : Reading). x.form) (reading_good bytes form b n f r) in
        let same : bytes_of (decoded (reading bytes form).form) ≡ bytes =
        ap (λ (xs : List ℕ). bytes_of (decoded xs)) left ∙ ap bytes_of (decoded_encoded w (drop form_length form)) ∙ bytes_of_read bytes b n r h
        in
        let written : List ℕ → Writing = λ (xs : List ℕ). record { answer = done (length xs); bytes = xs ++ drop (length xs) out } in
        let ended : Writing = record { answer = done n; bytes = bytes ++ drop n out } in
        let count : written bytes ≡ ended = ap (λ (m : ℕ). record { answer = done m; bytes = bytes ++ drop m out }) (sym (read_end bytes b n r)) in
        writing_good (reading bytes form).form out b n (ap rule_set same ∙ rule_set_of_read bytes b n r) (rw same l) ∙ ap written same ∙ count

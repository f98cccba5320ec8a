-- The text that `print` writes, for every input: at most 76,863 bytes, each below 128. Assumes nothing.
use mathlib.Core.Path.{◌≡◌, refl}
use mathlib.Core.List.{List, [], ◌∷◌}
use Prim.Native.Nat.{ℕ, ◌≤◌}
use native.Mathlib.Omega.{arith}
use lib.ListN.{length, take, replicate, length-append}
use Rattle.model.specs.Term.{Term}
use Rattle.model.specs.Rules.{RuleSet}
use Rattle.model.specs.WellFormed.{WellFormed}
use Rattle.model.specs.Format.{good, read}
use Rattle.model.specs.Stages.{Verdict, accepted, cyclic_at, refused, stage, verdict}
use Rattle.model.specs.Limits.{input_limit, terms_front, facts_front, program_depth}
use Rattle.model.specs.Tables.{Checked, checked, left}
use Rattle.model.specs.Text.{term_numbers, text, declared, text_of, printed}
use Rattle.laws_format.proofs.Bytes.{read_well_formed}
use Rattle.laws_stages.proofs.Verdict.{accepted_says, cyclic_at_says, reached_bounded}
use Rattle.laws_tables.proofs.Refusals.{Excessive, verdict_excessive}
use Rattle.laws_tables.proofs.Courses.{Course, short, shallow, faulty, judged, course, left_verdict}
use Rattle.laws_tables.proofs.Lines.{Ascii}
use Rattle.laws_tables.proofs.Text.{Shown, TermLine, text_of_ascii, length_accepted, length_cyclic_at, length_refused}
use Rattle.laws_tables.proofs.Spelled.{Held, accepted_held, cyclic_at_held}
use Rattle.laws_tables.proofs.Shown.{term_shown, recorded_shown}

-- the arities of a rule set that was read
pub declared_good : (bytes : List ℕ) (b : RuleSet) (i : ℕ) → read bytes ≡ good b i → declared bytes ≡ b.arities
unfolding declared
declared_good bytes b i e = rw (e, declared)

module _ {d : ℕ} {b : RuleSet} {v : Verdict} {n f t : ℕ} {more : List Term} (h : Held d b v n f t more) (terms₀ facts₀ : List ℕ) where
  held_shown : Shown b.arities (left d b v terms₀ facts₀).terms (left d b v terms₀ facts₀).facts f t
  held_shown = rw (h.tables terms₀ facts₀, h.facts, h.terms) (recorded_shown h.records h.within v terms₀ facts₀)

-- the record after the stage's own
held_more : {d : ℕ} {b : RuleSet} {v : Verdict} {n f t : ℕ} {u : Term} → Held d b v n f t (u ∷ []) → (terms₀ facts₀ : List ℕ)
    → TermLine (term_numbers (left d b v terms₀ facts₀).terms t)
held_more {d} {b} {v} {n} {f} {t} {u} h terms₀ facts₀ =
    rw (h.tables terms₀ facts₀, h.terms)
    (term_shown h.records h.within v terms₀ facts₀ (length (stage b n).terms) (rw (length-append (stage b n).terms (u ∷ [])) (omega arith)))

length_left : (d : ℕ) (b : RuleSet) → WellFormed b → (terms₀ facts₀ : List ℕ) (v : Verdict) → verdict d b ≡ v → Excessive v
    → length (text b.arities v (left d b v terms₀ facts₀).terms (left d b v terms₀ facts₀).facts) ≤ 76863
length_left d b w terms₀ facts₀ (accepted n f t) e x =
    let k = reached_bounded b w n (accepted_says d b w e).reached in
    let l = length_accepted {n = n} (omega arith) (held_shown (accepted_held d b w e) terms₀ facts₀) in
    omega arith
length_left d b w terms₀ facts₀ (cyclic_at n f t) e x =
    let j = (cyclic_at_says d b w e).next in
    let k = reached_bounded b w (cyclic_at_says d b w e).last (cyclic_at_says d b w e).reached in
    length_cyclic_at {n = n} (omega arith) (held_shown (cyclic_at_held d b w e) terms₀ facts₀) (held_more (cyclic_at_held d b w e) terms₀ facts₀)
length_left d b w terms₀ facts₀ (refused n p) e x =
    let l = length_refused b.arities n p (left d b (refused n p) terms₀ facts₀).terms (left d b (refused n p) terms₀ facts₀).facts (omega arith) in
    omega arith

pub length_text_of : (d : ℕ) (bytes terms₀ facts₀ : List ℕ) → length (text_of bytes (checked d bytes terms₀ facts₀)) ≤ 76863
unfolding text_of
length_text_of d bytes terms₀ facts₀ = go (course d bytes terms₀ facts₀)
  where
    c : Checked
    c = checked d bytes terms₀ facts₀

    refusal : (n p : ℕ) → n ≤ 18 → c ≡ record { verdict = refused n p; terms = terms₀; facts = facts₀ } → length (text (declared bytes) c.verdict c.terms c.facts) ≤ 76863
    refusal n p l e = let k = length_refused (declared bytes) n p terms₀ facts₀ (omega arith) in rw e (omega arith)

    go : Course d bytes terms₀ facts₀ → length (text (declared bytes) c.verdict c.terms c.facts) ≤ 76863
    go (short h e) = refusal 1 0 (omega arith) e
    go (shallow h a e) = refusal 18 0 (omega arith) e
    go (faulty n p i j h a r e) = refusal n p (omega arith) e
    go (judged b i h a r e) =
        rw (declared_good bytes b i r, e, left_verdict d b (verdict d b) terms₀ facts₀)
        (length_left d b (read_well_formed bytes b i r) terms₀ facts₀ (verdict d b) refl (verdict_excessive d b))

pub length_printed : (input : List ℕ) → length (printed input) ≤ 76863
unfolding printed
length_printed input = length_text_of program_depth (take input_limit input) (replicate terms_front 0) (replicate facts_front 0)

pub printed_ascii : (input : List ℕ) → Ascii (printed input)
unfolding printed
printed_ascii input = text_of_ascii (take input_limit input) (checked program_depth (take input_limit input) (replicate terms_front 0) (replicate facts_front 0))

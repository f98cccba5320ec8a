-- What a rule set means does not hang on the version of its bytes: stages, verdict, tables and text are the same. Assumes nothing.
use mathlib.Core.Path.{◌≡◌, refl, sym, ap, ◌∙◌}
use mathlib.Core.Bool.{Bool, true, false, ◌&&◌}
use mathlib.Core.List.{List, []}
use Prim.Native.Nat.{ℕ, zero, suc, ◌-◌, ◌≤◌}
use native.Mathlib.Omega.{arith}
use lib.Dec.{leb}
use lib.ListN.{length, take, replicate}
use lib.Seq.{take_all}
use Rattle.model.specs.Limits.{bytes_limit, input_limit, program_depth, terms_front, facts_front}
use Rattle.model.specs.Rules.{RuleSet, entries}
use Rattle.model.specs.Format.{Parsed, good, bad, read}
use Rattle.model.specs.Stages.{Stage, leaves, stage, grown, outputs, cyclic_terms, Verdict, accepted, cyclic_at, refused, verdict}
use Rattle.model.specs.Tables.{Checked, recorded, left, is_depth, checked}
use Rattle.model.specs.Text.{text, declared, text_of, printed}
use Rattle.laws_tables.proofs.Printed.{declared_good}
use Rattle.converter_model.specs.Converter.{versioned}

module _ (version : ℕ) (b : RuleSet) where
  pub stage_versioned : (n : ℕ) → stage (versioned version b) n ≡ stage b n
  unfolding stage leaves entries
  stage_versioned zero = refl
  stage_versioned (suc n) = ap (λ (s : Stage). grown s (outputs (entries b) s)) (stage_versioned n)

  pub verdict_versioned : (d : ℕ) → verdict d (versioned version b) ≡ verdict d b
  unfolding verdict entries stage leaves
  verdict_versioned d = refl

  pub left_versioned : (d : ℕ) (v : Verdict) (terms₀ facts₀ : List ℕ) → left d (versioned version b) v terms₀ facts₀ ≡ left d b v terms₀ facts₀
  unfolding left entries
  left_versioned d (accepted n f t) terms₀ facts₀ = ap (λ (s : Stage). recorded (accepted n f t) s [] terms₀ facts₀) (stage_versioned n)
  left_versioned d (cyclic_at n f t) terms₀ facts₀ =
      ap (λ (s : Stage). recorded (cyclic_at n f t) s (take 1 (cyclic_terms d (entries b) s)) terms₀ facts₀) (stage_versioned (n - 1))
  left_versioned d (refused n p) terms₀ facts₀ = refl

-- bytes that give the same rules over the same predicates, in any two versions
pub record Alike (bs cs : List ℕ) : Type 0 where
  pub book : RuleSet
  pub version : ℕ
  pub end : ℕ
  pub end' : ℕ
  pub first : read bs ≡ good book end
  pub second : read cs ≡ good (versioned version book) end'

-- the check answers the same and leaves the same, at whatever depth and in whatever tables
pub checked_alike : {bs cs : List ℕ} → Alike bs cs → (d : ℕ) (terms₀ facts₀ : List ℕ) → checked d cs terms₀ facts₀ ≡ checked d bs terms₀ facts₀
unfolding checked
checked_alike {bs} {cs} h d terms₀ facts₀ =
    let b : RuleSet = h.book in
    let c : RuleSet = versioned h.version b in
    let same : left d c (verdict d c) terms₀ facts₀ ≡ left d b (verdict d b) terms₀ facts₀ =
    ap (λ (v : Verdict). left d c v terms₀ facts₀) (verdict_versioned h.version b d) ∙ left_versioned h.version b d (verdict d b) terms₀ facts₀
    in
    go (leb terms_front (length terms₀) && leb facts_front (length facts₀)) (is_depth d) (read cs) (read bs) h.second h.first same
  where
    parsed : Parsed RuleSet → Checked
    parsed o = elim o [ bad n p ↦ record { verdict = refused n p; terms = terms₀; facts = facts₀ } | good b i ↦ left d b (verdict d b) terms₀ facts₀ ]

    answered : Bool → Bool → Parsed RuleSet → Checked
    answered room deep o =
        elim room [
          | false ↦ record { verdict = refused 1 0; terms = terms₀; facts = facts₀ }
          | true ↦ elim deep [ false ↦ record { verdict = refused 18 0; terms = terms₀; facts = facts₀ } | true ↦ parsed o ]
        ]

    go : (room deep : Bool) (o q : Parsed RuleSet) → {b c : RuleSet} {i j : ℕ} → o ≡ good c j → q ≡ good b i → left d c (verdict d c) terms₀ facts₀ ≡ left d b (verdict d b) terms₀ facts₀
        → ◌≡◌ {A = Checked} (answered room deep o) (answered room deep q)
    go false deep o q e f s = refl
    go true false o q e f s = refl
    go true true o q e f s = ap parsed e ∙ s ∙ sym (ap parsed f)

-- so does the text of an answer
pub text_alike : {bs cs : List ℕ} → Alike bs cs → (x : Checked) → text_of cs x ≡ text_of bs x
unfolding text_of
text_alike {bs} {cs} h x =
    let same : declared cs ≡ declared bs = declared_good cs _ _ h.second ∙ sym (declared_good bs _ _ h.first) in
    ap (λ (arities : List ℕ). text arities x.verdict x.terms x.facts) same

-- and what the program prints, since all of the bytes are read

printed_whole : (bs : List ℕ) → length bs ≤ bytes_limit → printed bs ≡ text_of bs (checked program_depth bs (replicate terms_front 0) (replicate facts_front 0))
unfolding printed
printed_whole bs h =
    ap (λ (xs : List ℕ). text_of xs (checked program_depth xs (replicate terms_front 0) (replicate facts_front 0))) (take_all input_limit bs (omega arith))

pub printed_alike : {bs cs : List ℕ} → Alike bs cs → length bs ≤ bytes_limit → length cs ≤ bytes_limit → printed cs ≡ printed bs
printed_alike {bs} {cs} h l m =
    printed_whole cs m ∙ ap (text_of cs) (checked_alike h program_depth (replicate terms_front 0) (replicate facts_front 0)) ∙ text_alike h _ ∙ sym (printed_whole bs l)

-- `text::write_text` meets its contract: a header, the records, and the cyclic term where there is one; or the line of a refusal.
-- Assumes nothing.
use mathlib.Core.Path.{◌≡◌, ap, ◌∙◌, subst}
use mathlib.Core.List.{List, [], ◌∷◌, ◌++◌}
use Prim.Native.Nat.{ℕ, suc, ◌+◌}
use native.Mathlib.Omega.{arith}
use lib.ListN.{length, length-append}
use Rattle.model.specs.Text.{line, accepted_word, cyclic_word, refused_word, loop_word, term_numbers, records, text}
use Rattle.judging.specs.declared.verdict.Verdict.{Verdict}
use Rattle.judging.specs.declared.verdict.Verdict.TheVariants.{Accepted, Cyclic, Refused}
use Rattle.judging.specs.Verdict.{meant}
use Rattle.text.specs.Legible.{LegibleTerms, LegibleFacts, Legible}
use Rattle.text.proofs.Writing.{writes_append}
use Rattle.text.proofs.Rows.{fewer_terms}
use Rattle.text.proofs.write_text.Goals as goal

-- the text of an answer and its tables, given what the answer is
module _ (arities terms facts : List ℕ) (v : Verdict) where
  abbrev told : List ℕ
  told = text arities (meant v) terms facts

  -- an accepted answer
  module _ (n f t : ℕ) (e : v ≡ Accepted n f t) where
    text₁ : told ≡ line accepted_word (n ∷ f ∷ t ∷ []) ++ records arities terms facts f t
    unfolding text
    text₁ = ap (λ (u : Verdict). text arities (meant u) terms facts) e

    length₁ : length told ≡ length (line accepted_word (n ∷ f ∷ t ∷ [])) + length (records arities terms facts f t)
    length₁ = ap length text₁ ∙ length-append (line accepted_word (n ∷ f ∷ t ∷ [])) (records arities terms facts f t)

    legible₁ : Legible arities v terms facts → LegibleTerms terms t × LegibleFacts arities facts f
    legible₁ h = subst (λ (u : Verdict). Legible arities u terms facts) e h

  -- a cyclic one
  module _ (n f t : ℕ) (e : v ≡ Cyclic n f t) where
    abbrev head₂ : List ℕ
    head₂ = line cyclic_word (n ∷ f ∷ t ∷ [])

    abbrev loop₂ : List ℕ
    loop₂ = line loop_word (term_numbers terms t)

    text₂ : told ≡ head₂ ++ (records arities terms facts f t ++ loop₂)
    unfolding text
    text₂ = ap (λ (u : Verdict). text arities (meant u) terms facts) e

    length₂ : length told ≡ length head₂ + (length (records arities terms facts f t) + length loop₂)
    length₂ =
        ap length text₂ ∙ length-append head₂ (records arities terms facts f t ++ loop₂)
        ∙ ap (λ (k : ℕ). length head₂ + k) (length-append (records arities terms facts f t) loop₂)

    legible₂ : Legible arities v terms facts → LegibleTerms terms (suc t) × LegibleFacts arities facts f
    legible₂ h = subst (λ (u : Verdict). Legible arities u terms facts) e h

  -- a refusal
  text₃ : (n p : ℕ) → v ≡ Refused n p → told ≡ line refused_word (n ∷ p ∷ [])
  unfolding text
  text₃ n p e = ap (λ (u : Verdict). text arities (meant u) terms facts) e

pub write_header-end-requires : goal.write_header-end-requires
write_header-end-requires c =
    let a = c.args in
    let i = c.in-Accepted in
    let h = length₁ a.arities.now a.terms.now a.facts.now a.verdict i.stage i.f i.t i.is in
    let p = c.requires.1 in
    omega arith

pub write_records-requires : goal.write_records-requires
write_records-requires c =
    let a = c.args in
    let i = c.in-Accepted in
    let h = length₁ a.arities.now a.terms.now a.facts.now a.verdict i.stage i.f i.t i.is in
    let p = c.requires.1 in
    let legible = legible₁ a.arities.now a.terms.now a.facts.now a.verdict i.stage i.f i.t i.is c.requires.0 in
    (legible.0, legible.1, omega arith)

pub write_header-end-requires-in-Cyclic : goal.write_header-end-requires-in-Cyclic
write_header-end-requires-in-Cyclic c =
    let a = c.args in
    let i = c.in-Cyclic in
    let h = length₂ a.arities.now a.terms.now a.facts.now a.verdict i.stage i.f i.t i.is in
    let p = c.requires.1 in
    omega arith

pub write_records-behind_records-requires : goal.write_records-behind_records-requires
write_records-behind_records-requires c =
    let a = c.args in
    let i = c.in-Cyclic in
    let h = length₂ a.arities.now a.terms.now a.facts.now a.verdict i.stage i.f i.t i.is in
    let p = c.requires.1 in
    let legible = legible₂ a.arities.now a.terms.now a.facts.now a.verdict i.stage i.f i.t i.is c.requires.0 in
    (fewer_terms legible.0 _ (omega arith), legible.1, omega arith)

pub write_loop_line-requires : goal.write_loop_line-requires
write_loop_line-requires c =
    let a = c.args in
    let i = c.in-Cyclic in
    let h = length₂ a.arities.now a.terms.now a.facts.now a.verdict i.stage i.f i.t i.is in
    let p = c.requires.1 in
    let legible = legible₂ a.arities.now a.terms.now a.facts.now a.verdict i.stage i.f i.t i.is c.requires.0 in
    (legible.0, omega arith)

pub write_refusal-requires : goal.write_refusal-requires
write_refusal-requires c =
    let a = c.args in
    let i = c.in-Refused in
    let h = ap length (text₃ a.arities.now a.terms.now a.facts.now a.verdict i.number i.place i.is) in
    let p = c.requires.1 in
    omega arith

pub returns-in-Accepted : goal.returns-in-Accepted
returns-in-Accepted c =
    let a = c.args in
    let i = c.in-Accepted in
    rw (text₁ a.arities.now a.terms.now a.facts.now a.verdict i.stage i.f i.t i.is)
    (writes_append {s' = records a.arities.now a.terms.now a.facts.now i.f i.t} c.write_header-end.ensures c.write_records.ensures (omega arith))

pub returns-in-Cyclic : goal.returns-in-Cyclic
returns-in-Cyclic c =
    let a = c.args in
    let i = c.in-Cyclic in
    let h = length₂ a.arities.now a.terms.now a.facts.now a.verdict i.stage i.f i.t i.is in
    let p = c.requires.1 in
    rw (text₂ a.arities.now a.terms.now a.facts.now a.verdict i.stage i.f i.t i.is)
    (writes_append c.write_header-end-in-Cyclic.ensures
    (writes_append {s = records a.arities.now a.terms.now a.facts.now i.f i.t} c.write_records-behind_records.ensures c.write_loop_line.ensures (omega arith)) (omega arith))

pub returns-in-Refused : goal.returns-in-Refused
returns-in-Refused c =
    let a = c.args in
    let i = c.in-Refused in
    rw (text₃ a.arities.now a.terms.now a.facts.now a.verdict i.number i.place i.is) c.write_refusal.ensures

-- What the check answers and leaves in the caller's tables is what the definition gives. Assumes nothing.
use mathlib.Core.Path.{◌≡◌, refl, sym, ap, ◌∙◌, subst}
use mathlib.Core.Bool.{true, false}
use mathlib.Core.List.{List, ◌++◌}
use Prim.Native.Nat.{ℕ, suc, ◌-◌, ◌*◌, ◌≤◌}
use native.Mathlib.Omega.{arith}
use lib.Dec.{leb}
use lib.ListN.{length, take, length-append, length-map, length-take}
use borrow.Author.Tests.{leb-true}
use Rattle.model.specs.Rules.{RuleSet, entries}
use Rattle.model.specs.WellFormed.{WellFormed}
use Rattle.model.specs.Form.{form_length, decoded, done, refusal, Reading, reading}
use Rattle.model.specs.Stages.{Verdict, accepted, cyclic_at, refused, stage, cyclic_terms, verdict}
use Rattle.model.specs.Limits.{terms_front, facts_front}
use Rattle.model.specs.Tables.{term_row, fact_row, fronted, is_depth, checked}
use Rattle.judging.specs.declared.Answer.{Answer}
use Rattle.judging.specs.Verdict.{meant}
use Rattle.laws.proofs.Bools.{not_both, and_true}
use Rattle.laws_stages.specs.Reached.{Reached}
use Rattle.laws_stages.proofs.Verdict.{reached_facts_within, reached_terms_within, accepted_says, cyclic_at_says}
use Rattle.reader.proofs.Reading.{reading_refused}
use Rattle.reader.proofs.Held.{read_holds}
use Rattle.laws_tables.specs.Lent.{Fronts, Depth}
use Rattle.laws_tables.proofs.Courses.{is_depth_lem, checked_bad}
use Rattle.rows.specs.Tables.{flat}
use Rattle.tables.specs.Rows.{rows}
use Rattle.tables.proofs.Tables.{rows_length}
use Rattle.form.specs.Places.{Held}
use Rattle.rows.specs.Judging.{Judged, refused_with, judged, left_by}
use Rattle.laws_dmfa.proofs.Judging.{shown, facts_count, terms_count, judged_shown, checked_is_judged}
use Rattle.judging.specs.Judging.{answer_of}
use Rattle.dmfa.proofs.Fronts.{flat_rows}

-- an answer shows at most 513 terms and 2,048 facts

pub record Few (j : Judged) : Type 0 where
  pub terms : length j.rows.terms ≤ 513
  pub facts : length j.rows.facts ≤ 2048

module _ (d : ℕ) (b : RuleSet) (w : WellFormed b) where
  few_cyclic_at : (n k : ℕ) → n ≡ suc k → Reached d b k → (f t : ℕ) → Few (shown d b (cyclic_at n f t))
  unfolding shown
  few_cyclic_at n k e r f t =
      let p : n - 1 ≡ k = omega arith in
      let h = reached_terms_within b w k r in
      let g = reached_facts_within b w k r in
      let ts = (stage b (n - 1)).terms in
      let us = take 1 (cyclic_terms d (entries b) (stage b (n - 1))) in
      let i = ap (λ (x : ℕ). length (stage b x).terms) p in
      let j = ap (λ (x : ℕ). length (stage b x).facts) p in
      record {
        terms = omega (arith, length-map (ts ++ us) (term_row ts), length-append ts us, length-take 1 (cyclic_terms d (entries b) (stage b (n - 1))));
        facts = omega (arith, length-map (stage b (n - 1)).facts (fact_row ts));
      }

  few_shown : (v : Verdict) → verdict d b ≡ v → Few (shown d b v)
  unfolding shown refused_with
  few_shown (accepted n f t) e =
      let r = (accepted_says d b w e).reached in
      record {
        terms = omega (arith, terms_count b n, reached_terms_within b w n r);
        facts = omega (arith, facts_count b n, reached_facts_within b w n r);
      }
  few_shown (cyclic_at n f t) e = let l = cyclic_at_says d b w e in few_cyclic_at n l.last l.next l.reached f t
  few_shown (refused n p) e = record { terms = omega arith; facts = omega arith }

  judged_few : Few (judged d b)
  judged_few = subst Few (sym (judged_shown d b w)) (few_shown (verdict d b) refl)

-- the tables of an answer

module _ (d : ℕ) (form : List ℕ) (h : Held form) (a : Answer) (terms facts : List ℕ) (e : answer_of a terms facts ≡ judged d (decoded form)) where
  pub answer_few : (a.terms ≤ 513) × (a.facts ≤ 2048)
  answer_few =
      let f = subst Few (sym e) (judged_few d (decoded form) h.sound) in
      (omega (arith, f.terms, rows_length 10 a.terms terms), omega (arith, f.facts, rows_length 5 a.facts facts))

  pub answer_left : (terms₀ facts₀ terms' facts' : List ℕ) → terms' ≡ fronted terms_front (take (a.terms * 10) terms) terms₀ → facts' ≡ fronted facts_front (take (a.facts * 5) facts) facts₀
      → record { verdict = meant a.verdict; terms = terms'; facts = facts' } ≡ left_by (judged d (decoded form)) terms₀ facts₀
  answer_left terms₀ facts₀ terms' facts' p q =
      let s : terms' ≡ fronted terms_front (flat (rows 10 a.terms terms)) terms₀ = p ∙ ap (λ (l : List ℕ). fronted terms_front l terms₀) (sym (flat_rows 10 a.terms terms)) in
      let t : facts' ≡ fronted facts_front (flat (rows 5 a.facts facts)) facts₀ = q ∙ ap (λ (l : List ℕ). fronted facts_front l facts₀) (sym (flat_rows 5 a.facts facts)) in
      (λ i. record { verdict = meant a.verdict; terms = s i; facts = t i }) ∙ ap (λ (j : Judged). left_by j terms₀ facts₀) e

-- the number is a depth, or none

pub depth_told : (d : ℕ) → is_depth d ≡ true → Depth d
unfolding is_depth
depth_told d e = let (a, b) = and_true (leb 1 d) (leb d 3) e in (leb-true 1 d a, leb-true d 3 b)

pub no_depth_told : (d : ℕ) → is_depth d ≡ false → Depth d → ⊥
no_depth_told d e h = not_both (is_depth d) (is_depth_lem d h) e

-- what was read

module _ (d : ℕ) (bytes form terms₀ facts₀ : List ℕ) (room : form_length ≤ length form) (h : Fronts terms₀ facts₀) (a : Depth d) where
  -- a fault of the bytes leaves the tables as they were
  pub checked_refused : (n p : ℕ) → (reading bytes form).answer ≡ refusal n p → checked d bytes terms₀ facts₀ ≡ record { verdict = refused n p; terms = terms₀; facts = facts₀ }
  checked_refused n p e = checked_bad d bytes terms₀ facts₀ n p h a (reading_refused bytes form room n p e)

  module _ (n : ℕ) (form' : List ℕ) (e : reading bytes form ≡ record { answer = done n; form = form' }) where
    pub form_held : Held form'
    form_held =
        let (b, r, k) = read_holds bytes form n (ap (λ (x : Reading). x.answer) e) in
        subst Held (ap (λ (x : Reading). x.form) e) k.held

    pub checked_left : checked d bytes terms₀ facts₀ ≡ left_by (judged d (decoded form')) terms₀ facts₀
    checked_left =
        let (b, r, k) = read_holds bytes form n (ap (λ (x : Reading). x.answer) e) in
        let same : decoded form' ≡ b = ap decoded (sym (ap (λ (x : Reading). x.form) e)) ∙ k.same in
        checked_is_judged d bytes terms₀ facts₀ b n h a r ∙ ap (λ (x : RuleSet). left_by (judged d x) terms₀ facts₀) (sym same)

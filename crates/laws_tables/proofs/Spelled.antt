-- The tables of an accepted or cyclic answer spell out exactly the stage that the answer names, and after a cyclic answer's terms comes the first
-- cyclic term of the next stage. Assumes nothing.
use mathlib.Core.Path.{◌≡◌, refl, sym, ap, ◌∙◌, subst}
use mathlib.Core.List.Memᴰ
use mathlib.Core.List.{List, [], ◌∷◌, Memᴰ}
use Prim.Native.Nat.{ℕ, suc, ◌-◌}
use native.Mathlib.Omega.{arith}
use lib.ListN.{length, take, length-append}
use lib.Seq.{get_or-append_seam}
use Rattle.model.specs.Term.{Term, star}
use Rattle.model.specs.Rules.{RuleSet, entries}
use Rattle.model.specs.WellFormed.{WellFormed}
use Rattle.model.specs.Stages.{Stage, stage, Verdict, accepted, cyclic_at, verdict, cyclic_terms}
use Rattle.model.specs.Tables.{Checked, left, recorded}
use Rattle.model.specs.Spelled.{term_at, spelled_terms, spelled_facts}
use Rattle.laws_stages.proofs.Outputs.{cyclic_terms_mem}
use Rattle.laws_stages.proofs.Order.{outputs_terms}
use Rattle.laws_stages.specs.Says.{CyclicAt}
use Rattle.laws_stages.proofs.Verdict.{accepted_says, cyclic_at_says}
use Rattle.laws_tables.proofs.Recorded.{Recorded, terms_spelled, facts_spelled, term_spelled}
use Rattle.laws_tables.proofs.Fronts.{Within}
use Rattle.laws_tables.proofs.Stages.{Next, stage_recorded, stage_within}

-- an answer whose tables hold stage n, with f facts and t terms, and more terms after them
pub record Held (d : ℕ) (b : RuleSet) (v : Verdict) (n f t : ℕ) (more : List Term) : Type 0 where
  pub records : Recorded b.arities (stage b n) more
  pub within : Within (stage b n) more
  pub facts : f ≡ length (stage b n).facts
  pub terms : t ≡ length (stage b n).terms
  pub tables : (terms₀ facts₀ : List ℕ) → left d b v terms₀ facts₀ ≡ recorded v (stage b n) more terms₀ facts₀

pub accepted_held : (d : ℕ) (b : RuleSet) → WellFormed b → {n f t : ℕ} → verdict d b ≡ accepted n f t → Held d b (accepted n f t) n f t []
unfolding left
accepted_held d b w {n} {f} {t} e =
    let h = accepted_says d b w e in
    record {
      records = stage_recorded b w n [] (λ u m. absurd (Memᴰ.not-nil m));
      within = stage_within b w n [] (λ u m. absurd (Memᴰ.not-nil m)) h.reached (omega arith);
      facts = h.facts;
      terms = h.terms;
      tables = λ terms₀ facts₀. refl;
    }

-- the cyclic term that is shown is a term of the next stage
shown_next : (d : ℕ) (b : RuleSet) → WellFormed b → (n : ℕ) (t : Term) (ts : List Term) → cyclic_terms d (entries b) (stage b n) ≡ t ∷ ts
    → (u : Term) → Memᴰ u (t ∷ []) → Next (entries b) (stage b n).terms u
shown_next d b w n t ts e u m =
    let (c, q) = cyclic_terms_mem d (entries b) (stage b n) (subst (λ (xs : List Term). Memᴰ t xs) (sym e) (Memᴰ.head refl)) in
    let (f, k, i) = q in
    subst (λ (x : Term). Next (entries b) (stage b n).terms x) (sym (Memᴰ.eq_of_singleton m)) (outputs_terms b w n k i)

left_cyclic_at : (d : ℕ) (b : RuleSet) (n k f t : ℕ) (u : Term) (us : List Term) → n - 1 ≡ k → cyclic_terms d (entries b) (stage b k) ≡ u ∷ us → (terms₀ facts₀ : List ℕ)
    → left d b (cyclic_at n f t) terms₀ facts₀ ≡ recorded (cyclic_at n f t) (stage b k) (u ∷ []) terms₀ facts₀
unfolding left
left_cyclic_at d b n k f t u us e q terms₀ facts₀ =
    ap (λ (j : ℕ). recorded (cyclic_at n f t) (stage b j) (take 1 (cyclic_terms d (entries b) (stage b j))) terms₀ facts₀) e
    ∙ ap (λ (xs : List Term). recorded (cyclic_at n f t) (stage b k) (take 1 xs) terms₀ facts₀) q

pub cyclic_at_held : (d : ℕ) (b : RuleSet) (w : WellFormed b) {n f t : ℕ} (e : verdict d b ≡ cyclic_at n f t)
    → Held d b (cyclic_at n f t) (n - 1) f t ((cyclic_at_says d b w e).shown ∷ [])
cyclic_at_held d b w {n} {f} {t} e = go (cyclic_at_says d b w e)
  where
    go : (h : CyclicAt d b n f t) → Held d b (cyclic_at n f t) (n - 1) f t (h.shown ∷ [])
    go h =
        let q = h.next in
        let p : n - 1 ≡ h.last = omega arith in
        let next = shown_next d b w h.last h.shown h.others h.found in
        subst (λ (k : ℕ). Held d b (cyclic_at n f t) k f t (h.shown ∷ [])) (sym p)
        (record {
          records = stage_recorded b w h.last (h.shown ∷ []) next;
          within = stage_within b w h.last (h.shown ∷ []) next h.reached (omega arith);
          facts = h.facts;
          terms = h.terms;
          tables = left_cyclic_at d b n h.last f t h.shown h.others p h.found;
        })

-- the tables spell out a stage
pub record Spells (arities : List ℕ) (s : Stage) (f t : ℕ) (c : Checked) : Type 0 where
  pub terms : spelled_terms (λ j. star) t t c.terms 0 ≡ s.terms
  pub facts : spelled_facts arities (λ j. star) t f c.terms c.facts 0 ≡ s.facts

module _ {d : ℕ} {b : RuleSet} {v : Verdict} {n f t : ℕ} {more : List Term} (h : Held d b v n f t more) (terms₀ facts₀ : List ℕ) where
  pub held_spelled : Spells b.arities (stage b n) f t (left d b v terms₀ facts₀)
  held_spelled =
      rw (h.tables terms₀ facts₀, h.facts, h.terms)
      (record {
        terms = terms_spelled h.records v terms₀ facts₀ (length (stage b n).terms) (omega arith);
        facts = facts_spelled h.records v terms₀ facts₀ (length (stage b n).terms) (omega arith);
      })

-- the record after the stage's own
pub held_shown : {d : ℕ} {b : RuleSet} {v : Verdict} {n f t : ℕ} {u : Term} → Held d b v n f t (u ∷ []) → (terms₀ facts₀ : List ℕ)
    → term_at (λ j. star) (suc t) (left d b v terms₀ facts₀).terms t ≡ u
held_shown {d} {b} {v} {n} {f} {t} {u} h terms₀ facts₀ =
    rw (h.tables terms₀ facts₀, h.terms)
    (term_spelled h.records v terms₀ facts₀ (suc (length (stage b n).terms)) (length (stage b n).terms) (omega arith)
    (rw (length-append (stage b n).terms (u ∷ [])) (omega arith))
    ∙ get_or-append_seam (stage b n).terms u [] star)

-- the theorems

pub accepted_spelled : (d : ℕ) (b : RuleSet) → WellFormed b → {n f t : ℕ} → verdict d b ≡ accepted n f t → (terms₀ facts₀ : List ℕ)
    → Spells b.arities (stage b n) f t (left d b (accepted n f t) terms₀ facts₀)
accepted_spelled d b w e terms₀ facts₀ = held_spelled (accepted_held d b w e) terms₀ facts₀

pub cyclic_spelled : (d : ℕ) (b : RuleSet) → WellFormed b → {n f t : ℕ} → verdict d b ≡ cyclic_at n f t → (terms₀ facts₀ : List ℕ)
    → Spells b.arities (stage b (n - 1)) f t (left d b (cyclic_at n f t) terms₀ facts₀)
cyclic_spelled d b w e terms₀ facts₀ = held_spelled (cyclic_at_held d b w e) terms₀ facts₀

-- the record after the stage's own is the first cyclic term of the next stage
pub cyclic_shown : (d : ℕ) (b : RuleSet) → WellFormed b → {n f t : ℕ} → verdict d b ≡ cyclic_at n f t → (terms₀ facts₀ : List ℕ)
    → take 1 (cyclic_terms d (entries b) (stage b (n - 1))) ≡ term_at (λ j. star) (suc t) (left d b (cyclic_at n f t) terms₀ facts₀).terms t ∷ []
cyclic_shown d b w {n} {f} {t} e terms₀ facts₀ = ap (take 1) found ∙ ap (λ (u : Term). u ∷ []) (sym shown)
  where
    l : CyclicAt d b n f t
    l = cyclic_at_says d b w e

    found : cyclic_terms d (entries b) (stage b (n - 1)) ≡ l.shown ∷ l.others
    found = let q = l.next in let p : n - 1 ≡ l.last = omega arith in rw p l.found

    shown : term_at (λ j. star) (suc t) (left d b (cyclic_at n f t) terms₀ facts₀).terms t ≡ l.shown
    shown = held_shown (cyclic_at_held d b w e) terms₀ facts₀

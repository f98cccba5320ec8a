-- The same of `checked`: what its tables spell out, that nothing beyond their fronts and no length changes, that 16-bit tables stay such, and how
-- long its text is. Assumes nothing.
use mathlib.Core.Path.{◌≡◌, refl, sym, ap, ◌∙◌, subst}
use mathlib.Core.List.Memᴰ
use mathlib.Core.List.{List, [], ◌∷◌, Memᴰ}
use Prim.Native.Nat.{ℕ, suc, ◌-◌, ◌≤◌}
use native.Mathlib.Omega.{arith}
use lib.ListN.{length, take, drop}
use Rattle.model.specs.Term.{Term, star}
use Rattle.model.specs.Rules.{RuleSet, entries}
use Rattle.model.specs.WellFormed.{WellFormed}
use Rattle.model.specs.Format.{good, read}
use Rattle.model.specs.Stages.{stage, Verdict, accepted, cyclic_at, refused, verdict, cyclic_terms}
use Rattle.model.specs.Limits.{terms_front, facts_front}
use Rattle.model.specs.Tables.{Checked, checked, left, recorded}
use Rattle.model.specs.Spelled.{term_at}
use Rattle.laws_format.proofs.Bytes.{read_well_formed}
use Rattle.laws_stages.proofs.Deeper.{accepted_deeper}
use Rattle.laws_tables.specs.Lent.{Fronts, Depth}
use Rattle.laws_tables.proofs.Rows.{length_fronted, drop_fronted, fronts_same, fronted_within}
use Rattle.laws_tables.proofs.Courses.{Course, short, shallow, faulty, judged, course, checked_verdict, checked_good, left_refused}
use Rattle.laws_tables.proofs.Fronts.{terms_beyond, facts_beyond, terms_length, facts_length, terms_small, facts_small}
use Rattle.laws_tables.proofs.Spelled.{Held, accepted_held, cyclic_at_held, Spells, accepted_spelled, cyclic_spelled, cyclic_shown}

-- an answer that is no refusal is a verdict, and its tables are that verdict's
pub record Judged (d : ℕ) (bytes terms₀ facts₀ : List ℕ) (b : RuleSet) (v : Verdict) : Type 0 where
  pub fronts : Fronts terms₀ facts₀
  pub depth : Depth d
  pub verdict : verdict d b ≡ v
  pub tables : checked d bytes terms₀ facts₀ ≡ left d b v terms₀ facts₀

answer_judged : (d : ℕ) (bytes terms₀ facts₀ : List ℕ) (b : RuleSet) (i : ℕ) (v : Verdict) → read bytes ≡ good b i → ((n p : ℕ) → refused n p ≡ v → ⊥)
    → (checked d bytes terms₀ facts₀).verdict ≡ v → Judged d bytes terms₀ facts₀ b v
answer_judged d bytes terms₀ facts₀ b i v r n e = go (course d bytes terms₀ facts₀)
  where
    go : Course d bytes terms₀ facts₀ → Judged d bytes terms₀ facts₀ b v
    go (short h k) = absurd (n 1 0 (sym (ap (λ (c : Checked). c.verdict) k) ∙ e))
    go (shallow h a k) = absurd (n 18 0 (sym (ap (λ (c : Checked). c.verdict) k) ∙ e))
    go (faulty m p j l h a q k) = absurd (n m p (sym (ap (λ (c : Checked). c.verdict) k) ∙ e))
    go (judged b' i' h a q k) =
        let s : b' ≡ b = cc in
        let t : verdict d b ≡ v = sym (checked_verdict d bytes terms₀ facts₀ b i h a r) ∙ e in
        record { fronts = h; depth = a; verdict = t; tables = k ∙ ap (λ (x : RuleSet). left d x (verdict d x) terms₀ facts₀) s ∙ ap (λ (x : Verdict). left d b x terms₀ facts₀) t }

pub accepted_judged : (d : ℕ) (bytes terms₀ facts₀ : List ℕ) (b : RuleSet) (i n f t : ℕ) → read bytes ≡ good b i → (checked d bytes terms₀ facts₀).verdict ≡ accepted n f t
    → Judged d bytes terms₀ facts₀ b (accepted n f t)
accepted_judged d bytes terms₀ facts₀ b i n f t r e =
    answer_judged d bytes terms₀ facts₀ b i (accepted n f t) r (λ m p q. let z : ◌≡◌ {A = ℕ} 0 1 = cc in omega arith) e

pub cyclic_at_judged : (d : ℕ) (bytes terms₀ facts₀ : List ℕ) (b : RuleSet) (i n f t : ℕ) → read bytes ≡ good b i → (checked d bytes terms₀ facts₀).verdict ≡ cyclic_at n f t
    → Judged d bytes terms₀ facts₀ b (cyclic_at n f t)
cyclic_at_judged d bytes terms₀ facts₀ b i n f t r e =
    answer_judged d bytes terms₀ facts₀ b i (cyclic_at n f t) r (λ m p q. let z : ◌≡◌ {A = ℕ} 0 1 = cc in omega arith) e

-- what the tables spell out

pub checked_accepted_spelled : (d : ℕ) (bytes terms₀ facts₀ : List ℕ) (b : RuleSet) (i n f t : ℕ) → read bytes ≡ good b i
    → (checked d bytes terms₀ facts₀).verdict ≡ accepted n f t → Spells b.arities (stage b n) f t (checked d bytes terms₀ facts₀)
checked_accepted_spelled d bytes terms₀ facts₀ b i n f t r e =
    let h = accepted_judged d bytes terms₀ facts₀ b i n f t r e in
    subst (λ (c : Checked). Spells b.arities (stage b n) f t c) (sym h.tables) (accepted_spelled d b (read_well_formed bytes b i r) h.verdict terms₀ facts₀)

pub checked_cyclic_spelled : (d : ℕ) (bytes terms₀ facts₀ : List ℕ) (b : RuleSet) (i n f t : ℕ) → read bytes ≡ good b i
    → (checked d bytes terms₀ facts₀).verdict ≡ cyclic_at n f t → Spells b.arities (stage b (n - 1)) f t (checked d bytes terms₀ facts₀)
checked_cyclic_spelled d bytes terms₀ facts₀ b i n f t r e =
    let h = cyclic_at_judged d bytes terms₀ facts₀ b i n f t r e in
    subst (λ (c : Checked). Spells b.arities (stage b (n - 1)) f t c) (sym h.tables) (cyclic_spelled d b (read_well_formed bytes b i r) h.verdict terms₀ facts₀)

pub checked_cyclic_shown : (d : ℕ) (bytes terms₀ facts₀ : List ℕ) (b : RuleSet) (i n f t : ℕ) → read bytes ≡ good b i → (checked d bytes terms₀ facts₀).verdict ≡ cyclic_at n f t
    → take 1 (cyclic_terms d (entries b) (stage b (n - 1))) ≡ term_at (λ j. star) (suc t) (checked d bytes terms₀ facts₀).terms t ∷ []
checked_cyclic_shown d bytes terms₀ facts₀ b i n f t r e =
    let h = cyclic_at_judged d bytes terms₀ facts₀ b i n f t r e in
    subst (λ (c : Checked). take 1 (cyclic_terms d (entries b) (stage b (n - 1))) ≡ term_at (λ j. star) (suc t) c.terms t ∷ []) (sym h.tables)
    (cyclic_shown d b (read_well_formed bytes b i r) h.verdict terms₀ facts₀)

-- what never changes

pub record Kept (terms₀ facts₀ : List ℕ) (c : Checked) : Type 0 where
  pub terms_beyond : drop terms_front c.terms ≡ drop terms_front terms₀
  pub facts_beyond : drop facts_front c.facts ≡ drop facts_front facts₀
  pub terms_length : length c.terms ≡ length terms₀
  pub facts_length : length c.facts ≡ length facts₀

-- no number above a bound
pub record Bounded (w : ℕ) (ts fs : List ℕ) : Type 0 where
  pub terms : (x : ℕ) → Memᴰ x ts → x ≤ w
  pub facts : (x : ℕ) → Memᴰ x fs → x ≤ w

module _ {d : ℕ} {b : RuleSet} {v : Verdict} {n f t : ℕ} {more : List Term} (h : Held d b v n f t more) (terms₀ facts₀ : List ℕ) where
  held_kept : Fronts terms₀ facts₀ → Kept terms₀ facts₀ (left d b v terms₀ facts₀)
  held_kept l =
      subst (λ (c : Checked). Kept terms₀ facts₀ c) (sym (h.tables terms₀ facts₀))
      (record {
        terms_beyond = terms_beyond h.records h.within v terms₀ facts₀;
        facts_beyond = facts_beyond h.records h.within v terms₀ facts₀;
        terms_length = terms_length h.records h.within v terms₀ facts₀ l.terms;
        facts_length = facts_length h.records h.within v terms₀ facts₀ l.facts;
      })

  held_bounded : (w : ℕ) → 60003 ≤ w → Bounded w terms₀ facts₀ → Bounded w (left d b v terms₀ facts₀).terms (left d b v terms₀ facts₀).facts
  held_bounded w l k =
      subst (λ (c : Checked). Bounded w c.terms c.facts) (sym (h.tables terms₀ facts₀))
      (record {
        terms = terms_small h.records h.within v terms₀ facts₀ w l k.terms;
        facts = facts_small h.records h.within v terms₀ facts₀ w (omega arith) k.facts;
      })

refused_kept : (d : ℕ) (b : RuleSet) (n p : ℕ) (terms₀ facts₀ : List ℕ) → Fronts terms₀ facts₀ → Kept terms₀ facts₀ (left d b (refused n p) terms₀ facts₀)
refused_kept d b n p terms₀ facts₀ l =
    subst (λ (c : Checked). Kept terms₀ facts₀ c) (sym (left_refused d b n p terms₀ facts₀))
    (record {
      terms_beyond = drop_fronted terms_front [] terms₀ (omega arith);
      facts_beyond = drop_fronted facts_front [] facts₀ (omega arith);
      terms_length = length_fronted terms_front [] terms₀ (omega arith) l.terms;
      facts_length = length_fronted facts_front [] facts₀ (omega arith) l.facts;
    })

refused_bounded : (d : ℕ) (b : RuleSet) (n p : ℕ) (terms₀ facts₀ : List ℕ) (w : ℕ) → Bounded w terms₀ facts₀
    → Bounded w (left d b (refused n p) terms₀ facts₀).terms (left d b (refused n p) terms₀ facts₀).facts
refused_bounded d b n p terms₀ facts₀ w k =
    subst (λ (c : Checked). Bounded w c.terms c.facts) (sym (left_refused d b n p terms₀ facts₀))
    (record {
      terms = fronted_within w terms_front [] terms₀ (λ x m. absurd (Memᴰ.not-nil m)) k.terms;
      facts = fronted_within w facts_front [] facts₀ (λ x m. absurd (Memᴰ.not-nil m)) k.facts;
    })

module _ (d : ℕ) (b : RuleSet) (w : WellFormed b) (terms₀ facts₀ : List ℕ) where
  pub left_kept : Fronts terms₀ facts₀ → (v : Verdict) → verdict d b ≡ v → Kept terms₀ facts₀ (left d b v terms₀ facts₀)
  left_kept l (accepted n f t) e = held_kept (accepted_held d b w e) terms₀ facts₀ l
  left_kept l (cyclic_at n f t) e = held_kept (cyclic_at_held d b w e) terms₀ facts₀ l
  left_kept l (refused n p) e = refused_kept d b n p terms₀ facts₀ l

  pub left_bounded : (c : ℕ) → 60003 ≤ c → Bounded c terms₀ facts₀ → (v : Verdict) → verdict d b ≡ v
      → Bounded c (left d b v terms₀ facts₀).terms (left d b v terms₀ facts₀).facts
  left_bounded c l k (accepted n f t) e = held_bounded (accepted_held d b w e) terms₀ facts₀ c l k
  left_bounded c l k (cyclic_at n f t) e = held_bounded (cyclic_at_held d b w e) terms₀ facts₀ c l k
  left_bounded c l k (refused n p) e = refused_bounded d b n p terms₀ facts₀ c k

-- for every input: beyond the fronts nothing changes, and no length
pub checked_kept : (d : ℕ) (bytes terms₀ facts₀ : List ℕ) → Kept terms₀ facts₀ (checked d bytes terms₀ facts₀)
checked_kept d bytes terms₀ facts₀ = go (course d bytes terms₀ facts₀)
  where
    same : {v : Verdict} → checked d bytes terms₀ facts₀ ≡ record { verdict = v; terms = terms₀; facts = facts₀ } → Kept terms₀ facts₀ (checked d bytes terms₀ facts₀)
    same e =
        subst (λ (c : Checked). Kept terms₀ facts₀ c) (sym e)
        (record { terms_beyond = refl; facts_beyond = refl; terms_length = refl; facts_length = refl })

    go : Course d bytes terms₀ facts₀ → Kept terms₀ facts₀ (checked d bytes terms₀ facts₀)
    go (short h e) = same e
    go (shallow h a e) = same e
    go (faulty n p i j h a r e) = same e
    go (judged b i h a r e) = subst (λ (c : Checked). Kept terms₀ facts₀ c) (sym e) (left_kept d b (read_well_formed bytes b i r) terms₀ facts₀ h (verdict d b) refl)

-- tables without a number above 65,535, or any bound from 60,003 on, are left so
pub checked_bounded : (d : ℕ) (bytes terms₀ facts₀ : List ℕ) (w : ℕ) → 60003 ≤ w → Bounded w terms₀ facts₀
    → Bounded w (checked d bytes terms₀ facts₀).terms (checked d bytes terms₀ facts₀).facts
checked_bounded d bytes terms₀ facts₀ w l k = go (course d bytes terms₀ facts₀)
  where
    same : {v : Verdict} → checked d bytes terms₀ facts₀ ≡ record { verdict = v; terms = terms₀; facts = facts₀ }
        → Bounded w (checked d bytes terms₀ facts₀).terms (checked d bytes terms₀ facts₀).facts
    same e = subst (λ (c : Checked). Bounded w c.terms c.facts) (sym e) k

    go : Course d bytes terms₀ facts₀ → Bounded w (checked d bytes terms₀ facts₀).terms (checked d bytes terms₀ facts₀).facts
    go (short h e) = same e
    go (shallow h a e) = same e
    go (faulty n p i j h a r e) = same e
    go (judged b i h a r e) =
        subst (λ (c : Checked). Bounded w c.terms c.facts) (sym e) (left_bounded d b (read_well_formed bytes b i r) terms₀ facts₀ w l k (verdict d b) refl)

-- two runs on one rule set leave the same in the front parts, whatever the tables held
pub record SameFronts (c d : Checked) : Type 0 where
  pub verdict : c.verdict ≡ d.verdict
  pub terms : take terms_front c.terms ≡ take terms_front d.terms
  pub facts : take facts_front c.facts ≡ take facts_front d.facts

left_same : (d : ℕ) (b : RuleSet) (v : Verdict) (terms₀ facts₀ terms₁ facts₁ : List ℕ) → SameFronts (left d b v terms₀ facts₀) (left d b v terms₁ facts₁)
unfolding left recorded
left_same d b (accepted n f t) terms₀ facts₀ terms₁ facts₁ =
    record { verdict = refl; terms = fronts_same terms_front _ terms₀ terms₁; facts = fronts_same facts_front _ facts₀ facts₁ }
left_same d b (cyclic_at n f t) terms₀ facts₀ terms₁ facts₁ =
    record { verdict = refl; terms = fronts_same terms_front _ terms₀ terms₁; facts = fronts_same facts_front _ facts₀ facts₁ }
left_same d b (refused n p) terms₀ facts₀ terms₁ facts₁ =
    record { verdict = refl; terms = fronts_same terms_front [] terms₀ terms₁; facts = fronts_same facts_front [] facts₀ facts₁ }

pub checked_same : (d : ℕ) (bytes terms₀ facts₀ terms₁ facts₁ : List ℕ) (b : RuleSet) (i : ℕ) → Depth d → read bytes ≡ good b i → Fronts terms₀ facts₀ → Fronts terms₁ facts₁
    → SameFronts (checked d bytes terms₀ facts₀) (checked d bytes terms₁ facts₁)
checked_same d bytes terms₀ facts₀ terms₁ facts₁ b i a r h k =
    subst (λ (c : Checked). SameFronts c (checked d bytes terms₁ facts₁)) (sym (checked_good d bytes terms₀ facts₀ b i h a r))
    (subst (SameFronts (left d b (verdict d b) terms₀ facts₀)) (sym (checked_good d bytes terms₁ facts₁ b i k a r)) (left_same d b (verdict d b) terms₀ facts₀ terms₁ facts₁))

-- accepted at one depth: the answer and both tables are the same at each greater one (document 02, C-14)
left_accepted : (d e : ℕ) (b : RuleSet) (n f t : ℕ) (terms₀ facts₀ : List ℕ) → left d b (accepted n f t) terms₀ facts₀ ≡ left e b (accepted n f t) terms₀ facts₀
unfolding left
left_accepted d e b n f t terms₀ facts₀ = refl

pub checked_deeper : (d e : ℕ) → d ≤ e → Depth e → (bytes terms₀ facts₀ : List ℕ) (b : RuleSet) (i n f t : ℕ) → read bytes ≡ good b i
    → (checked d bytes terms₀ facts₀).verdict ≡ accepted n f t → checked e bytes terms₀ facts₀ ≡ checked d bytes terms₀ facts₀
checked_deeper d e h k bytes terms₀ facts₀ b i n f t r a =
    let j = accepted_judged d bytes terms₀ facts₀ b i n f t r a in
    checked_good e bytes terms₀ facts₀ b i j.fronts k r
    ∙ ap (λ (v : Verdict). left e b v terms₀ facts₀) (accepted_deeper d e h b (read_well_formed bytes b i r) j.verdict)
    ∙ left_accepted e d b n f t terms₀ facts₀
    ∙ sym j.tables

-- The contract of `check` gives demands 1, 2 and 3, and these say no less than the contract. Assumes nothing.
use mathlib.Core.Path.{◌≡◌, refl, sym, ap, ◌∙◌, subst}
use mathlib.Core.Logic.{◌⊎◌, inl, inr}
use mathlib.Core.List.{List, [], ◌∷◌, ◌++◌}
use Prim.Native.Nat.{ℕ, suc, ◌-◌, ◌≤◌}
use native.Mathlib.Omega.{arith}
use lib.ListN.{take}
use Rattle.model.specs.Lists.{collect}
use Rattle.model.specs.Term.{Term, star}
use Rattle.model.specs.Rules.{RuleSet, entries}
use Rattle.model.specs.Format.{good, read}
use Rattle.model.specs.Stages as stages
use Rattle.model.specs.Stages.{Stage, stage, accepted, cyclic_at, refused, verdict, cyclic_terms}
use Rattle.model.specs.Limits.{terms_front, facts_front}
use Rattle.model.specs.Tables.{Checked, checked, left, recorded, fronted, term_row, fact_row}
use Rattle.model.specs.Spelled.{term_at}
use Rattle.model.specs.Demand.{Demand3}
use Rattle.laws.specs.Lists.{Distinct}
use Rattle.laws_format.proofs.Bytes.{read_well_formed}
use Rattle.laws_stages.specs.Says.{Cause, large, many, facts, terms, Refused, Crowded, Says}
use Rattle.laws_stages.proofs.Growth.{facts_distinct, terms_distinct}
use Rattle.laws_stages.proofs.Listed.{shown_first}
use Rattle.laws_stages.proofs.Verdict.{verdict_says, says_verdict, cyclic_at_says}
use Rattle.laws_published.proofs.Dmfa.{accepted_is_dmfa, accepted_is_acyclic, cyclic_is_reached}
use Rattle.laws_tables.specs.Lent.{Fronts, Depth, Early, Late}
use Rattle.laws_tables.proofs.Courses.{Course, short, shallow, faulty, judged, course, checked_short, checked_shallow, checked_bad, checked_good, checked_verdict, left_refused, refused_short, refused_shallow, refused_faulty, refused_numbered, checked_parsed, refused_untouched, refused_zeroed}
use Rattle.laws_tables.proofs.Spelled.{Spells}
use Rattle.laws_tables.proofs.Checked.{checked_accepted_spelled, checked_cyclic_spelled, checked_cyclic_shown, checked_kept, checked_same, checked_deeper}
use Rattle.laws_demand.proofs.OfCheck.{demand_3_of_check}
use Rattle.judging.specs.Verdict.{meant}
use Rattle.judging.specs.declared.verdict.Verdict.{Verdict}
use Rattle.dmfa.specs.Promises.{Checks, listed_terms, listed, shown, Demand1, HoldsStage, Shown, Demand2, Promised}

-- what `left` puts into the tables

left_accepted : (d : ℕ) (b : RuleSet) (n f t : ℕ) (terms₀ facts₀ : List ℕ) → left d b (accepted n f t) terms₀ facts₀ ≡ recorded (accepted n f t) (stage b n) [] terms₀ facts₀
unfolding left
left_accepted d b n f t terms₀ facts₀ = refl

before : (n : ℕ) → suc n - 1 ≡ n
before n = omega arith

left_cyclic : (d : ℕ) (b : RuleSet) (n f t : ℕ) (u : Term) → take 1 (cyclic_terms d (entries b) (stage b n)) ≡ u ∷ [] → (terms₀ facts₀ : List ℕ)
    → left d b (cyclic_at (suc n) f t) terms₀ facts₀ ≡ recorded (cyclic_at (suc n) f t) (stage b n) (u ∷ []) terms₀ facts₀
unfolding left
left_cyclic d b n f t u e terms₀ facts₀ =
    ap (λ (k : ℕ). recorded (cyclic_at (suc n) f t) (stage b k) (take 1 (cyclic_terms d (entries b) (stage b k))) terms₀ facts₀) (before n)
    ∙ ap (λ (us : List Term). recorded (cyclic_at (suc n) f t) (stage b n) us terms₀ facts₀) e

recorded_is : (v : stages.Verdict) (s : Stage) (us : List Term) (terms₀ facts₀ : List ℕ)
    → recorded v s us terms₀ facts₀
    ≡ record { verdict = v; terms = fronted terms_front (collect (term_row s.terms) (s.terms ++ us)) terms₀; facts = fronted facts_front (collect (fact_row s.terms) s.facts) facts₀ }
unfolding recorded
recorded_is v s us terms₀ facts₀ = refl

module _ (d : ℕ) (bytes terms₀ facts₀ : List ℕ) (r : Verdict) (ts fs : List ℕ) (g : Checks d bytes terms₀ facts₀ r ts fs) where
  verdict_is : (checked d bytes terms₀ facts₀).verdict ≡ meant r
  verdict_is = ap (λ (c : Checked). c.verdict) g

  terms_are : (checked d bytes terms₀ facts₀).terms ≡ ts
  terms_are = ap (λ (c : Checked). c.terms) g

  facts_are : (checked d bytes terms₀ facts₀).facts ≡ fs
  facts_are = ap (λ (c : Checked). c.facts) g

  answered : {v : stages.Verdict} {us gs : List ℕ} → checked d bytes terms₀ facts₀ ≡ record { verdict = v; terms = us; facts = gs } → meant r ≡ v
  answered e = sym verdict_is ∙ ap (λ (c : Checked). c.verdict) e

  gives_1 : Demand1 d bytes terms₀ facts₀ r ts fs
  gives_1 =
      let k = checked_kept d bytes terms₀ facts₀ in
      record {
        short = λ p. (
          λ e. refused_short d bytes terms₀ facts₀ p (verdict_is ∙ e),
          λ (z, h). answered (checked_short d bytes terms₀ facts₀ h) ∙ ap (refused 1) (sym z),
        );
        faulty = λ n p l u.
            (λ e. refused_faulty d bytes terms₀ facts₀ n p l u (verdict_is ∙ e), λ (h, a, q). answered (checked_bad d bytes terms₀ facts₀ n p h a q));
        shallow = λ p. (
          λ e. refused_shallow d bytes terms₀ facts₀ p (verdict_is ∙ e),
          λ (z, h, a). answered (checked_shallow d bytes terms₀ facts₀ h a) ∙ ap (refused 18) (sym z),
        );
        numbered = λ n p e. refused_numbered d bytes terms₀ facts₀ n p (verdict_is ∙ e);
        untouched = λ n p e h.
            let u = refused_untouched d bytes terms₀ facts₀ n p (verdict_is ∙ e) h in
            (sym terms_are ∙ u.terms, sym facts_are ∙ u.facts);
        zeroed = λ n p e h.
            let u = refused_zeroed d bytes terms₀ facts₀ n p (verdict_is ∙ e) h in
            (sym terms_are ∙ u.terms, sym facts_are ∙ u.facts);
        beyond = (rw (sym terms_are) k.terms_beyond, rw (sym facts_are) k.facts_beyond);
        lengths = (rw (sym terms_are) k.terms_length, rw (sym facts_are) k.facts_length);
      }

  module _ (b : RuleSet) (i : ℕ) (h : Fronts terms₀ facts₀) (q : Depth d) (e : read bytes ≡ good b i) where
    judges : verdict d b ≡ meant r
    judges = sym (checked_verdict d bytes terms₀ facts₀ b i h q e) ∙ verdict_is

    leaves : {v : stages.Verdict} → meant r ≡ v → checked d bytes terms₀ facts₀ ≡ left d b v terms₀ facts₀
    leaves w = checked_good d bytes terms₀ facts₀ b i h q e ∙ ap (λ (x : stages.Verdict). left d b x terms₀ facts₀) (judges ∙ w)

    -- a stage that the tables were left with
    holds : (v : stages.Verdict) (n f t : ℕ) (us : List Term) → checked d bytes terms₀ facts₀ ≡ recorded v (stage b n) us terms₀ facts₀
        → Spells b.arities (stage b n) f t (checked d bytes terms₀ facts₀) → HoldsStage b (stage b n) us f t terms₀ facts₀ ts fs
    holds v n f t us l s =
        let p = l ∙ recorded_is v (stage b n) us terms₀ facts₀ in
        let a : listed_terms t ts ≡ (stage b n).terms = rw (sym terms_are) s.terms in
        let c : listed b f t ts fs ≡ (stage b n).facts = rw (sym terms_are, sym facts_are) s.facts in
        record {
          term_records_is = sym terms_are ∙ ap (λ (x : Checked). x.terms) p;
          fact_records_is = sym facts_are ∙ ap (λ (x : Checked). x.facts) p;
          terms_spelled = a;
          facts_spelled = c;
          terms_once = subst Distinct (sym a) (terms_distinct b n);
          facts_once_is = subst Distinct (sym c) (facts_distinct b n);
        }

    holds_accepted : (n f t : ℕ) → meant r ≡ accepted n f t → HoldsStage b (stage b n) [] f t terms₀ facts₀ ts fs
    holds_accepted n f t w =
        holds (accepted n f t) n f t [] (leaves w ∙ left_accepted d b n f t terms₀ facts₀)
        (checked_accepted_spelled d bytes terms₀ facts₀ b i n f t e (verdict_is ∙ w))

    -- the term behind the stage's own is the first cyclic one
    first_output : (n f t : ℕ) → meant r ≡ cyclic_at (suc n) f t → take 1 (cyclic_terms d (entries b) (stage b n)) ≡ shown t ts ∷ []
    first_output n f t w =
        ap (λ (k : ℕ). take 1 (cyclic_terms d (entries b) (stage b k))) (sym (before n))
        ∙ checked_cyclic_shown d bytes terms₀ facts₀ b i (suc n) f t e (verdict_is ∙ w)
        ∙ ap (λ (x : List ℕ). term_at (λ j. star) (suc t) x t ∷ []) terms_are

    holds_cyclic : (n f t : ℕ) → meant r ≡ cyclic_at (suc n) f t → HoldsStage b (stage b n) (shown t ts ∷ []) f t terms₀ facts₀ ts fs
    holds_cyclic n f t w =
        holds (cyclic_at (suc n) f t) n f t (shown t ts ∷ []) (leaves w ∙ left_cyclic d b n f t (shown t ts) (first_output n f t w) terms₀ facts₀)
        (subst (λ (k : ℕ). Spells b.arities (stage b k) f t (checked d bytes terms₀ facts₀)) (before n)
        (checked_cyclic_spelled d bytes terms₀ facts₀ b i (suc n) f t e (verdict_is ∙ w)))

    gives_shown : (n f t : ℕ) → meant r ≡ cyclic_at (suc n) f t → Shown d b n (shown t ts)
    gives_shown n f t w =
        let v : verdict d b ≡ cyclic_at (suc n) f t = judges ∙ w in
        let wf = read_well_formed bytes b i e in
        let l = cyclic_at_says d b wf v in
        let x = cyclic_is_reached d b wf v in
        let k : l.last ≡ n = (let next = l.next in omega arith) in
        let same : l.shown ∷ [] ≡ shown t ts ∷ [] = sym (ap (take 1) (ap (λ (j : ℕ). cyclic_terms d (entries b) (stage b j)) (sym k) ∙ l.found)) ∙ first_output n f t w in
        let c : l.shown ≡ shown t ts = cc in
        subst (Shown d b n) c
        (record {
          loops = x.loops;
          fact = x.fact;
          known = x.known;
          reached = x.within x.fact x.known;
          argument = x.argument;
          first = sym (shown_first d b n (x.first n (omega arith))) ∙ first_output n f t w ∙ sym same;
          earlier = λ j m. x.first j (omega arith);
        })

    gives_2 : Demand2 d b terms₀ facts₀ r ts fs
    gives_2 =
        let wf = read_well_formed bytes b i e in
        record {
          says = subst (λ (v : stages.Verdict). Says d b v) judges (verdict_says d b wf);
          saturated = holds_accepted;
          least = λ n f t w f'. rw (holds_accepted n f t w).facts_spelled (accepted_is_dmfa d b wf (judges ∙ w) f');
          acyclic = λ n f t w. accepted_is_acyclic d b wf (judges ∙ w);
          last = holds_cyclic;
          shows = gives_shown;
        }

  gives_3 : (b : RuleSet) (i n f t : ℕ) → read bytes ≡ good b i → meant r ≡ accepted n f t → Demand3 d b (listed b f t ts fs)
  gives_3 b i n f t e w = rw (sym terms_are, sym facts_are) (demand_3_of_check d bytes terms₀ facts₀ b i n f t e (verdict_is ∙ w))

-- whatever `check` is given, its answer and tables keep the three demands
pub promised : (d : ℕ) (bytes terms₀ facts₀ : List ℕ) (r : Verdict) (ts fs : List ℕ) → Checks d bytes terms₀ facts₀ r ts fs → Promised d bytes terms₀ facts₀ r ts fs
promised d bytes terms₀ facts₀ r ts fs g =
    record {
      demand1 = gives_1 d bytes terms₀ facts₀ r ts fs g;
      parsed = λ other. checked_parsed d bytes terms₀ facts₀ (λ n p l v. other n p l (sym (verdict_is d bytes terms₀ facts₀ r ts fs g) ∙ v));
      demand2 = λ b i h q e. gives_2 d bytes terms₀ facts₀ r ts fs g b i h q e;
      demand3 = λ b i n f t e w. gives_3 d bytes terms₀ facts₀ r ts fs g b i n f t e w;
    }

-- the other way: an answer and tables that keep demands 1 and 2 are those of the contract

cause_late : {d : ℕ} {b : RuleSet} {k n : ℕ} → Cause d b k n → Late n
cause_late (large h) = (omega arith, omega arith)
cause_late (many h i) = (omega arith, omega arith)
cause_late (facts h i j l) = (omega arith, omega arith)
cause_late (terms h i j l m) = (omega arith, omega arith)

refused_late : {d : ℕ} {b : RuleSet} {n q : ℕ} → Refused d b n q ⊎ Crowded b n q → Late n
refused_late (inl r) = cause_late r.cause
refused_late (inr c) = let e = c.number in (omega arith, omega arith)

module _ (d : ℕ) (bytes terms₀ facts₀ : List ℕ) (r : Verdict) (ts fs : List ℕ) (p : Promised d bytes terms₀ facts₀ r ts fs) where
  abbrev gave : Checked
  gave = record { verdict = meant r; terms = ts; facts = fs }

  equal : {v : stages.Verdict} {us gs : List ℕ} → meant r ≡ v → ts ≡ us → fs ≡ gs → record { verdict = v; terms = us; facts = gs } ≡ gave
  equal a b c = sym (λ k. record { verdict = a k; terms = b k; facts = c k })

  unchanged : (n q : ℕ) → Early n → meant r ≡ refused n q → record { verdict = refused n q; terms = terms₀; facts = facts₀ } ≡ gave
  unchanged n q l e = let (a, b) = p.demand1.untouched n q e l in equal e a b

  module _ (b : RuleSet) (given : Demand2 d b terms₀ facts₀ r ts fs) where
    left_gave : (v : stages.Verdict) → meant r ≡ v → Says d b v → left d b v terms₀ facts₀ ≡ gave
    left_gave (accepted n f t) w s =
        let h = given.saturated n f t w in
        left_accepted d b n f t terms₀ facts₀ ∙ recorded_is (accepted n f t) (stage b n) [] terms₀ facts₀ ∙ equal w h.term_records_is h.fact_records_is
    left_gave (cyclic_at n f t) w s =
        let m = s.last in
        let w' : meant r ≡ cyclic_at (suc m) f t = w ∙ ap (λ (j : ℕ). cyclic_at j f t) s.next in
        let h = given.last m f t w' in
        let v = given.shows m f t w' in
        ap (λ (j : ℕ). left d b (cyclic_at j f t) terms₀ facts₀) s.next
        ∙ left_cyclic d b m f t (shown t ts) (shown_first d b m (v.earlier m (omega arith)) ∙ v.first) terms₀ facts₀
        ∙ recorded_is (cyclic_at (suc m) f t) (stage b m) (shown t ts ∷ []) terms₀ facts₀
        ∙ equal w' h.term_records_is h.fact_records_is
    left_gave (refused n q) w s =
        let (x, y) = p.demand1.zeroed n q w (refused_late s) in
        left_refused d b n q terms₀ facts₀ ∙ equal w x y

  -- so nothing of the contract is lost
  pub promised_whole : Checks d bytes terms₀ facts₀ r ts fs
  promised_whole = go (course d bytes terms₀ facts₀)
    where
      go : Course d bytes terms₀ facts₀ → Checks d bytes terms₀ facts₀ r ts fs
      go (short h e) = e ∙ unchanged 1 0 (inl (omega arith, omega arith)) ((p.demand1.short 0).1 (refl, h))
      go (shallow h a e) = e ∙ unchanged 18 0 (inr refl) ((p.demand1.shallow 0).1 (refl, h, a))
      go (faulty n q l u h a k e) = e ∙ unchanged n q (inl (omega arith, u)) ((p.demand1.faulty n q l u).1 (h, a, k))
      go (judged b i h a k e) =
          let given = p.demand2 b i h a k in
          e
          ∙ ap (λ (v : stages.Verdict). left d b v terms₀ facts₀) (says_verdict d b (read_well_formed bytes b i k) (meant r) given.says)
          ∙ left_gave b given (meant r) refl given.says

-- two runs on one rule set give the same answer and leave the same front parts, whatever the tables held (document 02, C-11)
pub runs_agree : (d : ℕ) (bytes terms₀ facts₀ : List ℕ) (r : Verdict) (ts fs : List ℕ) → Checks d bytes terms₀ facts₀ r ts fs
    → (terms₁ facts₁ : List ℕ) (r' : Verdict) (us gs : List ℕ) → Checks d bytes terms₁ facts₁ r' us gs
    → Fronts terms₀ facts₀ → Fronts terms₁ facts₁ → Depth d → (b : RuleSet) (i : ℕ) → read bytes ≡ good b i
    → (meant r ≡ meant r') × (take terms_front ts ≡ take terms_front us) × (take facts_front fs ≡ take facts_front gs)
runs_agree d bytes terms₀ facts₀ r ts fs g terms₁ facts₁ r' us gs g' h k a b i e =
    let s = checked_same d bytes terms₀ facts₀ terms₁ facts₁ b i a e h k in (
      sym (verdict_is d bytes terms₀ facts₀ r ts fs g) ∙ s.verdict ∙ verdict_is d bytes terms₁ facts₁ r' us gs g',
      ap (take terms_front) (sym (terms_are d bytes terms₀ facts₀ r ts fs g)) ∙ s.terms ∙ ap (take terms_front) (terms_are d bytes terms₁ facts₁ r' us gs g'),
      ap (take facts_front) (sym (facts_are d bytes terms₀ facts₀ r ts fs g)) ∙ s.facts ∙ ap (take facts_front) (facts_are d bytes terms₁ facts₁ r' us gs g'),
    )

-- accepted at one depth: at each greater one the same answer and the same tables, byte for byte (document 02, C-14)
pub deeper_agrees : (d e : ℕ) → d ≤ e → Depth e → (bytes terms₀ facts₀ : List ℕ) (r : Verdict) (ts fs : List ℕ) → Checks d bytes terms₀ facts₀ r ts fs
    → (r' : Verdict) (us gs : List ℕ) → Checks e bytes terms₀ facts₀ r' us gs → (b : RuleSet) (i n f t : ℕ) → read bytes ≡ good b i → meant r ≡ accepted n f t
    → (meant r' ≡ accepted n f t) × (us ≡ ts) × (gs ≡ fs)
deeper_agrees d e h k bytes terms₀ facts₀ r ts fs g r' us gs g' b i n f t q w =
    let s = sym g' ∙ checked_deeper d e h k bytes terms₀ facts₀ b i n f t q (ap (λ (c : Checked). c.verdict) g ∙ w) ∙ g in
    (ap (λ (c : Checked). c.verdict) s ∙ w, ap (λ (c : Checked). c.terms) s, ap (λ (c : Checked). c.facts) s)

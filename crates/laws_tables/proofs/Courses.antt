-- The courses that `checked` can take, and what each refusal leaves in the tables: 1 to 10 and 18 all as it was, 11 to 14 zeros in both fronts.
-- Assumes nothing.
use mathlib.Core.Path.{◌≡◌, refl, sym, ap, ap₂, ◌∙◌, subst}
use mathlib.Core.Bool.{Bool, true, false, ◌&&◌}
use mathlib.Core.Logic.{◌⊎◌, inl, inr}
use mathlib.Core.List.{List, []}
use Prim.Native.Nat.{ℕ, ◌≤◌, ◌<◌}
use native.Mathlib.Omega.{arith}
use native.Mathlib.Decide.{dec_lt}
use lib.Dec.{leb}
use lib.ListN.{length}
use borrow.Author.Tests.{leb-true, le-leb}
use Rattle.model.specs.Rules.{RuleSet}
use Rattle.model.specs.Format.{Parsed, good, bad, read}
use Rattle.model.specs.Stages.{Verdict, accepted, cyclic_at, refused, verdict}
use Rattle.model.specs.Limits.{terms_front, facts_front, depth_limit}
use Rattle.model.specs.Tables.{Checked, is_depth, checked, left, recorded, fronted}
use Rattle.laws.proofs.Bools.{and_true, true_and, is_false}
use Rattle.laws_tables.specs.Lent.{Fronts, Short, Depth, Early, Late}
use Rattle.laws_tables.proofs.Refusals.{Faulty, read_faulty, Excessive, verdict_excessive}

-- both fronts are there
abbrev long_enough : List ℕ → List ℕ → Bool
long_enough terms₀ facts₀ = leb terms_front (length terms₀) && leb facts_front (length facts₀)

abbrev answer : ℕ → List ℕ → List ℕ → Bool → Bool → Parsed RuleSet → Checked
answer d terms₀ facts₀ false deep r = record { verdict = refused 1 0; terms = terms₀; facts = facts₀ }
answer d terms₀ facts₀ true false r = record { verdict = refused 18 0; terms = terms₀; facts = facts₀ }
answer d terms₀ facts₀ true true (bad n p) = record { verdict = refused n p; terms = terms₀; facts = facts₀ }
answer d terms₀ facts₀ true true (good b i) = left d b (verdict d b) terms₀ facts₀

checked_answer : (d : ℕ) (bytes terms₀ facts₀ : List ℕ)
    → checked d bytes terms₀ facts₀ ≡ answer d terms₀ facts₀ (long_enough terms₀ facts₀) (is_depth d) (read bytes)
unfolding checked
checked_answer d bytes terms₀ facts₀ = go (long_enough terms₀ facts₀) (is_depth d) (read bytes)
  where
    go : (b deep : Bool) (r : Parsed RuleSet) → ◌≡◌ {A = Checked}
        (elim b [
          | false ↦ record { verdict = refused 1 0; terms = terms₀; facts = facts₀ }
          | true ↦
              elim deep [
                | false ↦ record { verdict = refused 18 0; terms = terms₀; facts = facts₀ }
                | true ↦
                    elim r [
                      | bad n p ↦ record { verdict = refused n p; terms = terms₀; facts = facts₀ }
                      | good b i ↦ left d b (verdict d b) terms₀ facts₀
                    ]
              ]
        ]) (answer d terms₀ facts₀ b deep r)
    go false deep r = refl
    go true false r = refl
    go true true (bad n p) = refl
    go true true (good b i) = refl

long : {terms₀ facts₀ : List ℕ} → Fronts terms₀ facts₀ → long_enough terms₀ facts₀ ≡ true
long {terms₀} {facts₀} h =
    true_and (leb terms_front (length terms₀)) (leb facts_front (length facts₀)) (le-leb terms_front (length terms₀) h.terms)
    (le-leb facts_front (length facts₀) h.facts)

pub is_depth_lem : (d : ℕ) → Depth d → is_depth d ≡ true
unfolding is_depth
is_depth_lem d h = true_and (leb 1 d) (leb d depth_limit) (le-leb 1 d h.0) (le-leb d depth_limit h.1)

pub not_depth : (d : ℕ) → (Depth d → ⊥) → is_depth d ≡ false
unfolding is_depth
not_depth d h =
    is_false (leb 1 d && leb d depth_limit)
    (λ e. let (a, b) = and_true (leb 1 d) (leb d depth_limit) e in h (leb-true 1 d a, leb-true d depth_limit b))

-- refusal 1: a list shorter than its front
pub checked_short : (d : ℕ) (bytes terms₀ facts₀ : List ℕ) → Short terms₀ facts₀
    → checked d bytes terms₀ facts₀ ≡ record { verdict = refused 1 0; terms = terms₀; facts = facts₀ }
checked_short d bytes terms₀ facts₀ h =
    checked_answer d bytes terms₀ facts₀ ∙ ap (λ (t : Bool). answer d terms₀ facts₀ t (is_depth d) (read bytes)) (is_false (long_enough terms₀ facts₀) (lacking h))
  where
    lacking : Short terms₀ facts₀ → long_enough terms₀ facts₀ ≡ true → ⊥
    lacking (inl l) e = let k = leb-true terms_front (length terms₀) (and_true (leb terms_front (length terms₀)) (leb facts_front (length facts₀)) e).0 in omega arith
    lacking (inr l) e = let k = leb-true facts_front (length facts₀) (and_true (leb terms_front (length terms₀)) (leb facts_front (length facts₀)) e).1 in omega arith

-- refusal 18: no depth
pub checked_shallow : (d : ℕ) (bytes terms₀ facts₀ : List ℕ) → Fronts terms₀ facts₀ → (Depth d → ⊥)
    → checked d bytes terms₀ facts₀ ≡ record { verdict = refused 18 0; terms = terms₀; facts = facts₀ }
checked_shallow d bytes terms₀ facts₀ h k =
    checked_answer d bytes terms₀ facts₀ ∙ ap₂ (λ (t u : Bool). answer d terms₀ facts₀ t u (read bytes)) (long h) (not_depth d k)

-- the answer goes by what reading the bytes gives
checked_read : (d : ℕ) (bytes terms₀ facts₀ : List ℕ) (r : Parsed RuleSet) → Fronts terms₀ facts₀ → Depth d → read bytes ≡ r
    → checked d bytes terms₀ facts₀ ≡ answer d terms₀ facts₀ true true r
checked_read d bytes terms₀ facts₀ r h k e =
    checked_answer d bytes terms₀ facts₀
    ∙ ap₂ (λ (t u : Bool). answer d terms₀ facts₀ t u (read bytes)) (long h) (is_depth_lem d k)
    ∙ ap (answer d terms₀ facts₀ true true) e

pub checked_bad : (d : ℕ) (bytes terms₀ facts₀ : List ℕ) (n p : ℕ) → Fronts terms₀ facts₀ → Depth d → read bytes ≡ bad n p
    → checked d bytes terms₀ facts₀ ≡ record { verdict = refused n p; terms = terms₀; facts = facts₀ }
checked_bad d bytes terms₀ facts₀ n p = checked_read d bytes terms₀ facts₀ (bad n p)

pub checked_good : (d : ℕ) (bytes terms₀ facts₀ : List ℕ) (b : RuleSet) (i : ℕ) → Fronts terms₀ facts₀ → Depth d → read bytes ≡ good b i
    → checked d bytes terms₀ facts₀ ≡ left d b (verdict d b) terms₀ facts₀
checked_good d bytes terms₀ facts₀ b i = checked_read d bytes terms₀ facts₀ (good b i)

-- the tables have their front parts, or one is shorter
pub long_or_short : (terms₀ facts₀ : List ℕ) → Fronts terms₀ facts₀ ⊎ Short terms₀ facts₀
long_or_short terms₀ facts₀ = go (dec_lt (length terms₀) terms_front) (dec_lt (length facts₀) facts_front)
  where
    go : Dec (length terms₀ < terms_front) → Dec (length facts₀ < facts_front) → Fronts terms₀ facts₀ ⊎ Short terms₀ facts₀
    go (yes h) k = inr (inl h)
    go (no h) (yes k) = inr (inr k)
    go (no h) (no k) = inl (record { terms = omega arith; facts = omega arith })

-- and not both
pub fronts_not_short : {terms₀ facts₀ : List ℕ} → Fronts terms₀ facts₀ → Short terms₀ facts₀ → ⊥
fronts_not_short h (inl k) = let l = h.terms in omega arith
fronts_not_short h (inr k) = let l = h.facts in omega arith

pub depth_or_not : (d : ℕ) → Depth d ⊎ (Depth d → ⊥)
depth_or_not d = go (dec_lt d 1) (dec_lt depth_limit d)
  where
    go : Dec (d < 1) → Dec (depth_limit < d) → Depth d ⊎ (Depth d → ⊥)
    go (yes h) k = inr (λ l. omega (arith, l.0))
    go (no h) (yes k) = inr (λ l. omega (arith, l.1))
    go (no h) (no k) = inl (omega arith, omega arith)

-- document 01's order with document 02's refusal 18 in it: 1, 18, a fault of the bytes, the verdict
pub data Course (d : ℕ) (bytes terms₀ facts₀ : List ℕ) : Type 0 where
  short : Short terms₀ facts₀ → checked d bytes terms₀ facts₀ ≡ record { verdict = refused 1 0; terms = terms₀; facts = facts₀ } → Course d bytes terms₀ facts₀
  shallow : Fronts terms₀ facts₀ → (Depth d → ⊥) → checked d bytes terms₀ facts₀ ≡ record { verdict = refused 18 0; terms = terms₀; facts = facts₀ }
      → Course d bytes terms₀ facts₀
  faulty : (n p : ℕ) → 2 ≤ n → n ≤ 10 → Fronts terms₀ facts₀ → Depth d → read bytes ≡ bad n p
      → checked d bytes terms₀ facts₀ ≡ record { verdict = refused n p; terms = terms₀; facts = facts₀ } → Course d bytes terms₀ facts₀
  judged : (b : RuleSet) (i : ℕ) → Fronts terms₀ facts₀ → Depth d → read bytes ≡ good b i
      → checked d bytes terms₀ facts₀ ≡ left d b (verdict d b) terms₀ facts₀ → Course d bytes terms₀ facts₀

pub course : (d : ℕ) (bytes terms₀ facts₀ : List ℕ) → Course d bytes terms₀ facts₀
course d bytes terms₀ facts₀ = go (long_or_short terms₀ facts₀) (depth_or_not d)
  where
    parsed : Fronts terms₀ facts₀ → Depth d → (r : Parsed RuleSet) → read bytes ≡ r → Faulty r → Course d bytes terms₀ facts₀
    parsed h l (bad n p) e k = faulty n p k.0 k.1 h l e (checked_bad d bytes terms₀ facts₀ n p h l e)
    parsed h l (good b i) e k = judged b i h l e (checked_good d bytes terms₀ facts₀ b i h l e)

    go : Fronts terms₀ facts₀ ⊎ Short terms₀ facts₀ → Depth d ⊎ (Depth d → ⊥) → Course d bytes terms₀ facts₀
    go (inl h) (inl l) = parsed h l (read bytes) refl (read_faulty bytes)
    go (inl h) (inr l) = shallow h l (checked_shallow d bytes terms₀ facts₀ h l)
    go (inr h) l = short h (checked_short d bytes terms₀ facts₀ h)

pub left_verdict : (d : ℕ) (b : RuleSet) (v : Verdict) (terms₀ facts₀ : List ℕ) → (left d b v terms₀ facts₀).verdict ≡ v
unfolding left recorded
left_verdict d b (accepted n f t) terms₀ facts₀ = refl
left_verdict d b (cyclic_at n f t) terms₀ facts₀ = refl
left_verdict d b (refused n p) terms₀ facts₀ = refl

-- the verdict of a rule set that was read is the answer
pub checked_verdict : (d : ℕ) (bytes terms₀ facts₀ : List ℕ) (b : RuleSet) (i : ℕ) → Fronts terms₀ facts₀ → Depth d → read bytes ≡ good b i
    → (checked d bytes terms₀ facts₀).verdict ≡ verdict d b
checked_verdict d bytes terms₀ facts₀ b i h l e =
    ap (λ (c : Checked). c.verdict) (checked_good d bytes terms₀ facts₀ b i h l e) ∙ left_verdict d b (verdict d b) terms₀ facts₀

-- which refusal has which cause

refused_number : {n p m q : ℕ} → refused n p ≡ refused m q → n ≡ m
refused_number e = cc

refused_place : {n p m q : ℕ} → refused n p ≡ refused m q → p ≡ q
refused_place e = cc

module _ (d : ℕ) (bytes terms₀ facts₀ : List ℕ) where
  verdict_of : {v : Verdict} {ts fs : List ℕ} → checked d bytes terms₀ facts₀ ≡ record { verdict = v; terms = ts; facts = fs }
      → (checked d bytes terms₀ facts₀).verdict ≡ v
  verdict_of e = ap (λ (c : Checked). c.verdict) e

  judged_excessive : {n p : ℕ} (b : RuleSet) (i : ℕ) → Fronts terms₀ facts₀ → Depth d → read bytes ≡ good b i
      → (checked d bytes terms₀ facts₀).verdict ≡ refused n p → (11 ≤ n) × (n ≤ 14)
  judged_excessive b i h l r v = subst Excessive (sym (checked_verdict d bytes terms₀ facts₀ b i h l r) ∙ v) (verdict_excessive d b)

  pub refused_short : (p : ℕ) → (checked d bytes terms₀ facts₀).verdict ≡ refused 1 p → (p ≡ 0) × Short terms₀ facts₀
  refused_short p v = go (course d bytes terms₀ facts₀)
    where
      go : Course d bytes terms₀ facts₀ → (p ≡ 0) × Short terms₀ facts₀
      go (short h e) = (refused_place (sym v ∙ verdict_of e), h)
      go (shallow h l e) = let i : ◌≡◌ {A = ℕ} 1 18 = refused_number (sym v ∙ verdict_of e) in absurd (omega arith)
      go (faulty m q j k h l r e) = let i : 1 ≡ m = refused_number (sym v ∙ verdict_of e) in absurd (omega arith)
      go (judged b i h l r e) = let (x, y) = judged_excessive b i h l r v in absurd (omega arith)

  pub refused_shallow : (p : ℕ) → (checked d bytes terms₀ facts₀).verdict ≡ refused 18 p → (p ≡ 0) × Fronts terms₀ facts₀ × (Depth d → ⊥)
  refused_shallow p v = go (course d bytes terms₀ facts₀)
    where
      go : Course d bytes terms₀ facts₀ → (p ≡ 0) × Fronts terms₀ facts₀ × (Depth d → ⊥)
      go (short h e) = let i : ◌≡◌ {A = ℕ} 18 1 = refused_number (sym v ∙ verdict_of e) in absurd (omega arith)
      go (shallow h l e) = (refused_place (sym v ∙ verdict_of e), h, l)
      go (faulty m q j k h l r e) = let i : 18 ≡ m = refused_number (sym v ∙ verdict_of e) in absurd (omega arith)
      go (judged b i h l r e) = let (x, y) = judged_excessive b i h l r v in absurd (omega arith)

  pub refused_faulty : (n p : ℕ) → 2 ≤ n → n ≤ 10 → (checked d bytes terms₀ facts₀).verdict ≡ refused n p
      → Fronts terms₀ facts₀ × Depth d × (read bytes ≡ bad n p)
  refused_faulty n p l u v = go (course d bytes terms₀ facts₀)
    where
      go : Course d bytes terms₀ facts₀ → Fronts terms₀ facts₀ × Depth d × (read bytes ≡ bad n p)
      go (short h e) = let i : n ≡ 1 = refused_number (sym v ∙ verdict_of e) in absurd (omega arith)
      go (shallow h a e) = let i : n ≡ 18 = refused_number (sym v ∙ verdict_of e) in absurd (omega arith)
      go (faulty m q j k h a r e) =
          let i : m ≡ n = refused_number (sym (verdict_of e) ∙ v) in
          let c : q ≡ p = refused_place (sym (verdict_of e) ∙ v) in
          (h, a, r ∙ ap₂ bad i c)
      go (judged b i h a r e) = let (x, y) = judged_excessive b i h a r v in absurd (omega arith)

  pub refused_numbered : (n p : ℕ) → (checked d bytes terms₀ facts₀).verdict ≡ refused n p → Early n ⊎ Late n
  refused_numbered n p v = go (course d bytes terms₀ facts₀)
    where
      go : Course d bytes terms₀ facts₀ → Early n ⊎ Late n
      go (short h e) = let i : n ≡ 1 = refused_number (sym v ∙ verdict_of e) in inl (inl (omega arith, omega arith))
      go (shallow h l e) = inl (inr (refused_number (sym v ∙ verdict_of e)))
      go (faulty m q j k h l r e) = let i : n ≡ m = refused_number (sym v ∙ verdict_of e) in inl (inl (omega arith, omega arith))
      go (judged b i h l r e) = inr (judged_excessive b i h l r v)

  -- any other answer is about a rule set that was read
  pub checked_parsed : ((n p : ℕ) → Early n → (checked d bytes terms₀ facts₀).verdict ≡ refused n p → ⊥)
      → Fronts terms₀ facts₀ × Depth d × ((b : RuleSet) × (i : ℕ) × (read bytes ≡ good b i))
  checked_parsed other = go (course d bytes terms₀ facts₀)
    where
      go : Course d bytes terms₀ facts₀ → Fronts terms₀ facts₀ × Depth d × ((b : RuleSet) × (i : ℕ) × (read bytes ≡ good b i))
      go (short h e) = absurd (other 1 0 (inl (omega arith, omega arith)) (verdict_of e))
      go (shallow h l e) = absurd (other 18 0 (inr refl) (verdict_of e))
      go (faulty m q j k h l r e) = absurd (other m q (inl (omega arith, k)) (verdict_of e))
      go (judged b i h l r e) = (h, l, (b, i, r))

-- refusals 1 to 10 and 18 change nothing

pub record Untouched (d : ℕ) (bytes terms₀ facts₀ : List ℕ) : Type 0 where
  pub terms : (checked d bytes terms₀ facts₀).terms ≡ terms₀
  pub facts : (checked d bytes terms₀ facts₀).facts ≡ facts₀

untouched : {d : ℕ} {bytes terms₀ facts₀ : List ℕ} {v : Verdict} → checked d bytes terms₀ facts₀ ≡ record { verdict = v; terms = terms₀; facts = facts₀ }
    → Untouched d bytes terms₀ facts₀
untouched e = record { terms = ap (λ (c : Checked). c.terms) e; facts = ap (λ (c : Checked). c.facts) e }

not_early_and_late : {n : ℕ} → Early n → (11 ≤ n) × (n ≤ 14) → ⊥
not_early_and_late (inl h) k = omega (arith, h.1, k.0)
not_early_and_late (inr h) k = omega (arith, k.1)

pub refused_untouched : (d : ℕ) (bytes terms₀ facts₀ : List ℕ) (n p : ℕ) → (checked d bytes terms₀ facts₀).verdict ≡ refused n p → Early n
    → Untouched d bytes terms₀ facts₀
refused_untouched d bytes terms₀ facts₀ n p v a = go (course d bytes terms₀ facts₀)
  where
    go : Course d bytes terms₀ facts₀ → Untouched d bytes terms₀ facts₀
    go (short h e) = untouched e
    go (shallow h l e) = untouched e
    go (faulty m q j k h l r e) = untouched e
    go (judged b i h l r e) = absurd (not_early_and_late a (judged_excessive d bytes terms₀ facts₀ b i h l r v))

-- refusals 11 to 14 leave zeros in both fronts

pub record Zeroed (d : ℕ) (bytes terms₀ facts₀ : List ℕ) : Type 0 where
  pub terms : (checked d bytes terms₀ facts₀).terms ≡ fronted terms_front [] terms₀
  pub facts : (checked d bytes terms₀ facts₀).facts ≡ fronted facts_front [] facts₀

pub left_refused : (d : ℕ) (b : RuleSet) (n p : ℕ) (terms₀ facts₀ : List ℕ)
    → left d b (refused n p) terms₀ facts₀ ≡ record { verdict = refused n p; terms = fronted terms_front [] terms₀; facts = fronted facts_front [] facts₀ }
unfolding left
left_refused d b n p terms₀ facts₀ = refl

pub refused_zeroed : (d : ℕ) (bytes terms₀ facts₀ : List ℕ) (n p : ℕ) → (checked d bytes terms₀ facts₀).verdict ≡ refused n p → Late n
    → Zeroed d bytes terms₀ facts₀
refused_zeroed d bytes terms₀ facts₀ n p v a = go (course d bytes terms₀ facts₀)
  where
    go : Course d bytes terms₀ facts₀ → Zeroed d bytes terms₀ facts₀
    go (short h e) = let k : n ≡ 1 = refused_number (sym v ∙ ap (λ (c : Checked). c.verdict) e) in absurd (omega (arith, a.0))
    go (shallow h l e) = let k : n ≡ 18 = refused_number (sym v ∙ ap (λ (c : Checked). c.verdict) e) in absurd (omega (arith, a.1))
    go (faulty m q j k h l r e) = let i : n ≡ m = refused_number (sym v ∙ ap (λ (c : Checked). c.verdict) e) in absurd (omega (arith, a.0))
    go (judged b i h l r e) =
        let w : checked d bytes terms₀ facts₀ ≡ record { verdict = refused n p; terms = fronted terms_front [] terms₀; facts = fronted facts_front [] facts₀ } =
        e ∙ ap (λ (x : Verdict). left d b x terms₀ facts₀) (sym (checked_verdict d bytes terms₀ facts₀ b i h l r) ∙ v) ∙ left_refused d b n p terms₀ facts₀
        in
        record { terms = ap (λ (c : Checked). c.terms) w; facts = ap (λ (c : Checked). c.facts) w }

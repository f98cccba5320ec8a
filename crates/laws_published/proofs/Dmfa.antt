-- The stages are within the published DMFA set as long as test sets stay within their limit, an accepted one is that set, and a cyclic term
-- that is shown is reached. Assumes nothing.
use mathlib.Core.Path.{◌≡◌, refl, sym, ap, ◌∙◌, subst}
use mathlib.Core.Bool.{true, false}
use mathlib.Core.Logic.{◌↔◌, ◌⊎◌, inl, inr, ⊎_elim}
use mathlib.Core.List.{List, [], Memᴰ}
use Prim.Native.Nat.{ℕ, zero, suc, ◌≤◌, ◌<◌}
use native.Mathlib.Nat.{zero-add}
use native.Mathlib.Omega.{arith}
use native.Mathlib.Decide.{dec_lt}
use lib.Dec.{ltb}
use lib.ListN.{get_or}
use Rattle.model.specs.Lists.{any}
use Rattle.model.specs.Term.{Term, star, fixed, functions, cyclic}
use Rattle.model.specs.Rules.{RuleSet, Entry, entries, universal, blockable}
use Rattle.model.specs.WellFormed.{WellFormed}
use Rattle.model.specs.Triggers.{Fact, assign, instantiate}
use Rattle.model.specs.Blocking.{blocked}
use Rattle.model.specs.Stages.{Stage, leaves, critical, triggers_in, stage, cyclic_terms, too_many, accepted, cyclic_at, refused, verdict}
use Rattle.model.specs.Published.{Substitution, Blocked, Leaf, leaf_star, leaf_fixed, Critical, Dmfa, start, step}
use Rattle.laws.proofs.Bools.{case, not_both, is_false}
use Rattle.laws.proofs.Facts.{terms_of_mem}
use Rattle.laws.proofs.Triggers.{Assignment, Loaded, triggers_mem}
use Rattle.laws.proofs.WellFormed.{older_unnamed}
use Rattle.laws.proofs.Prefixes.{prefix_mem}
use Rattle.laws_stages.specs.Reached.{Reached}
use Rattle.laws_stages.proofs.Outputs.{Fires, outputs_mem, mem_outputs, cyclic_terms_mem, outputs_acyclic, test_sets_within}
use Rattle.laws_stages.proofs.Growth.{stage_zero_facts, stage_zero_terms, outputs_of, facts_from, facts_grow, outputs_added, arguments_in_terms, Named, terms_are_named}
use Rattle.laws_stages.specs.Says.{CyclicAt, Cause, large, many, facts, terms, Refused, Crowded}
use Rattle.laws_stages.proofs.Verdict.{accepted_says, cyclic_at_says, refused_says, reached_before, accepted_closed}
use Rattle.laws_stages.proofs.Arities.{critical_mem, mem_critical}
use Rattle.laws_stages.proofs.Tuples.{LeafOf, leaves_mem, star_leaf, fixed_leaf}
use Rattle.laws_stages.proofs.Order.{Invented, terms_from}
use Rattle.laws_published.proofs.Closure.{loaded_trigger}
use Rattle.laws_published.proofs.Blocked.{blocked_sound, blocked_complete}
use Rattle.laws_published.proofs.Rooted.{Grounded, grounded_star, grounded_skolem}
use Rattle.laws_published.proofs.Unblockable.{never_blocked}

-- where rules name no constants, terms of stages are grounded
terms_grounded : (b : RuleSet) → WellFormed b → b.fixed ≡ 0 → (n : ℕ) {t : Term} → Memᴰ t (stage b n).terms → Grounded t
terms_grounded b w u zero {t} m = go (leaves_mem b (rw (stage_zero_terms b) at m))
  where
    go : LeafOf b t → Grounded t
    go (inl e) = subst Grounded (sym e) grounded_star
    go (inr (c, h, e)) = absurd (omega arith)
terms_grounded b w u (suc n) {t} m = go (λ s k. terms_grounded b w u n k) (terms_from b w n m)
  where
    go : ((s : Term) → Memᴰ s (stage b n).terms → Grounded s) → Memᴰ t (stage b n).terms ⊎ Invented (entries b) (stage b n).terms t → Grounded t
    go below (inl k) = below t k
    go below (inr i) = subst Grounded (sym i.term) (grounded_skolem i.some (λ s k. below s (i.old s k)))

-- the triggers of a stage, as the two notions have them
triggers_in_mem : (s : Stage) (e : Entry) {m : List Term} → Memᴰ m (triggers_in s e)
    → Assignment (universal e.rule) s.terms m × Loaded e.rule s.facts (assign (universal e.rule) m)
unfolding triggers_in
triggers_in_mem s e k = triggers_mem e.rule s.terms s.facts k

pub mem_triggers_in : (b : RuleSet) (n : ℕ) (e : Entry) (m : List Term) → Substitution e.rule m
    → Loaded e.rule (stage b n).facts (assign (universal e.rule) m) → Memᴰ m (triggers_in (stage b n) e)
unfolding triggers_in
mem_triggers_in b n e m t l =
    loaded_trigger e.rule (stage b n).terms (stage b n).facts m t l
    (λ u k. let (f, i, j) = terms_of_mem (stage b n).facts k in arguments_in_terms b n i j)

-- stage 0 is the critical instance
leaf_back : (b : RuleSet) {t : Term} → Leaf b t → Memᴰ t (leaves b)
leaf_back b leaf_star = star_leaf b
leaf_back b (leaf_fixed {c} h) = fixed_leaf b c h

leaf_is_published : (b : RuleSet) (t : Term) → Memᴰ t (leaves b) ↔ Leaf b t
leaf_is_published b t = (λ m. to (leaves_mem b m), leaf_back b)
  where
    to : LeafOf b t → Leaf b t
    to (inl e) = subst (Leaf b) (sym e) leaf_star
    to (inr (c, h, e)) = subst (Leaf b) (sym e) (leaf_fixed h)

pub critical_is_published : (b : RuleSet) (f : Fact) → Memᴰ f (critical (leaves b) 0 b.arities) ↔ Critical b f
critical_is_published b f = (
  to,
  λ c.
      subst (λ (p : ℕ). Memᴰ (record { predicate = p; arguments = f.arguments }) (critical (leaves b) 0 b.arities)) (zero-add f.predicate)
      (mem_critical (leaves b) 0 b.arities f.predicate f.arguments c.declared c.arity (λ t m. (leaf_is_published b t).1 (c.leaves t m))),
)
  where
    to : Memᴰ f (critical (leaves b) 0 b.arities) → Critical b f
    to m =
        let (i, h, e, l, q) = critical_mem (leaves b) 0 b.arities m in
        let k : f.predicate ≡ i = e ∙ zero-add i in
        record { declared = rw k h; arity = l ∙ ap (λ (j : ℕ). get_or b.arities j 0) (sym k); leaves = λ t n. (leaf_is_published b t).0 (q t n) }

-- a stage that has all its outputs has the whole set: what the test blocks is blocked
pub dmfa_within : (b : RuleSet) (n : ℕ) → ((g : Fact) → Memᴰ g (outputs_of b n) → Memᴰ g (stage b n).facts) → {f : Fact} → Dmfa b f
    → Memᴰ f (stage b n).facts
dmfa_within b n h (start {f} i) = prefix_mem (facts_grow b 0 n (omega arith)) (rw (stage_zero_facts b) ((critical_is_published b f).1 i))
dmfa_within b n h (step {f} e m i t l c o) =
    h f
    (mem_outputs (entries b) (stage b n)
    (record {
      entry = e;
      terms = m;
      known = i;
      trigger = mem_triggers_in b n e m t (λ a k. dmfa_within b n h (l a k));
      free = is_false (blocked (entries b) e m) (λ k. c (blocked_sound b e m t k));
      fact = o;
    }))

-- no stage holds a cyclic term before an output shows one

cyclic_star : (d : ℕ) → cyclic d star ≡ false
unfolding cyclic functions any
cyclic_star d = refl

cyclic_fixed : (d c : ℕ) → cyclic d (fixed c) ≡ false
unfolding cyclic functions any
cyclic_fixed d c = refl

cyclic_leaf : (d : ℕ) (b : RuleSet) {t : Term} → Memᴰ t (leaves b) → cyclic d t ≡ false
cyclic_leaf d b {t} m = go (leaves_mem b m)
  where
    go : LeafOf b t → cyclic d t ≡ false
    go (inl e) = ap (cyclic d) e ∙ cyclic_star d
    go (inr (c, _, e)) = ap (cyclic d) e ∙ cyclic_fixed d c

pub stage_acyclic : (d : ℕ) (b : RuleSet) (n : ℕ) → ((j : ℕ) → j < n → cyclic_terms d (entries b) (stage b j) ≡ []) → (f : Fact) → Memᴰ f (stage b n).facts
    → (t : Term) → Memᴰ t f.arguments → cyclic d t ≡ false
stage_acyclic d b zero none f k t m = cyclic_leaf d b (rw (stage_zero_terms b) at (arguments_in_terms b 0 k m))
stage_acyclic d b (suc n) none f k t m = go (λ i. stage_acyclic d b n (λ j h. none j (omega arith)) f i t m) (facts_from b n k)
  where
    go : (Memᴰ f (stage b n).facts → cyclic d t ≡ false) → Memᴰ f (stage b n).facts ⊎ Memᴰ f (outputs_of b n) → cyclic d t ≡ false
    go below (inl i) = below i
    go below (inr i) = outputs_acyclic d (entries b) (stage b n) (none n (omega arith)) i m

pub reached_acyclic : {d : ℕ} (b : RuleSet) (n : ℕ) → Reached d b n → (t : Term) → Memᴰ t (stage b n).terms → cyclic d t ≡ false
reached_acyclic {d} b n r t k =
    ⊎_elim (λ (i : Memᴰ t (leaves b)). cyclic_leaf d b i)
    (λ (i : Named (stage b n).facts t). stage_acyclic d b n (λ j h. (r.passed j h).acyclic) i.fact i.known t i.argument) (terms_are_named b n k)

-- what `cyclic` claims of its stage and of the term shown
pub record Witness (d : ℕ) (b : RuleSet) (n : ℕ) (u : Term) : Type 0 where
  pub loops : cyclic d u ≡ true
  pub fact : Fact
  pub known : Memᴰ fact (stage b n).facts
  pub argument : Memᴰ u fact.arguments
  pub within : (g : Fact) → Memᴰ g (stage b n).facts → Dmfa b g
  pub first : (j : ℕ) → j < n → (v : Term) → Memᴰ v (stage b j).terms → cyclic d v ≡ false

-- the rule set is DMFA at depth d: its set has no cyclic term (001, Definition 4)
abbrev pub Acyclic : ℕ → RuleSet → Type 0
Acyclic d b = (g : Fact) → Dmfa b g → (u : Term) → Memᴰ u g.arguments → cyclic d u ≡ false

module _ (b : RuleSet) (wf : WellFormed b) where
  trigger_grounded : (n : ℕ) (e : Entry) (m : List Term) → Memᴰ m (triggers_in (stage b n) e) → ltb 2 b.version ≡ false → (t : Term) → Memᴰ t m → Grounded t
  trigger_grounded n e m k older t i = terms_grounded b wf (older_unnamed wf older) n ((triggers_in_mem (stage b n) e k).0.terms t i)

  -- only blockable rules need the blocking test: the others have no blocked trigger in the published sense, before version 3 by theorem
  pub unblockable_free : (n : ℕ) (e : Entry) (m : List Term) → Memᴰ e (entries b) → blockable e.rule ≡ false
      → Memᴰ m (triggers_in (stage b n) e) → Blocked b e m → ⊥
  unblockable_free n e m i j k h = never_blocked wf i j m (triggers_in_mem (stage b n) e k).0.total (trigger_grounded n e m k) h

  -- on the triggers of a stage whose test sets are within their limit, the test decides the published notion
  pub blocked_is_published : (n : ℕ) (e : Entry) (m : List Term) → too_many (entries b) (stage b n) ≡ false → Memᴰ e (entries b)
      → Memᴰ m (triggers_in (stage b n) e) → (blocked (entries b) e m ≡ true) ↔ Blocked b e m
  blocked_is_published n e m few i k = (blocked_sound b e m total, go (case (blockable e.rule)))
    where
      total : Substitution e.rule m
      total = (triggers_in_mem (stage b n) e k).0.total

      go : (blockable e.rule ≡ true) ⊎ (blockable e.rule ≡ false) → Blocked b e m → blocked (entries b) e m ≡ true
      go (inl j) h = blocked_complete b e m total j (test_sets_within (entries b) (stage b n) few i j k) h
      go (inr j) h = absurd (unblockable_free n e m i j k h)

  -- a stage is within the set if the test sets of all earlier ones are within their limit
  pub stage_within_dmfa : (n : ℕ) → ((j : ℕ) → j < n → too_many (entries b) (stage b j) ≡ false) → (f : Fact) → Memᴰ f (stage b n).facts → Dmfa b f
  stage_within_dmfa zero few f k = start ((critical_is_published b f).0 (rw (stage_zero_facts b) at k))
  stage_within_dmfa (suc n) few f k = go (λ g i. stage_within_dmfa n (λ j h. few j (omega arith)) g i) (facts_from b n k)
    where
      added : ((g : Fact) → Memᴰ g (stage b n).facts → Dmfa b g) → Fires (entries b) (stage b n) f → Dmfa b f
      added below o =
          let r = o.entry.rule in
          let (t, l) = triggers_in_mem (stage b n) o.entry o.trigger in
          step o.entry o.terms o.known t.total (λ a i. below (instantiate (assign (universal r) o.terms) a) (l a i))
          (λ h. not_both (blocked (entries b) o.entry o.terms) ((blocked_is_published n o.entry o.terms (few n (omega arith)) o.known o.trigger).1 h) o.free)
          o.fact

      go : ((g : Fact) → Memᴰ g (stage b n).facts → Dmfa b g) → Memᴰ f (stage b n).facts ⊎ Memᴰ f (outputs_of b n) → Dmfa b f
      go below (inl i) = below f i
      go below (inr i) = added below (outputs_mem (entries b) (stage b n) i)

  pub reached_within_dmfa : {d : ℕ} (n : ℕ) → Reached d b n → (f : Fact) → Memᴰ f (stage b n).facts → Dmfa b f
  reached_within_dmfa n r = stage_within_dmfa n (λ j h. (r.passed j h).few)

  -- and so is the stage after it, if its own test sets are within their limit too
  pub next_within_dmfa : {d : ℕ} (n : ℕ) → Reached d b n → too_many (entries b) (stage b n) ≡ false → (f : Fact) → Memᴰ f (stage b (suc n)).facts → Dmfa b f
  next_within_dmfa n r few = stage_within_dmfa (suc n) each
    where
      each : (j : ℕ) → j < suc n → too_many (entries b) (stage b j) ≡ false
      each j h = go (dec_lt j n)
        where
          go : Dec (j < n) → too_many (entries b) (stage b j) ≡ false
          go (yes i) = (r.passed j i).few
          go (no i) = let e : j ≡ n = omega arith in rw e few

-- what the verdict at depth d says of the set

module _ (d : ℕ) (b : RuleSet) (wf : WellFormed b) where
  -- the list of an accepted rule set is the DMFA set
  pub accepted_is_dmfa : {n f t : ℕ} → verdict d b ≡ accepted n f t → (g : Fact) → Memᴰ g (stage b n).facts ↔ Dmfa b g
  accepted_is_dmfa {n} h g =
      let a = accepted_says d b wf h in
      (reached_within_dmfa b wf n a.reached g, dmfa_within b n (accepted_closed b a))

  -- and has no cyclic term
  pub accepted_is_acyclic : {n f t : ℕ} → verdict d b ≡ accepted n f t → Acyclic d b
  accepted_is_acyclic {n} h g k u m = reached_acyclic b n (accepted_says d b wf h).reached u (arguments_in_terms b n ((accepted_is_dmfa h g).1 k) m)

  pub cyclic_at_witness : {n f t : ℕ} (l : CyclicAt d b n f t) → Witness d b n l.shown
  cyclic_at_witness {n} l =
      let k = l.last in
      let (c, (g, i, m)) = cyclic_terms_mem d (entries b) (stage b k) {t = l.shown} (rw l.found (Memᴰ.head refl)) in
      subst (λ (x : ℕ). Witness d b x l.shown) (sym l.next)
      (record {
        loops = c;
        fact = g;
        known = outputs_added b k i;
        argument = m;
        within = next_within_dmfa b wf k l.reached l.few;
        first = λ j h v q. reached_acyclic b j (reached_before b k j (omega arith) l.reached) v q;
      })

  -- the term shown is a cyclic one of the DMFA set, and no earlier stage holds one
  pub cyclic_is_reached : {n f t : ℕ} (h : verdict d b ≡ cyclic_at n f t) → Witness d b n (cyclic_at_says d b wf h).shown
  cyclic_is_reached h = cyclic_at_witness (cyclic_at_says d b wf h)

  pub cyclic_at_is_cyclic : {n f t : ℕ} → verdict d b ≡ cyclic_at n f t → Acyclic d b → ⊥
  cyclic_at_is_cyclic h a =
      let u = (cyclic_at_says d b wf h).shown in
      let w = cyclic_is_reached h in
      not_both (cyclic d u) w.loops (a w.fact (w.within w.fact w.known) u w.argument)

  -- the last stage made before a refusal is within the set
  pub refused_within_dmfa : {n k : ℕ} → verdict d b ≡ refused n (suc k) → (f : Fact) → Memᴰ f (stage b k).facts → Dmfa b f
  refused_within_dmfa {k = k} h =
      go (refused_says d b wf h)
    where
      go : {n : ℕ} → Refused d b n (suc k) ⊎ Crowded b n (suc k) → (f : Fact) → Memᴰ f (stage b k).facts → Dmfa b f
      go (inl r) = let e = r.next in let i : k ≡ r.last = omega arith in rw i (reached_within_dmfa b wf r.last r.reached)
      go (inr c) = absurd (omega (arith, c.place))

  cause_few : (k : ℕ) {n : ℕ} → Cause d b k n → 13 ≤ n → too_many (entries b) (stage b k) ≡ false
  cause_few k (large i) h = absurd (omega arith)
  cause_few k (many i j) h = absurd (omega arith)
  cause_few k (facts i j c l) h = j
  cause_few k (terms i j c l o) h = j

  -- and so is the stage that is refused for its facts or terms
  pub refused_stage_within_dmfa : {n p : ℕ} → verdict d b ≡ refused n p → 13 ≤ n → (f : Fact) → Memᴰ f (stage b p).facts → Dmfa b f
  refused_stage_within_dmfa {n} {p} h i = go (refused_says d b wf h)
    where
      go : Refused d b n p ⊎ Crowded b n p → (f : Fact) → Memᴰ f (stage b p).facts → Dmfa b f
      go (inl r) = rw r.next (next_within_dmfa b wf r.last r.reached (cause_few r.last r.cause i))
      go (inr c) = rw c.place (stage_within_dmfa b wf 0 (λ j l. absurd (omega arith)))

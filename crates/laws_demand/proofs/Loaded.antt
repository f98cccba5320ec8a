-- Loaded triggers, satisfied disjuncts and attempts that fit, by their elements. Assumes nothing.
use mathlib.Core.Path.{◌≡◌, sym, subst}
use mathlib.Core.Bool.{true, false, not}
use mathlib.Core.List.Memᴰ
use mathlib.Core.List.{List, map, Memᴰ}
use Prim.Native.Nat.{ℕ}
use borrow.Author.Tests.{not-true}
use Rattle.model.specs.Lists.{all}
use Rattle.model.specs.Term.{Term}
use Rattle.model.specs.Rules.{Atom, Rule, Disjunct, Entry, in_body, universal}
use Rattle.model.specs.WellFormed.{WellFormedRule}
use Rattle.model.specs.Triggers.{Fact, present, assign, instantiate, head_facts}
use Rattle.model.specs.Chase.{satisfied, fits}
use Rattle.laws.proofs.Bools.{not_both, and_true, true_and, is_false}
use Rattle.laws.proofs.Lists.{any_mem, mem_any, all_mem, mem_all}
use Rattle.laws.proofs.Facts.{present_mem, mem_present}
use Rattle.laws.proofs.Rules.{mem_in_body, mem_variables_of, Entered}
use Rattle.laws.proofs.Triggers.{Agree, Loaded, assign_map, instantiate_agree, head_facts_agree}
use Rattle.laws.proofs.WellFormed.{in_body_universal}

-- the terms of a trigger say what its substitution does on the body
pub assign_agree : {arities : List ℕ} {r : Rule} → WellFormedRule arities r → (σ : ℕ → Term) → Agree r (assign (universal r) (map σ (universal r))) σ
assign_agree {r = r} w σ v e = assign_map (universal r) σ (in_body_universal w e)

pub loaded_agree : (r : Rule) (fs : List Fact) {σ τ : ℕ → Term} → Agree r σ τ → Loaded r fs σ → Loaded r fs τ
loaded_agree r fs {σ} {τ} h l a m = Memᴰ.cast (instantiate_agree τ σ a (λ v n k. sym (h v (mem_in_body r n (mem_variables_of m k))))) (l a m)

-- a disjunct is satisfied: all its facts are in the set
abbrev pub Satisfied : List Fact → (ℕ → Term) → Disjunct → Type 0
Satisfied fs σ d = (f : Fact) → Memᴰ f (head_facts σ d) → Memᴰ f fs

pub satisfied_mem : (fs : List Fact) (σ : ℕ → Term) (ds : List Disjunct) → satisfied fs σ ds ≡ true
    → (d : Disjunct) × Memᴰ d ds × Satisfied fs σ d
unfolding satisfied
satisfied_mem fs σ ds h =
    let (d, m, k) = any_mem (λ (d : Disjunct). all (present fs) (head_facts σ d)) ds h in
    (d, m, λ f i. present_mem fs f (all_mem (present fs) k i))

pub mem_satisfied : {fs : List Fact} (σ : ℕ → Term) {d : Disjunct} {ds : List Disjunct} → Memᴰ d ds → Satisfied fs σ d
    → satisfied fs σ ds ≡ true
unfolding satisfied
mem_satisfied {fs} σ {d} m h =
    mem_any (λ (d : Disjunct). all (present fs) (head_facts σ d)) m (mem_all (present fs) (head_facts σ d) (λ f i. mem_present (h f i)))

pub satisfied_agree : {rs : List Rule} {e : Entry} → Entered rs e → (fs : List Fact) {σ τ : ℕ → Term} → Agree e.rule σ τ
    → satisfied fs σ e.disjuncts ≡ true → satisfied fs τ e.disjuncts ≡ true
satisfied_agree {e = e} n fs {σ} {τ} h k =
    let (d, m, s) = satisfied_mem fs σ e.disjuncts k in
    let g : Agree d.rule τ σ = λ v i. sym (h v (subst (λ (r : Rule). in_body r v ≡ true) (n.disjuncts d m).0 i)) in
    let same-facts = head_facts_agree d τ σ g in
    mem_satisfied τ m (λ f i. s f (rw same-facts at i))

pub fits_loaded : (fs : List Fact) (e : Entry) (σ : ℕ → Term) → fits fs e σ ≡ true → Loaded e.rule fs σ
unfolding fits
fits_loaded fs e σ h a m =
    let (i, j) = and_true (all (λ (a : Atom). present fs (instantiate σ a)) e.rule.body) (not (satisfied fs σ e.disjuncts)) h in
    present_mem fs (instantiate σ a) (all_mem (λ (a : Atom). present fs (instantiate σ a)) i m)

pub fits_unsatisfied : (fs : List Fact) (e : Entry) (σ : ℕ → Term) → fits fs e σ ≡ true → satisfied fs σ e.disjuncts ≡ false
unfolding fits
fits_unsatisfied fs e σ h =
    not-true (satisfied fs σ e.disjuncts) (and_true (all (λ (a : Atom). present fs (instantiate σ a)) e.rule.body) (not (satisfied fs σ e.disjuncts)) h).1

pub loaded_fits : (fs : List Fact) (e : Entry) (σ : ℕ → Term) → Loaded e.rule fs σ → satisfied fs σ e.disjuncts ≡ false → fits fs e σ ≡ true
unfolding fits
loaded_fits fs e σ l h =
    true_and (all (λ (a : Atom). present fs (instantiate σ a)) e.rule.body) (not (satisfied fs σ e.disjuncts))
    (mem_all (λ (a : Atom). present fs (instantiate σ a)) e.rule.body (λ a m. mem_present (l a m))) (rw h)

pub fits_agree : {rs : List Rule} {e : Entry} → Entered rs e → (fs : List Fact) {σ τ : ℕ → Term} → Agree e.rule σ τ → fits fs e σ ≡ true
    → fits fs e τ ≡ true
fits_agree {e = e} n fs {σ} {τ} h k =
    loaded_fits fs e τ (loaded_agree e.rule fs {σ = σ} {τ = τ} h (fits_loaded fs e σ k))
    (is_false (satisfied fs τ e.disjuncts)
    (λ s.
    not_both (satisfied fs σ e.disjuncts) (satisfied_agree n fs {σ = τ} {τ = σ} (λ v i. sym (h v i)) s) (fits_unsatisfied fs e σ k)))

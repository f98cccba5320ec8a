-- What the Datalog test of the chase decides: no possible attempt on a Datalog rule fits. Assumes nothing.
use mathlib.Core.Path.{◌≡◌, refl, ap, sym}
use mathlib.Core.Bool.{Bool, true, false, ◌||◌, not}
use mathlib.Core.Logic.{◌⊎◌, inl, inr, ◌↔◌}
use mathlib.Core.List.Memᴰ
use mathlib.Core.List.{List, [], ◌∷◌, map, Memᴰ}
use Prim.Native.Nat.{ℕ, zero, suc, ◌≤◌}
use native.Mathlib.Omega.{arith}
use borrow.Author.Tests.{not-true}
use lib.ListN.{get_or, drop, length-map}
use Rattle.model.specs.Lists.{all, extend}
use Rattle.model.specs.Term.{Term, star, same}
use Rattle.model.specs.Rules.{Rule, RuleSet, Disjunct, Entry, entries, universal, datalog, names}
use Rattle.model.specs.WellFormed.{WellFormed}
use Rattle.model.specs.Triggers.{Fact, terms_of, assign, triggers}
use Rattle.model.specs.Chase.{Attempt, satisfied, fits, datalog_done}
use Rattle.laws.proofs.Bools.{case, not_both, or_true, or_left, or_right, is_false}
use Rattle.laws.proofs.Lists.{all_mem, mem_all, map_mem, extend_right}
use Rattle.laws.proofs.Terms.{same_decides}
use Rattle.laws.proofs.Rules.{in_body_small, universal_mem, entries_mem, length_disjuncts}
use Rattle.laws.proofs.Triggers.{Loaded, Assignment, triggers_mem, mem_triggers, loaded_value}
use Rattle.laws.proofs.WellFormed.{entry_well_formed}
use Rattle.laws_chase.proofs.Attempts.{given, drop_mem}
use Rattle.laws_demand.proofs.Loaded.{assign_agree, loaded_agree, satisfied_agree, fits_loaded, fits_unsatisfied, loaded_fits, fits_agree}
use Rattle.laws_demand.proofs.Disjuncts.{some_disjunct}

loaded_assignment : (r : Rule) (fs : List Fact) (σ : ℕ → Term) → Loaded r fs σ
    → Assignment (universal r) (extend same [] (terms_of fs)) (map σ (universal r))
loaded_assignment r fs σ l =
    record {
      total = length-map (universal r) σ;
      terms = λ t m.
          let (v, k, e) = map_mem σ (universal r) m in
          extend_right same same_decides [] (Memᴰ.cast e (loaded_value r fs σ l (universal_mem r k)));
    }

-- what the test asks of one entry
all_satisfied : List Fact → Entry → Bool
all_satisfied fs e =
    all (λ (m : List Term). satisfied fs (assign (universal e.rule) m) e.disjuncts) (triggers e.rule (extend same [] (terms_of fs)) fs)

datalog_done_all : (es : List Entry) (fs : List Fact) → datalog_done es fs ≡ true → {e : Entry} → Memᴰ e es → datalog e.rule ≡ true
    → all_satisfied fs e ≡ true
unfolding datalog_done all_satisfied
datalog_done_all es fs h {e} m g = go (or_true (not (datalog e.rule)) (all_satisfied fs e) (all_mem (λ (e : Entry). not (datalog e.rule) || all_satisfied fs e) h m))
  where
    go : (not (datalog e.rule) ≡ true) ⊎ (all_satisfied fs e ≡ true) → all_satisfied fs e ≡ true
    go (inl k) = not_both (datalog e.rule) g (not-true (datalog e.rule) k)
    go (inr k) = k

all_datalog_done : (es : List Entry) (fs : List Fact) → ((e : Entry) → Memᴰ e es → datalog e.rule ≡ true → all_satisfied fs e ≡ true)
    → datalog_done es fs ≡ true
unfolding datalog_done all_satisfied
all_datalog_done es fs h = mem_all (λ (e : Entry). not (datalog e.rule) || all_satisfied fs e) es (λ e m. go e (λ g. h e m g) (case (datalog e.rule)))
  where
    go : (e : Entry) → (datalog e.rule ≡ true → all_satisfied fs e ≡ true) → (datalog e.rule ≡ true) ⊎ (datalog e.rule ≡ false)
        → not (datalog e.rule) || all_satisfied fs e ≡ true
    go e k (inl g) = or_right (not (datalog e.rule)) (all_satisfied fs e) (k g)
    go e k (inr g) = or_left (not (datalog e.rule)) (all_satisfied fs e) (rw g)

-- a loaded trigger of a Datalog rule is satisfied where the test says that none fits
pub datalog_done_satisfied : {b : RuleSet} → WellFormed b → (fs : List Fact) → datalog_done (entries b) fs ≡ true → {e : Entry} → Memᴰ e (entries b)
    → datalog e.rule ≡ true → (σ : ℕ → Term) → Loaded e.rule fs σ → satisfied fs σ e.disjuncts ≡ true
unfolding all_satisfied
datalog_done_satisfied {b} w fs h {e} m g σ l =
    let f = entry_well_formed w m in
    let r : Rule = e.rule in
    let τ : ℕ → Term = assign (universal r) (map σ (universal r)) in
    satisfied_agree (entries_mem b m) fs {σ = τ} {τ = σ} (assign_agree f σ)
    (all_mem (λ (m : List Term). satisfied fs (assign (universal e.rule) m) e.disjuncts) (datalog_done_all (entries b) fs h m g)
    (mem_triggers r (extend same [] (terms_of fs)) fs (map σ (universal r)) (loaded_assignment r fs σ l)
    (loaded_agree r fs {σ = σ} {τ = τ} (λ v i. sym (assign_agree f σ v i)) l)))

-- no possible attempt on a Datalog rule fits the set
abbrev pub DatalogDone : List Entry → List Fact → Type 0
DatalogDone es fs = (e : Entry) → Memᴰ e es → datalog e.rule ≡ true → (σ : ℕ → Term) → fits fs e σ ≡ false

pub datalog_done_decides : {b : RuleSet} → WellFormed b → (fs : List Fact) → (datalog_done (entries b) fs ≡ true) ↔ DatalogDone (entries b) fs
unfolding all_satisfied
datalog_done_decides {b} w fs = (
  λ h e m g σ.
      is_false (fits fs e σ)
      (λ k. not_both (satisfied fs σ e.disjuncts) (datalog_done_satisfied w fs h m g σ (fits_loaded fs e σ k)) (fits_unsatisfied fs e σ k)),
  λ h. all_datalog_done (entries b) fs (λ e m g.
      mem_all (λ (m : List Term). satisfied fs (assign (universal e.rule) m) e.disjuncts) (triggers e.rule (extend same [] (terms_of fs)) fs)
      (λ t k. done e (assign (universal e.rule) t) (triggers_mem e.rule (extend same [] (terms_of fs)) fs k).1 (h e m g (assign (universal e.rule) t))
      (case (satisfied fs (assign (universal e.rule) t) e.disjuncts)))),
)
  where
    done : (e : Entry) (σ : ℕ → Term) → Loaded e.rule fs σ → fits fs e σ ≡ false
        → (satisfied fs σ e.disjuncts ≡ true) ⊎ (satisfied fs σ e.disjuncts ≡ false) → satisfied fs σ e.disjuncts ≡ true
    done e σ l k (inl i) = i
    done e σ l k (inr i) = not_both (fits fs e σ) (loaded_fits fs e σ l i) k

-- The same over attempts: a rule number, terms and a disjunct number.

module _ {ℓ} {A : Type ℓ} where
  mem_drop : {x : A} {xs : List A} → Memᴰ x xs → (n : ℕ) × (ys : List A) × (drop n xs ≡ x ∷ ys)
  mem_drop (Memᴰ.head {x = y} {xs = ys} e) = (0, ys, ap (λ (z : A). z ∷ ys) (sym e))
  mem_drop (Memᴰ.tail m) = let (n, ys, k) = mem_drop m in (suc n, ys, k)

get_or_names : (σ : ℕ → Term) (v : ℕ) → v ≤ 7 → get_or (map σ names) v star ≡ σ v
get_or_names σ zero h = refl
get_or_names σ (suc zero) h = refl
get_or_names σ (suc (suc zero)) h = refl
get_or_names σ (suc (suc (suc zero))) h = refl
get_or_names σ (suc (suc (suc (suc zero)))) h = refl
get_or_names σ (suc (suc (suc (suc (suc zero))))) h = refl
get_or_names σ (suc (suc (suc (suc (suc (suc zero)))))) h = refl
get_or_names σ (suc (suc (suc (suc (suc (suc (suc zero))))))) h = refl
get_or_names σ (suc (suc (suc (suc (suc (suc (suc (suc v)))))))) h = absurd (omega arith)

-- an attempt names a rule and a disjunct that the rule set has
pub record Names (b : RuleSet) (a : Attempt) (e : Entry) (d : Disjunct) : Type 0 where
  pub rule : (es : List Entry) × (drop a.rule (entries b) ≡ e ∷ es)
  pub disjunct : (ds : List Disjunct) × (drop a.disjunct e.disjuncts ≡ d ∷ ds)

-- where no attempt on a Datalog rule fits, no substitution does
pub unfit_attempts : {b : RuleSet} → WellFormed b → (fs : List Fact)
    → ((a : Attempt) (e : Entry) (d : Disjunct) → Names b a e d → datalog e.rule ≡ true → fits fs e (given a) ≡ false) → DatalogDone (entries b) fs
unfit_attempts {b} w fs h e m g σ =
    is_false (fits fs e σ)
    (λ k.
    let r = entry_well_formed w m in
    let (n, es, i) = mem_drop m in
    let (d, ds, j) = some_disjunct e.disjuncts (rw (length_disjuncts b m) r.some) in
    let a : Attempt = record { rule = n; terms = map σ names; disjunct = 0 } in
    not_both (fits fs e (given a)) (fits_agree (entries_mem b m) fs {σ = σ} {τ = given a} (λ v i. sym (get_or_names σ v (in_body_small e.rule v i))) k)
    (h a e d (record { rule = (es, i); disjunct = (ds, j) }) g))

-- the test of the chase is true exactly where no possible attempt on a Datalog rule fits
pub datalog_done_attempts : {b : RuleSet} → WellFormed b → (fs : List Fact)
    → (datalog_done (entries b) fs ≡ true)
    ↔ ((a : Attempt) (e : Entry) (d : Disjunct) → Names b a e d → datalog e.rule ≡ true → fits fs e (given a) ≡ false)
datalog_done_attempts {b} w fs = (
  λ h a e d n g. (datalog_done_decides w fs).0 h e (let (es, i) = n.rule in drop_mem a.rule (entries b) i) g (given a),
  λ h. (datalog_done_decides w fs).1 (unfit_attempts w fs h),
)

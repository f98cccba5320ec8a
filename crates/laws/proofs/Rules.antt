-- Laws of a rule's variables and of the numbered entries. Assumes nothing.
use mathlib.Core.Path.{◌≡◌, refl, sym, ap, subst}
use mathlib.Core.Bool.{Bool, true, false, ◌&&◌, not}
use mathlib.Core.Logic.{◌⊎◌, inl, inr}
use mathlib.Core.List.Memᴰ
use mathlib.Core.List.{List, [], ◌∷◌, Memᴰ}
use Prim.Native.Nat.{ℕ, suc, ◌+◌, ◌≤◌}
use native.Mathlib.Omega.{arith}
use lib.Dec.{eqb, ltb}
use lib.ListN.{length}
use borrow.Author.Tests.{ltb-true, lt-ltb, eqb-true, not-true}
use Rattle.model.specs.Lists.{any, keep, member, all}
use Rattle.model.specs.Rules.{Atom, Rule, RuleSet, Disjunct, Entry, names, variables_of, in_body, universal, frontier, existential, disjuncts_from, count_skolem, entries_from, entries, existential_free, datalog, blockable}
use Rattle.laws.specs.Lists.{Distinct, none, one, rising}
use Rattle.laws.proofs.Bools.{and_true, true_and, case, is_false}
use Rattle.laws.proofs.Rising.{rising_below, rising_distinct, mem_rising}
use Rattle.laws.proofs.Lists.{keep_yes, keep_no, mem_keep, keep_mem, mem_member, member_mem, mem_any, mem_collect, collect_mem, length_keep}

-- the variables are the numbers up to 7, each once

pub mem_names : (v : ℕ) → v ≤ 7 → Memᴰ v names
unfolding rising
mem_names v h = mem_rising 0 8 v (omega arith) (omega arith)

pub names_mem : {v : ℕ} → Memᴰ v names → v ≤ 7
unfolding rising
names_mem m = let h = rising_below 0 8 m in omega arith

pub names_distinct : Distinct names
unfolding rising
names_distinct = rising_distinct 0 8

pub keep_distinct : (p : ℕ → Bool) {xs : List ℕ} → Distinct xs → Distinct (keep p xs)
unfolding keep
keep_distinct p none = none
keep_distinct p (one {x = x} {xs = xs} n d) = go (keep_distinct p d) (case (p x))
  where
    go : Distinct (keep p xs) → (p x ≡ true) ⊎ (p x ≡ false) → Distinct (keep p (x ∷ xs))
    go k (inl e) = rw (keep_yes p x xs e) (one (λ m. n (keep_mem p xs m).0) k)
    go k (inr e) = rw (keep_no p x xs e) k

-- a rule's variable sets by their elements

pub in_body_mem : (r : Rule) (v : ℕ) → in_body r v ≡ true → Memᴰ v (variables_of r.body)
unfolding in_body
in_body_mem r v h = member_mem v (variables_of r.body) (and_true (ltb v 8) (member v (variables_of r.body)) h).1

pub in_body_small : (r : Rule) (v : ℕ) → in_body r v ≡ true → v ≤ 7
unfolding in_body
in_body_small r v h = let k = ltb-true v 8 (and_true (ltb v 8) (member v (variables_of r.body)) h).0 in omega arith

pub in_body_member : (r : Rule) (v : ℕ) → v ≤ 7 → in_body r v ≡ member v (variables_of r.body)
unfolding in_body
in_body_member r v h = ap (λ (b : Bool). b && member v (variables_of r.body)) (lt-ltb v 8 (omega arith))

pub mem_in_body : (r : Rule) {v : ℕ} → v ≤ 7 → Memᴰ v (variables_of r.body) → in_body r v ≡ true
unfolding in_body
mem_in_body r {v} h m = true_and (ltb v 8) (member v (variables_of r.body)) (lt-ltb v 8 (omega arith)) (mem_member m)

pub mem_variables_of : {v : ℕ} {a : Atom} {as' : List Atom} → Memᴰ a as' → Memᴰ v a.variables → Memᴰ v (variables_of as')
unfolding variables_of
mem_variables_of m k = mem_collect (λ (a : Atom). a.variables) m k

pub variables_of_mem : {v : ℕ} (as' : List Atom) → Memᴰ v (variables_of as') → (a : Atom) × Memᴰ a as' × Memᴰ v a.variables
unfolding variables_of
variables_of_mem as' m = collect_mem (λ (a : Atom). a.variables) as' m

pub universal_mem : (r : Rule) {v : ℕ} → Memᴰ v (universal r) → in_body r v ≡ true
unfolding universal
universal_mem r m = (keep_mem (in_body r) names m).1

pub universal_name : (r : Rule) {v : ℕ} → Memᴰ v (universal r) → Memᴰ v names
unfolding universal
universal_name r m = (keep_mem (in_body r) names m).0

pub mem_universal : (r : Rule) {v : ℕ} → v ≤ 7 → in_body r v ≡ true → Memᴰ v (universal r)
unfolding universal
mem_universal r {v} h e = mem_keep (in_body r) (mem_names v h) e

pub universal_distinct : (r : Rule) → Distinct (universal r)
unfolding universal
universal_distinct r = keep_distinct (in_body r) names_distinct

abbrev in_head : Rule → ℕ → Bool
in_head r v = any (λ (d : List Atom). member v (variables_of d)) r.head

pub frontier_mem : (r : Rule) {v : ℕ} → Memᴰ v (frontier r) → Memᴰ v (universal r)
unfolding frontier universal
frontier_mem r {v} m =
    let (k, e) = keep_mem (λ (v : ℕ). in_body r v && in_head r v) names m in
    mem_keep (in_body r) k (and_true (in_body r v) (in_head r v) e).0

pub mem_frontier : (r : Rule) {v : ℕ} {d : List Atom} → Memᴰ v (universal r) → Memᴰ d r.head → Memᴰ v (variables_of d)
    → Memᴰ v (frontier r)
unfolding frontier universal
mem_frontier r {v} {d} m k n =
    let (i, e) = keep_mem (in_body r) names m in
    mem_keep (λ (v : ℕ). in_body r v && in_head r v) i
    (true_and (in_body r v) (in_head r v) e (mem_any (λ (d : List Atom). member v (variables_of d)) k (mem_member n)))

pub frontier_distinct : (r : Rule) → Distinct (frontier r)
unfolding frontier
frontier_distinct r = keep_distinct (λ (v : ℕ). in_body r v && in_head r v) names_distinct

pub frontier_few : (r : Rule) → length (frontier r) ≤ 8
unfolding frontier
frontier_few r = length_keep (λ (v : ℕ). in_body r v && in_head r v) names

pub existential_mem : (r : Rule) (d : List Atom) {v : ℕ} → Memᴰ v (existential r d) → Memᴰ v (variables_of d) × (in_body r v ≡ false)
unfolding existential
existential_mem r d {v} m =
    let (k, e) = keep_mem (λ (v : ℕ). member v (variables_of d) && not (in_body r v)) names m in
    let (i, j) = and_true (member v (variables_of d)) (not (in_body r v)) e in
    (member_mem v (variables_of d) i, not-true (in_body r v) j)

pub existential_small : (r : Rule) (d : List Atom) {v : ℕ} → Memᴰ v (existential r d) → v ≤ 7
unfolding existential
existential_small r d m = names_mem (keep_mem (λ (v : ℕ). member v (variables_of d) && not (in_body r v)) names m).0

pub mem_existential : (r : Rule) (d : List Atom) {v : ℕ} → v ≤ 7 → Memᴰ v (variables_of d) → in_body r v ≡ false → Memᴰ v (existential r d)
unfolding existential
mem_existential r d {v} h m e =
    mem_keep (λ (v : ℕ). member v (variables_of d) && not (in_body r v)) (mem_names v h)
    (true_and (member v (variables_of d)) (not (in_body r v)) (mem_member m) (rw e))

pub existential_distinct : (r : Rule) (d : List Atom) → Distinct (existential r d)
unfolding existential
existential_distinct r d = keep_distinct (λ (v : ℕ). member v (variables_of d) && not (in_body r v)) names_distinct

pub existential_few : (r : Rule) (d : List Atom) → length (existential r d) ≤ 8
unfolding existential
existential_few r d = length_keep (λ (v : ℕ). member v (variables_of d) && not (in_body r v)) names

-- entries and their disjuncts come from the rules

pub disjuncts_from_mem : (n : ℕ) (r : Rule) (ds : List (List Atom)) {d : Disjunct} → Memᴰ d (disjuncts_from n r ds)
    → (d.rule ≡ r) × Memᴰ d.atoms ds
unfolding disjuncts_from
disjuncts_from_mem n r [] m = absurd (Memᴰ.not-nil m)
disjuncts_from_mem n r (a ∷ as') {d} m = go (λ k. disjuncts_from_mem (n + length (existential r a)) r as' k) (Memᴰ.cases_cons m)
  where
    go : (Memᴰ d (disjuncts_from (n + length (existential r a)) r as') → (d.rule ≡ r) × Memᴰ d.atoms as')
        → (d ≡ record { rule = r; atoms = a; before = n }) ⊎ Memᴰ d (disjuncts_from (n + length (existential r a)) r as')
        → (d.rule ≡ r) × Memᴰ d.atoms (a ∷ as')
    go below (inl e) = (ap (λ (x : Disjunct). x.rule) e, Memᴰ.head (ap (λ (x : Disjunct). x.atoms) e))
    go below (inr k) = let (i, j) = below k in (i, Memᴰ.tail j)

-- what is known of an entry of a rule set
pub record Entered (rs : List Rule) (e : Entry) : Type 0 where
  pub rule : Memᴰ e.rule rs
  pub disjuncts : (d : Disjunct) → Memᴰ d e.disjuncts → (d.rule ≡ e.rule) × Memᴰ d.atoms e.rule.head

pub entries_from_mem : (n : ℕ) (rs : List Rule) {e : Entry} → Memᴰ e (entries_from n rs) → Entered rs e
unfolding entries_from
entries_from_mem n [] m = absurd (Memᴰ.not-nil m)
entries_from_mem n (r ∷ rs) {e} m = go (λ k. entries_from_mem (n + count_skolem r r.head) rs k) (Memᴰ.cases_cons m)
  where
    first : Entry
    first = record { rule = r; disjuncts = disjuncts_from n r r.head }

    go : (Memᴰ e (entries_from (n + count_skolem r r.head) rs) → Entered rs e) → (e ≡ first) ⊎ Memᴰ e (entries_from (n + count_skolem r r.head) rs)
        → Entered (r ∷ rs) e
    go below (inl k) =
        subst (λ (x : Entry). Entered (r ∷ rs) x) (sym k) (record { rule = Memᴰ.head refl; disjuncts = λ d i. disjuncts_from_mem n r r.head i })
    go below (inr k) = let h = below k in record { rule = Memᴰ.tail h.rule; disjuncts = h.disjuncts }

pub entries_mem : (b : RuleSet) {e : Entry} → Memᴰ e (entries b) → Entered b.rules e
unfolding entries
entries_mem b m = entries_from_mem 0 b.rules m

-- an entry for each rule, and in it a disjunct for each of the rule's

pub length_disjuncts_from : (n : ℕ) (r : Rule) (ds : List (List Atom)) → length (disjuncts_from n r ds) ≡ length ds
unfolding disjuncts_from
length_disjuncts_from n r [] = refl
length_disjuncts_from n r (d ∷ ds) = ap suc (length_disjuncts_from (n + length (existential r d)) r ds)

pub length_entries_from : (n : ℕ) (rs : List Rule) → length (entries_from n rs) ≡ length rs
unfolding entries_from
length_entries_from n [] = refl
length_entries_from n (r ∷ rs) = ap suc (length_entries_from (n + count_skolem r r.head) rs)

entries_from_disjuncts : (n : ℕ) (rs : List Rule) {e : Entry} → Memᴰ e (entries_from n rs) → length e.disjuncts ≡ length e.rule.head
unfolding entries_from
entries_from_disjuncts n [] m = absurd (Memᴰ.not-nil m)
entries_from_disjuncts n (r ∷ rs) {e} m = go (λ k. entries_from_disjuncts (n + count_skolem r r.head) rs k) (Memᴰ.cases_cons m)
  where
    first : Entry
    first = record { rule = r; disjuncts = disjuncts_from n r r.head }

    go : (Memᴰ e (entries_from (n + count_skolem r r.head) rs) → length e.disjuncts ≡ length e.rule.head)
        → (e ≡ first) ⊎ Memᴰ e (entries_from (n + count_skolem r r.head) rs) → length e.disjuncts ≡ length e.rule.head
    go below (inl k) = subst (λ (x : Entry). length x.disjuncts ≡ length x.rule.head) (sym k) (length_disjuncts_from n r r.head)
    go below (inr k) = below k

pub length_disjuncts : (b : RuleSet) {e : Entry} → Memᴰ e (entries b) → length e.disjuncts ≡ length e.rule.head
unfolding entries
length_disjuncts b m = entries_from_disjuncts 0 b.rules m

-- blockable rules are no Datalog rules
pub blockable_not_datalog : (r : Rule) → blockable r ≡ true → datalog r ≡ false
unfolding blockable datalog
blockable_not_datalog r h =
    let k = ltb-true 1 (length r.head) (and_true (ltb 1 (length r.head)) (any (existential_free r) r.head) h).0 in
    is_false (datalog r)
    (λ d. let n = eqb-true (length r.head) 1 (and_true (eqb (length r.head) 1) (all (existential_free r) r.head) d).0 in omega arith)

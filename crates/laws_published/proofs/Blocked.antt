-- Within the limit of 1,024 facts the test set is the published closure, and the computed blocking test the published notion. Assumes nothing.
use mathlib.Core.Path.{◌≡◌, refl, sym, ◌∙◌, subst}
use mathlib.Core.Bool.{Bool, true, false}
use mathlib.Core.Logic.{◌↔◌, ⊎_elim}
use mathlib.Core.List.{List, Memᴰ}
use Prim.Native.Nat.{ℕ, ◌≤◌}
use lib.Dec.{ltb}
use lib.ListN.{length}
use Rattle.model.specs.Lists.{all, any}
use Rattle.model.specs.Term.{Term}
use Rattle.model.specs.Rules.{Rule, RuleSet, Disjunct, Entry, entries, universal, datalog, blockable}
use Rattle.model.specs.Triggers.{Fact, present, assign, head_facts}
use Rattle.model.specs.Blocking.{renamed, test_base, test_set, blocked}
use Rattle.model.specs.Published.{Substitution, Apart, Closed, TestBase, Blocks, Blocked}
use Rattle.laws.proofs.Bools.{case, not_both}
use Rattle.laws.proofs.Lists.{any_mem, mem_any, all_mem, mem_all}
use Rattle.laws.proofs.Facts.{present_mem, mem_present}
use Rattle.laws.proofs.Prefixes.{prefix_mem}
use Rattle.laws.proofs.Rules.{blockable_not_datalog}
use Rattle.laws_stages.proofs.Rounds.{test_set_begins, test_set_closes}
use Rattle.laws_published.proofs.Renaming.{renamed_is_published}
use Rattle.laws_published.proofs.TestBase.{test_base_is_published}
use Rattle.laws_published.proofs.Closure.{saturate_sound, closed_within}

-- the substitution of a trigger whose terms are renamed apart
abbrev pub apartly : Rule → List Term → ℕ → Term
apartly r m = assign (universal r) (renamed (universal r) m)

-- some disjunct, renamed apart, is wholly in a set
abbrev pub holds_disjunct : List Fact → Entry → List Term → Bool
holds_disjunct fs e m = any (λ (d : Disjunct). all (present fs) (head_facts (apartly e.rule m) d)) e.disjuncts

pub blocked_unblockable : (es : List Entry) (e : Entry) (m : List Term) → blockable e.rule ≡ false → blocked es e m ≡ false
unfolding blocked
blocked_unblockable es e m h = rw (h, blocked)

pub blocked_blockable : (es : List Entry) (e : Entry) (m : List Term) → blockable e.rule ≡ true → blocked es e m ≡ holds_disjunct (test_set es e.rule m) e m
unfolding blocked
blocked_blockable es e m h = rw (h, blocked)

-- a rule that may be blocked is not Datalog
pub blocks_not_datalog : (newer : Bool) (r : Rule) → Blocks newer r → datalog r ≡ false
blocks_not_datalog true r h = blockable_not_datalog r h
blocks_not_datalog false r h = h

only_blockable : (es : List Entry) (e : Entry) (m : List Term) → blocked es e m ≡ true → blockable e.rule ≡ true
only_blockable es e m h =
    ⊎_elim (λ (i : blockable e.rule ≡ true). i) (λ (i : blockable e.rule ≡ false). not_both (blocked es e m) h (blocked_unblockable es e m i)) (case (blockable e.rule))

module _ (b : RuleSet) where
  module _ (r : Rule) (m u : List Term) (sub : Substitution r m) (a : Apart r m u) where
    base_is_published : (g : Fact) → Memᴰ g (test_base (entries b) r (renamed (universal r) m)) ↔ TestBase b r (assign (universal r) u) g
    base_is_published g = rw ((renamed_is_published r m sub u).1 a) (test_base_is_published b r u a.total g)

    test_set_sound : {f : Fact} → Memᴰ f (test_set (entries b) r m) → Closed b (TestBase b r (assign (universal r) u)) f
    unfolding test_set
    test_set_sound k =
        saturate_sound b (TestBase b r (assign (universal r) u)) 1025 (test_base (entries b) r (renamed (universal r) m)) (λ g i. (base_is_published g).0 i) k

    test_set_complete : {f : Fact} → length (test_set (entries b) r m) ≤ 1024 → Closed b (TestBase b r (assign (universal r) u)) f
        → Memᴰ f (test_set (entries b) r m)
    test_set_complete h c =
        closed_within b (TestBase b r (assign (universal r) u)) (test_set (entries b) r m) (test_set_closes (entries b) r m h)
        (λ g i. prefix_mem (test_set_begins (entries b) r m) ((base_is_published g).1 i)) c

    -- u stands for θ_u: there is one, and no other
    pub test_set_is_closure : (f : Fact) → length (test_set (entries b) r m) ≤ 1024
        → Memᴰ f (test_set (entries b) r m) ↔ Closed b (TestBase b r (assign (universal r) u)) f
    test_set_is_closure f h = (test_set_sound, test_set_complete h)

  module _ (e : Entry) (m : List Term) (sub : Substitution e.rule m) where
    abbrev s : List Fact
    s = test_set (entries b) e.rule m

    may : (newer : Bool) → blockable e.rule ≡ true → Blocks newer e.rule
    may true n = n
    may false n = blockable_not_datalog e.rule n

    pub blocked_sound : blocked (entries b) e m ≡ true → Blocked b e m
    blocked_sound h =
        let n = only_blockable (entries b) e m h in
        let u = renamed (universal e.rule) m in
        let a = (renamed_is_published e.rule m sub u).0 refl in
        let (d, k, i) = any_mem (λ (d : Disjunct). all (present s) (head_facts (apartly e.rule m) d)) e.disjuncts (sym (blocked_blockable (entries b) e m n) ∙ h) in
        (u, a, (may (ltb 2 b.version) n, d, k, λ f j. test_set_sound e.rule m u sub a (present_mem s f (all_mem (present s) i j))))

    pub blocked_complete : blockable e.rule ≡ true → length (test_set (entries b) e.rule m) ≤ 1024 → Blocked b e m → blocked (entries b) e m ≡ true
    blocked_complete j h (u, a, (n, d, k, c)) =
        let q = (renamed_is_published e.rule m sub u).1 a in
        blocked_blockable (entries b) e m j
        ∙ mem_any (λ (d : Disjunct). all (present s) (head_facts (apartly e.rule m) d)) k
        (mem_all (present s) (head_facts (apartly e.rule m) d)
        (λ f i. mem_present (test_set_complete e.rule m u sub a h (c f (subst (λ (x : List Term). Memᴰ f (head_facts (assign (universal e.rule) x) d)) q i)))))

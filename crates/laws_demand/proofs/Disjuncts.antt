-- An entry of a Datalog rule has one disjunct. Assumes nothing.
use mathlib.Core.Path.{◌≡◌, refl, sym, ◌∙◌}
use mathlib.Core.Bool.{true}
use mathlib.Core.List.Memᴰ
use mathlib.Core.List.{List, [], ◌∷◌, Memᴰ}
use Prim.Native.Nat.{◌≤◌}
use native.Mathlib.Omega.{arith}
use lib.Dec.{eqb}
use lib.ListN.{length}
use borrow.Author.Tests.{eqb-true}
use Rattle.model.specs.Lists.{all}
use Rattle.model.specs.Rules.{RuleSet, Disjunct, Entry, existential_free, entries, datalog}
use Rattle.laws.proofs.Bools.{and_true}
use Rattle.laws.proofs.Rules.{length_disjuncts}

pub some_disjunct : (ds : List Disjunct) → 1 ≤ length ds → (c : Disjunct) × (cs : List Disjunct) × (ds ≡ c ∷ cs)
some_disjunct [] h = absurd (omega arith)
some_disjunct (d ∷ ds) h = (d, ds, refl)

only : {c d : Disjunct} (ds : List Disjunct) → length ds ≡ 1 → Memᴰ c ds → Memᴰ d ds → c ≡ d
only [] h i j = absurd (Memᴰ.not-nil i)
only (x ∷ []) h i j = Memᴰ.eq_of_singleton i ∙ sym (Memᴰ.eq_of_singleton j)
only (x ∷ (y ∷ ds)) h i j = absurd (omega arith)

-- a Datalog rule has one disjunct
pub datalog_only : (b : RuleSet) {e : Entry} → Memᴰ e (entries b) → datalog e.rule ≡ true → {c d : Disjunct} → Memᴰ c e.disjuncts
    → Memᴰ d e.disjuncts → c ≡ d
unfolding datalog
datalog_only b {e} m h i j =
    only e.disjuncts
    (length_disjuncts b m ∙ eqb-true (length e.rule.head) 1 (and_true (eqb (length e.rule.head) 1) (all (existential_free e.rule) e.rule.head) h).0)
    i j

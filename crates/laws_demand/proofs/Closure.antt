-- A map that commutes with Skolem functions and takes a base into a set on which no Datalog rule fits takes the closure of the base into it
-- (004, Lemma 23). Assumes nothing.
use mathlib.Core.Path.{◌≡◌, sym, subst}
use mathlib.Core.Bool.{true}
use mathlib.Core.List.Memᴰ
use mathlib.Core.List.{List, Memᴰ}
use Prim.Native.Nat.{ℕ}
use Rattle.model.specs.Term.{Term}
use Rattle.model.specs.Rules.{RuleSet, Disjunct, Entry, entries, universal, datalog}
use Rattle.model.specs.WellFormed.{WellFormed}
use Rattle.model.specs.Triggers.{Fact, assign, head_facts}
use Rattle.model.specs.Published.{Closed, given, derived}
use Rattle.model.specs.Chase.{datalog_done}
use Rattle.laws.proofs.Triggers.{Loaded, output_mem}
use Rattle.laws_demand.proofs.Maps.{map_fact, Commutes, map_instantiate, mem_map_head_facts}
use Rattle.laws_demand.proofs.Loaded.{satisfied_mem}
use Rattle.laws_demand.proofs.Disjuncts.{datalog_only}
use Rattle.laws_demand.proofs.DatalogDone.{datalog_done_satisfied}

module _ {b : RuleSet} (w : WellFormed b) (fs : List Fact) (done : datalog_done (entries b) fs ≡ true) where
  -- no Datalog rule has more to add
  pub datalog_present : {e : Entry} → Memᴰ e (entries b) → datalog e.rule ≡ true → (σ : ℕ → Term) → Loaded e.rule fs σ → {d : Disjunct}
      → Memᴰ d e.disjuncts → {f : Fact} → Memᴰ f (head_facts σ d) → Memᴰ f fs
  datalog_present {e} m g σ l {d} i {f} k =
      let (c, j, s) = satisfied_mem fs σ e.disjuncts (datalog_done_satisfied w fs done m g σ l) in
      s f (subst (λ (x : Disjunct). Memᴰ f (head_facts σ x)) (datalog_only b m g i j) k)

  module _ (h : Term → Term) (c : Commutes h) {base : Fact → Type 0} (start : (f : Fact) → base f → Memᴰ (map_fact h f) fs) where
    pub closed_map : {f : Fact} → Closed b base f → Memᴰ (map_fact h f) fs
    closed_map {f} (given m) = start f m
    closed_map {f} (derived e m i g s k o) =
        let σ : ℕ → Term = assign (universal e.rule) m in
        let (d, j, n) = output_mem σ e.disjuncts o in
        datalog_present i g (λ (v : ℕ). h (σ v)) (λ a p. Memᴰ.cast (sym (map_instantiate h c σ a)) (closed_map (k a p))) j (mem_map_head_facts h c σ d n)

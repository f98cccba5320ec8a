-- Demand 3 over the definitions: the facts of the stage that the verdict accepts bound every filling. Assumes nothing.
use mathlib.Core.Path.{◌≡◌}
use mathlib.Core.Bool.{false}
use mathlib.Core.List.{List, Memᴰ}
use Prim.Native.Nat.{ℕ}
use native.Mathlib.Omega.{arith}
use Rattle.model.specs.Lists.{any}
use Rattle.model.specs.Term.{cyclic}
use Rattle.model.specs.Rules.{RuleSet, entries}
use Rattle.model.specs.WellFormed.{WellFormed}
use Rattle.model.specs.Triggers.{Fact}
use Rattle.model.specs.Stages.{stage, verdict, accepted}
use Rattle.model.specs.Demand.{Demand3}
use Rattle.laws.proofs.Lists.{false_any}
use Rattle.laws.proofs.Prefixes.{prefix_mem}
use Rattle.laws_stages.proofs.Outputs.{mem_outputs}
use Rattle.laws_stages.proofs.Growth.{stage_zero_facts, facts_grow}
use Rattle.laws_stages.specs.Says.{Accepted}
use Rattle.laws_stages.proofs.Verdict.{accepted_says, accepted_closed}
use Rattle.laws_published.proofs.Dmfa.{stage_acyclic, mem_triggers_in}
use Rattle.laws_chase.proofs.Steps.{steps_bounded}
use Rattle.laws_demand.proofs.Covered.{Saturated, chase_covered, covered_acyclic}

pub accepted_saturated : {d : ℕ} {b : RuleSet} {n f t : ℕ} → Accepted d b n f t → Saturated b (stage b n).facts
accepted_saturated {d} {b} {n} a =
    record {
      critical = λ g m. prefix_mem (facts_grow b 0 n (omega arith)) (rw (stage_zero_facts b) m);
      outputs = λ e m i s l free g k.
          accepted_closed b a g
          (mem_outputs (entries b) (stage b n) (record { entry = e; terms = m; known = i; trigger = mem_triggers_in b n e m s l; free = free; fact = k }));
    }

pub accepted_acyclic : {d : ℕ} {b : RuleSet} {n f t : ℕ} → Accepted d b n f t → (g : Fact) → Memᴰ g (stage b n).facts → any (cyclic d) g.arguments ≡ false
accepted_acyclic {d} {b} {n} a g m = false_any (cyclic d) g.arguments (λ u k. stage_acyclic d b n (λ j h. (a.reached.passed j h).acyclic) g m u k)

-- every list that no stage adds to bounds every filling, at a depth at which it has no cyclic term
pub saturated_bounds : (d : ℕ) {b : RuleSet} → WellFormed b → {listed : List Fact} → Saturated b listed
    → ((g : Fact) → Memᴰ g listed → any (cyclic d) g.arguments ≡ false) → Demand3 d b listed
saturated_bounds d {b} w {listed} z acyclic instance' over attempts =
    let c = chase_covered w z instance' over attempts in
    record {
      acyclic = λ f m. covered_acyclic d acyclic f (c f m);
      covered = c;
      steps = steps_bounded b listed instance' over attempts c;
    }

pub demand_3 : (d : ℕ) {b : RuleSet} → WellFormed b → {n f t : ℕ} → verdict d b ≡ accepted n f t → Demand3 d b (stage b n).facts
demand_3 d {b} w h = let a = accepted_says d b w h in saturated_bounds d w (accepted_saturated a) (accepted_acyclic a)

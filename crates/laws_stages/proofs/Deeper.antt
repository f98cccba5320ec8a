-- A rule set that is accepted at one depth is accepted at each greater one, at the same stage with the same counts (document 02, C-14).
-- Assumes nothing.
use mathlib.Core.Path.{◌≡◌}
use mathlib.Core.List.Memᴰ
use mathlib.Core.List.{[]}
use Prim.Native.Nat.{ℕ, ◌≤◌}
use Rattle.model.specs.Term.{cyclic}
use Rattle.model.specs.Rules.{RuleSet, entries}
use Rattle.model.specs.WellFormed.{WellFormed}
use Rattle.model.specs.Triggers.{terms_of}
use Rattle.model.specs.Stages.{stage, outputs, cyclic_terms, accepted, verdict}
use Rattle.laws.proofs.Bools.{is_false}
use Rattle.laws.proofs.Lists.{mem_keep, keep_nothing}
use Rattle.laws.proofs.Nesting.{cyclic_less}
use Rattle.laws_stages.specs.Reached.{Passed, Reached}
use Rattle.laws_stages.specs.Says.{Accepted}
use Rattle.laws_stages.proofs.Verdict.{accepted_says, accepted_verdict}

module _ (d e : ℕ) (h : d ≤ e) (b : RuleSet) where
  cyclic_terms_deeper : (n : ℕ) → cyclic_terms d (entries b) (stage b n) ≡ [] → cyclic_terms e (entries b) (stage b n) ≡ []
  unfolding cyclic_terms
  cyclic_terms_deeper n k =
      keep_nothing (cyclic e) (terms_of (outputs (entries b) (stage b n)))
      (λ t m. is_false (cyclic e t) (λ i. Memᴰ.not-nil (rw k at (mem_keep (cyclic d) m (cyclic_less d e h t i)))))

  passed_deeper : (n : ℕ) → Passed d b n → Passed e b n
  passed_deeper n p =
      record { small = p.small; few = p.few; acyclic = cyclic_terms_deeper n p.acyclic; facts = p.facts; terms = p.terms }

  pub reached_deeper : (n : ℕ) → Reached d b n → Reached e b n
  reached_deeper n r = record { begins = r.begins; passed = λ j i. passed_deeper j (r.passed j i); grew = r.grew }

  accepted_stage : {n f t : ℕ} → Accepted d b n f t → Accepted e b n f t
  accepted_stage {n} a =
      record { reached = reached_deeper n a.reached; last = passed_deeper n a.last; still = a.still; facts = a.facts; terms = a.terms }

  pub accepted_deeper : WellFormed b → {n f t : ℕ} → verdict d b ≡ accepted n f t → verdict e b ≡ accepted n f t
  accepted_deeper w k = accepted_verdict e b w (accepted_stage (accepted_says d b w k))

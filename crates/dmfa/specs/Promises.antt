-- What `check` promises whoever calls it: demands 1, 2 and 3 (document 01), in terms of the answer and of the two tables as the call left them.
-- Nothing of the contract's equation is lost: `promised` and `promised_whole` (proofs/Promises) lead from one to the other and back.
-- Assumes nothing.
use Rattle.std.specs.Prelude.{◌≡◌, true, false, ◌↔◌, ◌⊎◌, ℕ, suc, ◌≤◌, length, take, drop}
use mathlib.Core.List.{List, [], ◌∷◌, ◌++◌, Memᴰ}
use Rattle.model.specs.Lists.{collect, keep}
use Rattle.model.specs.Term.{Term, star, cyclic}
use Rattle.model.specs.Rules.{RuleSet}
use Rattle.model.specs.Format.{good, bad, read}
use Rattle.model.specs.Triggers.{Fact}
use Rattle.model.specs.Stages.{Stage, stage, accepted, cyclic_at, refused}
use Rattle.model.specs.Limits.{terms_front, facts_front}
use Rattle.model.specs.Tables.{checked, fronted, term_row, fact_row}
use Rattle.model.specs.Spelled.{term_at, spelled_terms, spelled_facts}
use Rattle.model.specs.Published.{Dmfa}
use Rattle.model.specs.Demand.{Demand3}
use Rattle.laws.specs.Lists.{Distinct}
use Rattle.laws_stages.specs.Says.{Says}
use Rattle.laws_tables.specs.Lent.{Fronts, Short, Depth, Early, Late}
use Rattle.judging.specs.Verdict.{meant}
use Rattle.judging.specs.declared.verdict.Verdict.{Verdict}

-- the contract: what `check` answers and leaves, given bytes, a depth and two tables
abbrev pub Checks : ℕ → List ℕ → List ℕ → List ℕ → Verdict → List ℕ → List ℕ → Type 0
Checks depth bytes terms₀ facts₀ r terms facts = checked depth bytes terms₀ facts₀ ≡ record { verdict = meant r; terms = terms; facts = facts }

-- the terms and facts that the tables spell out, and the term behind them
abbrev pub listed_terms : ℕ → List ℕ → List Term
listed_terms t terms = spelled_terms (λ j. star) t t terms 0

abbrev pub listed : RuleSet → ℕ → ℕ → List ℕ → List ℕ → List Fact
listed b f t terms facts = spelled_facts b.arities (λ j. star) t f terms facts 0

abbrev pub shown : ℕ → List ℕ → Term
shown t terms = term_at (λ j. star) (suc t) terms t

-- demand 1: which input is refused by which number, and what a refusal leaves behind
pub record Demand1 (depth : ℕ) (bytes terms₀ facts₀ : List ℕ) (r : Verdict) (terms facts : List ℕ) : Type 0 where
  -- refusal 1 exactly if a table is short
  pub short : (p : ℕ) → (meant r ≡ refused 1 p) ↔ ((p ≡ 0) × Short terms₀ facts₀)
  -- then refusal 18 exactly if the number is no depth
  pub shallow : (p : ℕ) → (meant r ≡ refused 18 p) ↔ ((p ≡ 0) × Fronts terms₀ facts₀ × (Depth depth → ⊥))
  -- then refusals 2 to 10 exactly as reading the bytes gives them
  pub faulty : (n p : ℕ) → 2 ≤ n → n ≤ 10 → (meant r ≡ refused n p) ↔ (Fronts terms₀ facts₀ × Depth depth × (read bytes ≡ bad n p))
  -- there are no other numbers
  pub numbered : (n p : ℕ) → meant r ≡ refused n p → Early n ⊎ Late n
  -- refusals 1 to 10 and 18 change nothing, 11 to 14 leave zeros in the front parts
  pub untouched : (n p : ℕ) → meant r ≡ refused n p → Early n → (terms ≡ terms₀) × (facts ≡ facts₀)
  pub zeroed : (n p : ℕ) → meant r ≡ refused n p → Late n → (terms ≡ fronted terms_front [] terms₀) × (facts ≡ fronted facts_front [] facts₀)
  -- nothing beyond the front parts ever changes
  pub beyond : (drop terms_front terms ≡ drop terms_front terms₀) × (drop facts_front facts ≡ drop facts_front facts₀)
  pub lengths : (length terms ≡ length terms₀) × (length facts ≡ length facts₀)

-- The tables hold a stage of f facts and t terms, and the records of some terms more: records first, zeros behind them. What they spell out
-- is the stage, each term and each fact once.
pub record HoldsStage (b : RuleSet) (s : Stage) (more : List Term) (f t : ℕ) (terms₀ facts₀ terms facts : List ℕ) : Type 0 where
  pub term_records_is : terms ≡ fronted terms_front (collect (term_row s.terms) (s.terms ++ more)) terms₀
  pub fact_records_is : facts ≡ fronted facts_front (collect (fact_row s.terms) s.facts) facts₀
  pub terms_spelled : listed_terms t terms ≡ s.terms
  pub facts_spelled : listed b f t terms facts ≡ s.facts
  pub terms_once : Distinct (listed_terms t terms)
  pub facts_once_is : Distinct (listed b f t terms facts)

-- The shown term is cyclic at this depth, an argument of a fact of stage n + 1, which DMFA(R) has, and the first cyclic one among that stage's terms; no
-- stage up to n holds a cyclic term.
pub record Shown (depth : ℕ) (b : RuleSet) (n : ℕ) (u : Term) : Type 0 where
  pub loops : cyclic depth u ≡ true
  pub fact : Fact
  pub known : Memᴰ fact (stage b (suc n)).facts
  pub reached : Dmfa b fact
  pub argument : Memᴰ u fact.arguments
  pub first : take 1 (keep (cyclic depth) (stage b (suc n)).terms) ≡ u ∷ []
  pub earlier : (j : ℕ) → j ≤ n → (v : Term) → Memᴰ v (stage b j).terms → cyclic depth v ≡ false

-- demand 2, of a rule set that was read, with "cyclic" at this depth
pub record Demand2 (depth : ℕ) (b : RuleSet) (terms₀ facts₀ : List ℕ) (r : Verdict) (terms facts : List ℕ) : Type 0 where
  -- the answer is what the stages say, in document 01's order: the stage, the counts, and why a refusal is deserved
  pub says : Says depth b (meant r)
  -- accepted: the tables hold that stage, its facts are exactly DMFA(R), and none of these holds a cyclic term
  pub saturated : (n f t : ℕ) → meant r ≡ accepted n f t → HoldsStage b (stage b n) [] f t terms₀ facts₀ terms facts
  pub least : (n f t : ℕ) → meant r ≡ accepted n f t → (g : Fact) → Memᴰ g (listed b f t terms facts) ↔ Dmfa b g
  pub acyclic : (n f t : ℕ) → meant r ≡ accepted n f t → (g : Fact) → Dmfa b g → (u : Term) → Memᴰ u g.arguments → cyclic depth u ≡ false
  -- cyclic: the tables hold the stage before, and the shown term behind its terms
  pub last : (n f t : ℕ) → meant r ≡ cyclic_at (suc n) f t → HoldsStage b (stage b n) (shown t terms ∷ []) f t terms₀ facts₀ terms facts
  pub shows : (n f t : ℕ) → meant r ≡ cyclic_at (suc n) f t → Shown depth b n (shown t terms)

-- all three, for every input
pub record Promised (depth : ℕ) (bytes terms₀ facts₀ : List ℕ) (r : Verdict) (terms facts : List ℕ) : Type 0 where
  pub demand1 : Demand1 depth bytes terms₀ facts₀ r terms facts
  -- an answer that is none of refusals 1 to 10 and 18 is about a rule set that was read
  pub parsed : ((n p : ℕ) → Early n → meant r ≡ refused n p → ⊥) → Fronts terms₀ facts₀ × Depth depth × ((b : RuleSet) × (i : ℕ) × (read bytes ≡ good b i))
  pub demand2 : (b : RuleSet) (i : ℕ) → Fronts terms₀ facts₀ → Depth depth → read bytes ≡ good b i → Demand2 depth b terms₀ facts₀ r terms facts
  pub demand3 : (b : RuleSet) (i n f t : ℕ) → read bytes ≡ good b i → meant r ≡ accepted n f t → Demand3 depth b (listed b f t terms facts)

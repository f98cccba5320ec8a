-- Tables whose records the text can show: rows within the tables, and arities that a row has room for. Assumes nothing.
use Rattle.std.specs.Prelude.{List, ℕ, suc, ◌+◌, ◌*◌, ◌≤◌, ◌<◌, length, get_or}
use Rattle.judging.specs.declared.verdict.Verdict.{Verdict}
use Rattle.judging.specs.declared.verdict.Verdict.TheVariants.{Accepted, Cyclic, Refused}

-- the first t rows of a table of terms
pub record LegibleTerms (terms : List ℕ) (t : ℕ) : Type 0 where
  pub within : t * 10 ≤ length terms
  pub arity : (i : ℕ) → i < t → get_or terms (i * 10 + 1) 0 ≤ 8

-- the first f rows of a table of facts
pub record LegibleFacts (arities facts : List ℕ) (f : ℕ) : Type 0 where
  pub within : f * 5 ≤ length facts
  pub predicate : (i : ℕ) → i < f → get_or facts (i * 5) 0 < length arities
  pub arity : (i : ℕ) → i < f → get_or arities (get_or facts (i * 5) 0) 0 ≤ 4

-- all rows that the text of an answer shows: behind those of a cyclic answer comes one term more
abbrev pub Legible : List ℕ → Verdict → List ℕ → List ℕ → Type 0
Legible arities (Accepted n f t) terms facts = LegibleTerms terms t × LegibleFacts arities facts f
Legible arities (Cyclic n f t) terms facts = LegibleTerms terms (suc t) × LegibleFacts arities facts f
Legible arities (Refused n p) terms facts = Unit {0}

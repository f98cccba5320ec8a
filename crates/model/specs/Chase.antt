-- One branch of the disjunctive Skolem chase (document 01, "Filling"; 001, Definition 2), as a total function on a state and a list of
-- attempts. Assumes nothing.
use Rattle.std.specs.Prelude.{List, [], ◌∷◌, Bool, true, false, ◌&&◌, ◌||◌, not, ℕ, suc, get_or, drop}
use Rattle.model.specs.Lists.{all, any, extend}
use Rattle.model.specs.Term.{Term, star, same}
use Rattle.model.specs.Rules.{Atom, RuleSet, Disjunct, Entry, entries, universal, datalog}
use Rattle.model.specs.Triggers.{Fact, same_fact, present, terms_of, assign, instantiate, triggers, head_facts}

-- document 01: a try. A rule number, a term for each variable number, a disjunct number, freely picked. A variable whose term is missing
-- gets ⋆, which no filled set holds; further terms are ignored.
pub record Attempt : Type 0 where
  pub rule : ℕ
  pub terms : List Term
  pub disjunct : ℕ

pub record State : Type 0 where
  pub facts : List Fact
  pub steps : ℕ

-- some disjunct is wholly present (document 01): the trigger is obsolete
unfoldable pub satisfied : List Fact → (ℕ → Term) → List Disjunct → Bool
satisfied fs σ ds = any (λ (d : Disjunct). all (present fs) (head_facts σ d)) ds

-- document 01: the attempt fits. The terms are a trigger, and no disjunct is wholly present
unfoldable pub fits : List Fact → Entry → (ℕ → Term) → Bool
fits fs e σ = all (λ (a : Atom). present fs (instantiate σ a)) e.rule.body && not (satisfied fs σ e.disjuncts)

-- no trigger of a Datalog rule fits
unfoldable pub datalog_done : List Entry → List Fact → Bool
datalog_done es fs =
    all
    (λ (e : Entry). not (datalog e.rule)
    || all (λ (m : List Term). satisfied fs (assign (universal e.rule) m) e.disjuncts) (triggers e.rule (extend same [] (terms_of fs)) fs))
    es

-- what makes an attempt that names this rule a step: a rule that is not Datalog waits until no Datalog rule has a trigger that fits
unfoldable pub applicable : List Entry → List Fact → Entry → (ℕ → Term) → Bool
applicable es fs e σ = fits fs e σ && (datalog e.rule || datalog_done es fs)

-- the first of the disjuncts is added, if there is one
unfoldable pub add_disjunct : State → (ℕ → Term) → List Disjunct → State
add_disjunct s σ [] = s
add_disjunct s σ (d ∷ ds) = record { facts = extend same_fact s.facts (head_facts σ d); steps = suc s.steps }

-- the first of the entries is tried, if there is one
unfoldable pub try_entry : List Entry → Attempt → List Entry → State → State
try_entry es a [] s = s
try_entry es a (e ∷ _) s =
    let σ : ℕ → Term = λ v. get_or a.terms v star in
    elim (applicable es s.facts e σ) [ true ↦ add_disjunct s σ (drop a.disjunct e.disjuncts) | false ↦ s ]

-- a step, or the state as it was
unfoldable pub attempt : RuleSet → Attempt → State → State
attempt b a s = try_entry (entries b) a (drop a.rule (entries b)) s

unfoldable pub chase : RuleSet → List Attempt → State → State
chase b [] s = s
chase b (a ∷ as') s = chase b as' (attempt b a s)

-- a set of facts, each listed once, and a count of 0
unfoldable pub initial : List Fact → State
initial fs = record { facts = extend same_fact [] fs; steps = 0 }

-- The worked fillings, and demand 3's bound on River's accepted list, computed from the definitions that the claim uses. Assumes nothing.
use mathlib.Core.Path.{◌≡◌, refl}
use mathlib.Core.List.{List, [], ◌∷◌, map}
use native.Mathlib.Decide.{ℕ_discrete}
use Rattle.model.specs.Lists
use Rattle.model.specs.Term
use Rattle.model.specs.Term.{star, constant, fixed}
use Rattle.model.specs.Rules
use Rattle.model.specs.Format
use Rattle.model.specs.Format.{good, read}
use Rattle.model.specs.Triggers
use Rattle.model.specs.Triggers.{Fact}
use Rattle.model.specs.Blocking
use Rattle.model.specs.Stages
use Rattle.model.specs.Stages.{stage}
use Rattle.model.specs.Tables
use Rattle.model.specs.Tables.{Checked, checked}
use Rattle.model.specs.Spelled
use Rattle.model.specs.Spelled.{spelled_facts}
use Rattle.model.specs.Chase
use Rattle.model.specs.Demand
use Rattle.model.specs.Demand.{starred_fact, stars_of, constants, bound}
use Rattle.model.specs.Cases.{terms₀, facts₀, river_bytes}
use Rattle.model.specs.Examples.{Filling, outcome_of, counts_of, river, either, worked_fillings, river_listed}

-- River's bytes are the first of the two rule sets; and of each filling, the count after each attempt and the facts at the end.
pub fillings : (read river_bytes ≡ good river 37) × (map outcome_of worked_fillings ≡ map (λ (x : Filling). x.outcome) worked_fillings)
unfolding ℕ_discrete Lists.all Lists.any Lists.keep Lists.extend Lists.index Lists.collect Lists.member Term.same Term.is_fixed Term.list Term.terms Rules.wide Rules.most_predicates Rules.variables_of Rules.in_body Rules.universal Rules.frontier Rules.existential Rules.existential_free Rules.datalog Rules.repeated Rules.detached Rules.disjuncts_from Rules.count_skolem Rules.entries_from Rules.entries Format.and_then Format.byte Format.number Format.many Format.variable Format.atom Format.atoms Format.sound Format.rule Format.stated Format.whole Format.rule_set Format.read Triggers.same_all Triggers.same_fact Triggers.present Triggers.terms_of Triggers.assign Triggers.valued Triggers.instantiate Triggers.assignments Triggers.holds Triggers.triggers Triggers.head_term Triggers.head_facts Chase.satisfied Chase.fits Chase.datalog_done Chase.applicable Chase.add_disjunct Chase.try_entry Chase.attempt Chase.chase Chase.initial river_bytes worked_fillings outcome_of counts_of river either
fillings = (refl, refl)

-- the facts that the tables of `check` spell out for River, which has 5 facts over 2 terms
abbrev pub spelled : Checked → List Fact
spelled c = spelled_facts river.arities (λ j. star) 2 5 c.terms c.facts 0

-- River's accepted list, as a stage and as its tables spell it; k of each fact of it; and the bound for two constants.
pub river_bound :
    ((stage river 2).facts ≡ river_listed)
    × (spelled (checked 1 river_bytes terms₀ facts₀) ≡ river_listed)
    × (map (λ (f : Fact). stars_of f.arguments) river_listed ≡ 1 ∷ 2 ∷ 1 ∷ 2 ∷ 1 ∷ [])
    × (bound 2 river_listed ≡ 14)
    × (map (λ (x : Filling). constants x.instance') worked_fillings ≡ 2 ∷ 1 ∷ 1 ∷ 2 ∷ [])
unfolding ℕ_discrete Lists.all Lists.any Lists.keep Lists.extend Lists.index Lists.collect Lists.member Lists.padded Lists.row Term.same Term.is_fixed Term.list Term.terms Term.size Term.functions Term.meeting Term.nesting Term.cyclic Term.stars Rules.wide Rules.most_predicates Rules.variables_of Rules.in_body Rules.universal Rules.frontier Rules.existential Rules.existential_free Rules.datalog Rules.blockable Rules.repeated Rules.detached Rules.disjuncts_from Rules.count_skolem Rules.entries_from Rules.entries Rules.owns Format.and_then Format.byte Format.number Format.many Format.variable Format.atom Format.atoms Format.sound Format.rule Format.stated Format.whole Format.rule_set Format.read Triggers.same_all Triggers.same_fact Triggers.present Triggers.terms_of Triggers.assign Triggers.valued Triggers.instantiate Triggers.assignments Triggers.holds Triggers.triggers Triggers.head_term Triggers.head_facts Triggers.output Blocking.rename Blocking.renamed Blocking.template Blocking.origin Blocking.made Blocking.datalog_output Blocking.saturate Blocking.test_base Blocking.test_set Blocking.blocked Stages.fixed_from Stages.leaves Stages.tuples Stages.critical Stages.triggers_in Stages.contribution Stages.outputs Stages.grown Stages.stage Stages.cyclic_terms Stages.size_of Stages.too_large Stages.too_many Stages.judge Stages.verdict Tables.number Tables.term_row Tables.fact_row Tables.fronted Tables.recorded Tables.left Tables.is_depth Tables.checked Spelled.term_at Spelled.fact_at Spelled.spelled_facts Demand.stars_of Demand.constants Demand.bound river_bytes river river_listed worked_fillings
river_bound = (refl, refl, refl, refl, refl)

-- Rule constants (document 02, C-16): the image of a fact keeps them, and n does not count them.
pub named_constants :
    (starred_fact (record { predicate = 0; arguments = constant 4 ∷ fixed 0 ∷ [] }) ≡ record { predicate = 0; arguments = star ∷ fixed 0 ∷ [] })
    × (constants (record { predicate = 0; arguments = constant 4 ∷ fixed 0 ∷ [] } ∷ record { predicate = 0; arguments = fixed 1 ∷ constant 4 ∷ [] } ∷ []) ≡ 1)
unfolding ℕ_discrete Lists.any Lists.keep Lists.extend Lists.collect Term.same Term.is_fixed Term.starred Triggers.terms_of Demand.starred_fact Demand.constants
named_constants = (refl, refl)

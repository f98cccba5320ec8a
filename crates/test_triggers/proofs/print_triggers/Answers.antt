-- `test_triggers::print_triggers` is safe and ends: less is ahead each turn. Assumes nothing.
use mathlib.Core.Path.{sym, subst}
use mathlib.Core.List.{[], ◌∷◌}
use native.Mathlib.Omega.{arith}
use lib.ListN.{replicate}
use borrow.Author.Rules.{rules}
use Rattle.laws_triggers.specs.Match.{Body, Searchable}
use Rattle.laws_triggers.specs.Next.{after}
use Rattle.fact_index.proofs.Entering.{indexed_zeros}
use Rattle.cursor.specs.Plan.{body_of}
use Rattle.cursor.specs.Going.{told}
use Rattle.cursor.proofs.Plans.{planned_body}
use Rattle.test_triggers.proofs.Cases.{case_searchable}
use Rattle.test_triggers.proofs.print_triggers.Goals as goal
use Rattle.test_triggers.proofs.print_triggers.Goals.{After-plan_of_all-plan}

pub extend-requires : goal.extend-requires
extend-requires c = (indexed_zeros c.args.facts.now 3120 (omega arith), omega arith, record { few = omega arith; rows = c.requires.room; room = search rules })

pub plan_of_all-plan-requires : goal.plan_of_all-plan-requires
plan_of_all-plan-requires c = (case_searchable c.requires).body

-- the body by the plan can be searched
searchable : (p : After-plan_of_all-plan) → Searchable (body_of p.plan_of_all-plan.result) p.args.facts.now p.args.count p.args.terms
searchable p = subst (λ (b : Body). Searchable b p.args.facts.now p.args.count p.args.terms) (sym (planned_body p.plan_of_all-plan.ensures)) (case_searchable p.requires)

pub begin-walk-requires : goal.begin-walk-requires
begin-walk-requires c =
    record {
      searchable = searchable (goal.at.begin-walk-requires c).After-plan_of_all-plan;
      planned = c.plan_of_all-plan.ensures.planned;
      indexed = c.extend.ensures.0;
      apart = λ i h xs f g l. absurd (omega arith);
    }

pub loop-trigger-init : goal.loop-trigger-init
loop-trigger-init c =
    record {
      searchable = searchable (goal.at.loop-trigger-init c).After-plan_of_all-plan;
      planned = c.plan_of_all-plan.ensures.planned;
      indexed = c.extend.ensures.0;
      given = [];
      start = replicate 8 0;
      walking = c.begin-walk.ensures;
    }

pub loop-trigger-smaller : goal.loop-trigger-smaller
loop-trigger-smaller c = c.in-Some.ensures.steps.further.fewer

pub loop-trigger-preserved : goal.loop-trigger-preserved
loop-trigger-preserved c =
    let w = c.loop-trigger.invariant in
    record {
      searchable = w.searchable;
      planned = w.planned;
      indexed = w.indexed;
      given = told c.in-Some.trigger c.plan_of_all-plan.result.matters ∷ w.given;
      start = after c.in-Some.trigger;
      walking = record { four = c.next.ensures.four; walked = c.in-Some.ensures.steps.further.onward w.given w.start w.walking.walked };
    }

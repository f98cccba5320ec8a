-- `stage_large::large::any_large` meets its contract. The loop's invariant: what is left of the triggers decides, what agrees with one that was
-- given at the variables of its reason is not large, and the sizes were found. Each turn less is ahead. Assumes nothing.
use mathlib.Core.Path.{◌≡◌, refl, sym, ap, ◌∙◌, subst}
use mathlib.Core.List.{List}
use Prim.Native.Nat.{ℕ}
use native.Mathlib.Omega.{arith}
use lib.ListN.{replicate}
use Rattle.std.specs.Prelude.{Option, Some, option_map}
use Rattle.model.specs.Lists.{any}
use Rattle.laws_triggers.specs.Match.{Body, Searchable}
use Rattle.triggers.specs.declared.Plan.{Plan}
use Rattle.triggers.specs.Search.{as_body, body_of}
use Rattle.cursor.specs.Going.{Told}
use Rattle.new_triggers.specs.declared.Extent.{Extent}
use Rattle.new_triggers.specs.declared.Ahead.{Ahead}
use Rattle.new_triggers.specs.declared.Walk.{Walk}
use Rattle.new_triggers.specs.Unhandled.{unhandled_from, Apart}
use Rattle.new_triggers.specs.Walk.{cursor_of, Walked}
use Rattle.new_triggers.specs.Steps.{NextNew, First, Leads, Passable}
use Rattle.new_triggers.proofs.Moves.{first_next, further_same}
use Rattle.new_triggers.proofs.Reasons.{walks_for, passes_for}
use Rattle.stage_large.specs.Large.{large}
use Rattle.stage_large.proofs.Kept.{kept_small}
use Rattle.stage_large.proofs.Places.{large_yes}
use Rattle.stage_large.proofs.Steps.{seeking_begins, seeking_none, seeking_passes, seeking_fails}
use Rattle.stage_large.proofs.large.any_large.Goals.{After-plan_of-plan}
use Rattle.stage_large.proofs.large.any_large.Goals as goal

-- what the plan is for
module _ (c : After-plan_of-plan) where
  abbrev plan : Plan
  plan = c.plan_of-plan.result

  abbrev b : Body
  b = body_of plan

  abbrev over : Extent
  over = record { facts = c.args.counts.facts; old = c.args.counts.old; terms = c.args.counts.terms }

  same_body : b ≡ as_body c.args.body
  same_body = ap as_body c.plan_of-plan.ensures.body_same

  searchable : Searchable b c.args.facts.now over.facts over.terms
  searchable = subst (λ (x : Body). Searchable x c.args.facts.now over.facts over.terms) (sym same_body) c.requires.searchable

  -- the triggers by the plan are those of the body
  same_triggers : any (large c.args.terms.now c.args.set) (unhandled_from b c.args.facts.now over.facts over.old over.terms (replicate 8 0))
      ≡ any (large c.args.terms.now c.args.set) (unhandled_from (as_body c.args.body) c.args.facts.now over.facts over.old over.terms (replicate 8 0))
  same_triggers = ap (λ (x : Body). any (large c.args.terms.now c.args.set) (unhandled_from x c.args.facts.now over.facts over.old over.terms (replicate 8 0))) same_body

  -- what comes next
  comes : (walk : Walk) {given : List Told} {from : List ℕ} → Walked b plan.near over c.args.facts.now given from (cursor_of walk) → {r s : Option Ahead}
      → First walk plan.body.count r → r ≡ s → NextNew b c.args.facts.now over.facts over.old over.terms given from (option_map (λ (a : Ahead). a.trigger) s)
  comes walk w {s = s} f e = first_next b plan.near over c.args.facts.now searchable.body.few walk w searchable.some s (subst (First walk plan.body.count) e f)

-- the stream that leads
leads : {walk : Walk} {k : ℕ} {r : Option Ahead} {a : Ahead} → First walk k r → r ≡ Some a → Leads walk k a
leads {walk} {k} f e = subst (First walk k) e f

pub plan_of-plan-requires : goal.plan_of-plan-requires
plan_of-plan-requires c = c.requires.searchable.body

pub begin-walk-requires : goal.begin-walk-requires
begin-walk-requires c =
    let m = (goal.at.begin-walk-requires c).After-plan_of-plan in
    record {
      searchable = searchable m;
      planned = c.plan_of-plan.ensures.planned;
      indexed = c.requires.indexed;
      apart = subst (λ (x : Body). Apart x c.args.facts.now (over m).facts (over m).old) (sym (same_body m)) c.requires.apart;
    }

pub loop-next-init : goal.loop-next-init
loop-next-init c = (seeking_begins (large c.args.terms.now c.args.set) c.begin-walk.ensures.walked, c.requires.measured, refl, c.begin-walk.ensures.four)

pub first-requires : goal.first-requires
first-requires c = (searchable (goal.at.first-requires c).After-plan_of-plan).body.few

pub returns : goal.returns
returns c =
    let m = (goal.at.returns c).After-plan_of-plan in
    let i = c.loop-next.invariant in
    (sym (seeking_none i.0 (searchable m).some (comes m c.loop-next.walk i.0.walked c.first.ensures c.in_default.is)) ∙ same_triggers m, i.1)

pub places-sum-requires : goal.places-sum-requires
places-sum-requires c =
    let m = (goal.at.places-sum-requires c).After-plan_of-plan in
    let l = c.loop-next in
    (c.requires.ordered, (comes m l.walk l.invariant.0.walked c.first.ensures c.in-Some.is).trigger.1, l.invariant.1)

pub returns-then-sum-gt-PLACE_LIMIT : goal.returns-then-sum-gt-PLACE_LIMIT
returns-then-sum-gt-PLACE_LIMIT c =
    let m = (goal.at.returns-then-sum-gt-PLACE_LIMIT c).After-plan_of-plan in
    let l = c.loop-next in
    let a = c.args in
    let sum = c.places-sum in (
      sym (seeking_passes l.invariant.0 (searchable m).some (comes m l.walk l.invariant.0.walked c.first.ensures c.in-Some.is)
          (large_yes a.terms.now a.set c.in-Some.next.trigger sum.result sum.ensures.0 c.if-sum-gt-PLACE_LIMIT.true))
          ∙ same_triggers m,
      sum.ensures.1,
    )

pub kept-why-requires : goal.kept-why-requires
kept-why-requires c =
    let m = (goal.at.kept-why-requires c).After-plan_of-plan in
    let l = c.loop-next in
    record {
      ordered = c.requires.ordered;
      within = (comes m l.walk l.invariant.0.walked c.first.ensures c.in-Some.is).trigger.1;
      measured = c.places-sum.ensures.1;
      bounding = c.requires.bounding;
      left = omega (arith, c.places-sum.ensures.0, c.if-sum-gt-PLACE_LIMIT.false);
    }

pub pass-requires : goal.pass-requires
pass-requires c =
    let m = (goal.at.pass-requires c).After-plan_of-plan in
    let l = c.loop-next in
    let i = l.invariant in
    let first = leads c.first.ensures c.in-Some.is in
    subst (λ (q : Plan). Passable q (over m) c.in-Some.next.stream l.walk c.args.facts.now c.args.index.now) (sym c.plan_for.ensures)
    (record {
      walks =
          walks_for (plan m) refl
          (record {
            searchable = searchable m;
            planned = c.plan_of-plan.ensures.planned;
            indexed = c.requires.indexed;
            given = i.0.given;
            start = i.0.start;
            walking = record { four = i.3; walked = i.0.walked };
          });
      here = first.here;
      least = first.least;
    })

-- the trigger is passed for the variables that keep its places, and the walk goes on behind it
pub loop-next-smaller : goal.loop-next-smaller
loop-next-smaller c =
    (further_same (leads c.first.ensures c.in-Some.is).trigger (passes_for c.plan_of-plan.result c.plan_for.ensures c.pass.ensures)).fewer

pub loop-next-preserved : goal.loop-next-preserved
loop-next-preserved c =
    let m = (goal.at.loop-next-preserved c).After-plan_of-plan in
    let a = c.args in
    let l = c.loop-next in
    let i = l.invariant in
    let k = c.kept-why in (
      seeking_fails i.0 (searchable m).some (comes m l.walk i.0.walked c.first.ensures c.in-Some.is) k.result
          (record { fails = kept_small a.terms.now a.set a.most c.in-Some.next.trigger k.result c.requires.bounding k.ensures.0 })
          (further_same (leads c.first.ensures c.in-Some.is).trigger (passes_for c.plan_of-plan.result c.plan_for.ensures c.pass.ensures)),
      k.ensures.1,
      k.auto.sizes ∙ c.places-sum.auto.sizes ∙ i.2,
      c.pass.ensures.four,
    )

pub overflow_cast-over : goal.overflow_cast-over
overflow_cast-over c = omega (arith, c.requires.few)

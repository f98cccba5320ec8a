-- A search for a trigger that passes a test, one trigger after the other: what is passed over fails it, by the reason of one that was given.
-- Assumes nothing.
use mathlib.Core.Path.{◌≡◌, refl, sym, ap, ◌∙◌, subst}
use mathlib.Core.Bool.{Bool, true, false, ◌||◌}
use mathlib.Core.Logic.{◌⊎◌, inl, inr}
use mathlib.Core.List.Memᴰ
use mathlib.Core.List.{List, [], ◌∷◌, append-nil, Memᴰ}
use Prim.Native.Nat.{ℕ, ◌≤◌, ◌<◌}
use native.Mathlib.Omega.{arith}
use lib.ListN.{get_or}
use Rattle.std.specs.Prelude.{Option, None, Some}
use Rattle.model.specs.Lists.{any}
use Rattle.laws.proofs.Bools.{or_left}
use Rattle.laws.proofs.Lists.{false_any, any_append}
use Rattle.laws_triggers.specs.Match.{Body, domains}
use Rattle.laws_triggers.specs.Next.{after}
use Rattle.laws_triggers.proofs.Ordered.{left_mem, choices_within}
use Rattle.laws_triggers.proofs.Uses.{domains_length, domains_at, domain_most}
use Rattle.form_variables.specs.Sets.{has}
use Rattle.cursor.specs.Going.{Told, told}
use Rattle.new_triggers.specs.declared.Extent.{Extent}
use Rattle.new_triggers.specs.Unhandled.{unhandled, unhandled_from}
use Rattle.new_triggers.specs.Walk.{Cursor, Walked}
use Rattle.new_triggers.specs.Steps.{NextNew, Further}
use Rattle.new_triggers.proofs.Comes.{passed_comes}

-- an assignment over the terms that agrees with a trigger at the variables of its reason fails the test
pub record Settles (p : List ℕ → Bool) (terms : ℕ) (g : Told) : Type 0 where
  pub fails : (zs : List ℕ) → ((v : ℕ) → v < 8 → get_or zs v 0 < terms) → ((v : ℕ) → v < 8 → has g.why v ≡ true → get_or zs v 0 ≡ get_or g.trigger v 0)
      → p zs ≡ false

-- a walk over the triggers: those that are left from where it stands decide
pub record Seeking (b : Body) (near : List ℕ) (over : Extent) (facts : List ℕ) (p : List ℕ → Bool) (all : Bool) (c : Cursor) : Type 0 where
  pub given : List Told
  pub start : List ℕ
  pub walked : Walked b near over facts given start c
  pub settled : (g : Told) → Memᴰ g given → Settles p over.terms g
  pub decides : all ≡ any p (unhandled_from b facts over.facts over.old over.terms start)

pub seeking_begins : {b : Body} {near : List ℕ} {over : Extent} {facts start : List ℕ} (p : List ℕ → Bool) {c : Cursor} → Walked b near over facts [] start c
    → Seeking b near over facts p (any p (unhandled_from b facts over.facts over.old over.terms start)) c
seeking_begins {start = start} p w = record { given = []; start = start; walked = w; settled = λ g m. absurd (Memᴰ.not-nil m); decides = refl }

module _ {b : Body} {near : List ℕ} {over : Extent} {facts : List ℕ} {p : List ℕ → Bool} {all : Bool} {c : Cursor} (s : Seeking b near over facts p all c)
    (some : 1 ≤ over.terms) where
  abbrev from : List ℕ → List (List ℕ)
  from ys = unhandled_from b facts over.facts over.old over.terms ys

  within : {zs : List ℕ} → Memᴰ zs (from s.start) → (v : ℕ) → v < 8 → get_or zs v 0 < over.terms
  unfolding unhandled_from
  within m v h =
      let wide = domains_length b over.terms in
      let (q, _, _) = left_mem (unhandled b facts over.facts over.old) (domains b over.terms) s.start (s.walked.size ∙ sym wide) m in
      let below = (choices_within (domains b over.terms) q).1 v (omega arith) in
      omega (arith, domains_at b over.terms v h, domain_most b over.terms v some)

  passed_fail : {r : Option (List ℕ)} (n : NextNew b facts over.facts over.old over.terms s.given s.start r) → any p n.passed ≡ false
  passed_fail n =
      false_any p n.passed (λ zs m. let k = n.covered zs m in (s.settled k.by k.among).fails zs (within (passed_comes n zs m)) k.same)

  pub seeking_none : NextNew b facts over.facts over.old over.terms s.given s.start None → all ≡ false
  seeking_none n = s.decides ∙ ap (any p) (n.rest ∙ append-nil n.passed) ∙ passed_fail n

  module _ {xs : List ℕ} (n : NextNew b facts over.facts over.old over.terms s.given s.start (Some xs)) where
    reaches : all ≡ p xs || any p (from (after xs))
    unfolding any
    reaches =
        let rest = xs ∷ from (after xs) in
        s.decides ∙ ap (any p) n.rest ∙ any_append p n.passed rest ∙ ap (λ (q : Bool). q || any p rest) (passed_fail n)

    pub seeking_passes : p xs ≡ true → all ≡ true
    seeking_passes e = reaches ∙ or_left (p xs) (any p (from (after xs))) e

    pub seeking_fails : (why : ℕ) → Settles p over.terms (told xs why) → {c' : Cursor} → Further b near over facts xs why c c' → Seeking b near over facts p all c'
    seeking_fails why settles further =
        record {
          given = told xs why ∷ s.given;
          start = after xs;
          walked = further.onward s.given s.start s.walked;
          settled = λ g m. go (Memᴰ.cases_cons m);
          decides = reaches ∙ ap (λ (q : Bool). q || any p (from (after xs))) (settles.fails xs (λ v h. n.trigger.1 v) (λ v h e. refl));
        }
      where
        go : {g : Told} → (g ≡ told xs why) ⊎ Memᴰ g s.given → Settles p over.terms g
        go (inl e) = subst (Settles p over.terms) (sym e) settles
        go {g} (inr m) = s.settled g m

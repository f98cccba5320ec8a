-- A test that computes: tables are legible. Assumes nothing.
use mathlib.Core.Path.{◌≡◌}
use mathlib.Core.Bool.{Bool, true, ◌&&◌}
use mathlib.Core.List.{List}
use Prim.Native.Nat.{ℕ, ◌+◌, ◌*◌}
use lib.Dec.{leb, ltb}
use lib.ListN.{length, get_or}
use borrow.Author.Tests.{leb-true, ltb-true}
use Rattle.laws.proofs.Bools.{and_true}
use Rattle.laws_triggers.specs.Match.{all_below}
use Rattle.laws_triggers.proofs.Below.{all_below_lem}
use Rattle.text.specs.Legible.{LegibleTerms, LegibleFacts}

arity_fits : List ℕ → ℕ → Bool
arity_fits terms i = leb (get_or terms (i * 10 + 1) 0) 8

unfoldable pub terms_legible : List ℕ → ℕ → Bool
unfolding arity_fits
terms_legible terms t = leb (t * 10) (length terms) && all_below t (arity_fits terms)

pub legible_terms : (terms : List ℕ) (t : ℕ) → terms_legible terms t ≡ true → LegibleTerms terms t
unfolding terms_legible arity_fits
legible_terms terms t h =
    let (w, a) = and_true (leb (t * 10) (length terms)) (all_below t (arity_fits terms)) h in
    record {
      within = leb-true (t * 10) (length terms) w;
      arity = λ i l. leb-true (get_or terms (i * 10 + 1) 0) 8 (all_below_lem t (arity_fits terms) a i l);
    }

is_declared : List ℕ → List ℕ → ℕ → Bool
is_declared arities facts i = ltb (get_or facts (i * 5) 0) (length arities)

arguments_fit : List ℕ → List ℕ → ℕ → Bool
arguments_fit arities facts i = leb (get_or arities (get_or facts (i * 5) 0) 0) 4

unfoldable pub facts_legible : List ℕ → List ℕ → ℕ → Bool
unfolding is_declared arguments_fit
facts_legible arities facts f = leb (f * 5) (length facts) && (all_below f (is_declared arities facts) && all_below f (arguments_fit arities facts))

pub legible_facts : (arities facts : List ℕ) (f : ℕ) → facts_legible arities facts f ≡ true → LegibleFacts arities facts f
unfolding facts_legible is_declared arguments_fit
legible_facts arities facts f h =
    let (w, r) = and_true (leb (f * 5) (length facts)) (all_below f (is_declared arities facts) && all_below f (arguments_fit arities facts)) h in
    let (d, a) = and_true (all_below f (is_declared arities facts)) (all_below f (arguments_fit arities facts)) r in
    record {
      within = leb-true (f * 5) (length facts) w;
      predicate = λ i l. ltb-true (get_or facts (i * 5) 0) (length arities) (all_below_lem f (is_declared arities facts) d i l);
      arity = λ i l. leb-true (get_or arities (get_or facts (i * 5) 0) 0) 4 (all_below_lem f (arguments_fit arities facts) a i l);
    }

-- Laws of facts: the test of equality is one, and a fact is present where it is a member. Assumes nothing.
use mathlib.Core.Path.{◌≡◌, refl, ap₂}
use mathlib.Core.Bool.{true, false}
use mathlib.Core.List.{List, [], ◌∷◌, Memᴰ, ◌++◌, append-nil}
use lib.Dec.{eqb}
use borrow.Author.Tests.{eqb-true, eq-eqb}
use Rattle.model.specs.Lists.{collect}
use Rattle.model.specs.Term.{Term, same}
use Rattle.model.specs.Triggers.{Fact, same_all, same_fact, present, terms_of}
use Rattle.laws.proofs.Bools.{and_true, true_and, not_both}
use Rattle.laws.proofs.Lists.{Decides, mem_eq_any, any_eq_mem, mem_collect, collect_mem, collect_append}
use Rattle.laws.proofs.Terms.{same_decides}

pub same_all_decides : Decides same_all
unfolding same_all
same_all_decides = record { sound = sound; complete = complete }
  where
    sound : (ss ts : List Term) → same_all ss ts ≡ true → ss ≡ ts
    sound [] [] h = refl
    sound [] (t ∷ ts) h = not_both false h refl
    sound (s ∷ ss) [] h = not_both false h refl
    sound (s ∷ ss) (t ∷ ts) h =
        let k = and_true (same s t) (same_all ss ts) h in
        ap₂ (λ (u : Term) (us : List Term). u ∷ us) (same_decides.sound s t k.0) (sound ss ts k.1)

    complete : (ts : List Term) → same_all ts ts ≡ true
    complete [] = refl
    complete (t ∷ ts) = true_and (same t t) (same_all ts ts) (same_decides.complete t) (complete ts)

-- facts are equal where their predicates and arguments are
pub fact_path : {f g : Fact} → f.predicate ≡ g.predicate → f.arguments ≡ g.arguments → f ≡ g
fact_path p q = λ i. record { predicate = p i; arguments = q i }

pub same_fact_decides : Decides same_fact
unfolding same_fact
same_fact_decides =
    record {
      sound = λ f g h.
          let k = and_true (eqb f.predicate g.predicate) (same_all f.arguments g.arguments) h in
          fact_path (eqb-true f.predicate g.predicate k.0) (same_all_decides.sound f.arguments g.arguments k.1);
      complete = λ f.
          true_and (eqb f.predicate f.predicate) (same_all f.arguments f.arguments) (eq-eqb f.predicate f.predicate refl)
          (same_all_decides.complete f.arguments);
    }

pub present_mem : (fs : List Fact) (f : Fact) → present fs f ≡ true → Memᴰ f fs
unfolding present
present_mem fs f h = any_eq_mem same_fact same_fact_decides f fs h

pub mem_present : {fs : List Fact} {f : Fact} → Memᴰ f fs → present fs f ≡ true
unfolding present
mem_present m = mem_eq_any same_fact same_fact_decides m

pub mem_terms_of : {t : Term} {f : Fact} {fs : List Fact} → Memᴰ f fs → Memᴰ t f.arguments → Memᴰ t (terms_of fs)
unfolding terms_of
mem_terms_of m k = mem_collect (λ (f : Fact). f.arguments) m k

pub terms_of_mem : {t : Term} (fs : List Fact) → Memᴰ t (terms_of fs) → (f : Fact) × Memᴰ f fs × Memᴰ t f.arguments
unfolding terms_of
terms_of_mem fs m = collect_mem (λ (f : Fact). f.arguments) fs m

pub terms_of_append : (xs ys : List Fact) → terms_of (xs ++ ys) ≡ terms_of xs ++ terms_of ys
unfolding terms_of
terms_of_append xs ys = collect_append (λ (f : Fact). f.arguments) xs ys

pub terms_of_one : (f : Fact) → terms_of (f ∷ []) ≡ f.arguments
unfolding terms_of collect
terms_of_one f = append-nil f.arguments

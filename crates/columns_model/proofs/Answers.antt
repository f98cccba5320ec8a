-- The answers of `packed` and `unpacked`, case by case, first by the tests and then by what they compare. Assumes nothing.
use mathlib.Core.Path.{◌≡◌}
use mathlib.Core.Bool.{true, false, ◌&&◌}
use mathlib.Core.List.{List, ◌++◌}
use Prim.Native.Nat.{ℕ, ◌≤◌, ◌<◌}
use lib.Dec.{leb}
use lib.ListN.{length, drop}
use borrow.Author.Tests.{lt-leb, le-leb}
use Rattle.model.specs.Limits.{term_limit, fact_limit, terms_front, facts_front}
use Rattle.model.specs.Form.{done, refusal}
use Rattle.model.specs.Tables.{fronted}
use Rattle.columns_model.specs.Store.{store_room, stored, fronts, within, packed, term_count, fact_count, sound, stored_terms, stored_facts, counts, refused, unpacked}

module _ (t f : ℕ) (terms facts out : List ℕ) where
  pub packed_short : fronts terms facts && leb store_room (length out) ≡ false → packed t f terms facts out ≡ record { answer = refusal 1 0; bytes = out }
  unfolding packed
  packed_short e = rw (e, packed)

  module _ (long : fronts terms facts && leb store_room (length out) ≡ true) where
    pub packed_over : within t f ≡ false → packed t f terms facts out ≡ record { answer = refusal 26 0; bytes = out }
    unfolding packed
    packed_over e = rw (long, e, packed)

    pub packed_good : within t f ≡ true
        → packed t f terms facts out ≡ record { answer = done (length (stored t f terms facts)); bytes = stored t f terms facts ++ drop (length (stored t f terms facts)) out }
    unfolding packed
    packed_good e = rw (long, e, packed)

module _ (bs terms facts : List ℕ) where
  pub unpacked_short : fronts terms facts ≡ false → unpacked bs terms facts ≡ record { answer = refused 1 0; terms = terms; facts = facts }
  unfolding unpacked
  unpacked_short e = rw (e, unpacked)

  module _ (long : fronts terms facts ≡ true) where
    pub unpacked_faulty : sound bs ≡ false → unpacked bs terms facts ≡ record { answer = refused 26 0; terms = terms; facts = facts }
    unfolding unpacked
    unpacked_faulty e = rw (long, e, unpacked)

    pub unpacked_good : sound bs ≡ true
        → unpacked bs terms facts
        ≡ record {
          answer = counts (term_count bs) (fact_count bs);
          terms = fronted terms_front (stored_terms bs) terms;
          facts = fronted facts_front (stored_facts bs) facts;
        }
    unfolding unpacked
    unpacked_good e = rw (long, e, unpacked)

-- the tests that fail, in their order

few_terms : (terms facts : List ℕ) → length terms < terms_front → fronts terms facts ≡ false
unfolding fronts
few_terms terms facts h = simp (lt-leb _ _ h)

few_facts : (terms facts : List ℕ) → terms_front ≤ length terms → length facts < facts_front → fronts terms facts ≡ false
unfolding fronts
few_facts terms facts h k = simp (le-leb _ _ h, lt-leb _ _ k)

pub enough : (terms facts : List ℕ) → terms_front ≤ length terms → facts_front ≤ length facts → fronts terms facts ≡ true
unfolding fronts
enough terms facts h k = simp (le-leb _ _ h, le-leb _ _ k)

module _ (t f : ℕ) (terms facts out : List ℕ) where
  pub packed_few_terms : length terms < terms_front → packed t f terms facts out ≡ record { answer = refusal 1 0; bytes = out }
  packed_few_terms h = packed_short t f terms facts out (simp (few_terms terms facts h))

  module _ (long-terms : terms_front ≤ length terms) where
    pub packed_few_facts : length facts < facts_front → packed t f terms facts out ≡ record { answer = refusal 1 0; bytes = out }
    packed_few_facts h = packed_short t f terms facts out (simp (few_facts terms facts long-terms h))

    module _ (long-facts : facts_front ≤ length facts) where
      pub packed_few_bytes : length out < store_room → packed t f terms facts out ≡ record { answer = refusal 1 0; bytes = out }
      packed_few_bytes h = packed_short t f terms facts out (simp (enough terms facts long-terms long-facts, lt-leb _ _ h))

      module _ (room : store_room ≤ length out) where
        pub lists_long : fronts terms facts && leb store_room (length out) ≡ true
        lists_long = simp (enough terms facts long-terms long-facts, le-leb _ _ room)

        pub packed_many_terms : term_limit < t → packed t f terms facts out ≡ record { answer = refusal 26 0; bytes = out }
        unfolding within
        packed_many_terms h = packed_over t f terms facts out lists_long (simp (lt-leb _ _ h))

        pub packed_many_facts : t ≤ term_limit → fact_limit < f → packed t f terms facts out ≡ record { answer = refusal 26 0; bytes = out }
        unfolding within
        packed_many_facts h k = packed_over t f terms facts out lists_long (simp (le-leb _ _ h, lt-leb _ _ k))

module _ (bs terms facts : List ℕ) where
  pub unpacked_few_terms : length terms < terms_front → unpacked bs terms facts ≡ record { answer = refused 1 0; terms = terms; facts = facts }
  unpacked_few_terms h = unpacked_short bs terms facts (few_terms terms facts h)

  pub unpacked_few_facts : terms_front ≤ length terms → length facts < facts_front → unpacked bs terms facts ≡ record { answer = refused 1 0; terms = terms; facts = facts }
  unpacked_few_facts h k = unpacked_short bs terms facts (few_facts terms facts h k)

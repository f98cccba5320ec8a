-- `sound`, test by test. Assumes nothing.
use mathlib.Core.Path.{◌≡◌}
use mathlib.Core.Bool.{false, ◌&&◌}
use mathlib.Core.List.{List}
use Prim.Native.Nat.{ℕ, ◌+◌, ◌≤◌, ◌<◌}
use lib.Dec.{eqb}
use lib.ListN.{length, get_or}
use borrow.Author.Tests.{lt-leb, le-leb, eq-eqb, ne_eqb}
use Rattle.model.specs.Format.{stated}
use Rattle.columns_model.specs.Store.{head_length, within, term_count, fact_count, store_length, sound}

module _ (bs : List ℕ) where
  pub sound_brief : length bs < head_length → sound bs ≡ false
  unfolding sound
  sound_brief h = simp (lt-leb _ _ h)

  module _ (long : head_length ≤ length bs) where
    pub sound_unstated : (stated bs + 4 ≡ length bs → ⊥) → sound bs ≡ false
    unfolding sound
    sound_unstated h = simp (le-leb _ _ long, ne_eqb _ _ h)

    module _ (says : stated bs + 4 ≡ length bs) where
      pub sound_other : (get_or bs 4 0 ≡ 1 → ⊥) → sound bs ≡ false
      unfolding sound
      sound_other h = simp (le-leb _ _ long, eq-eqb _ _ says, ne_eqb _ _ h)

      pub sound_counts : get_or bs 4 0 ≡ 1 → sound bs ≡ within (term_count bs) (fact_count bs) && eqb (store_length (term_count bs) (fact_count bs)) (length bs)
      unfolding sound
      sound_counts h = simp (le-leb _ _ long, eq-eqb _ _ says, eq-eqb _ _ h)

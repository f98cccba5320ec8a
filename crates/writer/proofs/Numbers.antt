-- Numbers of one byte or two, as they are written. Assumes nothing.
use mathlib.Core.Path.{◌≡◌, refl, sym, ◌∙◌, subst}
use mathlib.Core.Bool.{Bool, true, false}
use mathlib.Core.List.{List, ◌++◌}
use Prim.Native.Nat.{ℕ, ◌+◌, ◌≤◌, ◌<◌}
use lib.ListN.{length, drop}
use borrow.Rule.Slice.PartMut.{put_mid}
use Rattle.model.specs.Rules.{wide}
use Rattle.model.specs.Format.{Parsed, good, number, number_bytes}
use Rattle.laws_format.proofs.Parsers.{drop_place, spelled_pair}
use Rattle.parsing.specs.Step.{none, ranged}
use Rattle.parsing.proofs.Numbers.{ranged_below, ranged_above, ranged_within, ranged_good, ranged_same, byte_ranged, pair_ranged}
use Rattle.writer.specs.Writes.{Writes}
use Rattle.std.specs.Prelude.{Ok, Err}
use Rattle.refusal.specs.declared.Refusal.{Refusal}
use Rattle.refusal.specs.Numbers.{number_of}
use Rattle.writer.proofs.Writing.{written_bad, writes_part}

module _ (v i : ℕ) where
  -- the parse of a number that is spelled at i
  number_spelled : (w : Bool) (bs rest : List ℕ) (low high refusal : ℕ) → drop i bs ≡ number_bytes w v ++ rest
      → number w bs low high refusal i ≡ ranged v low high refusal i (i + length (number_bytes w v))
  unfolding number number_bytes
  number_spelled false bs rest low high refusal d =
      let (l, e) = drop_place bs i v rest d in
      byte_ranged bs low high refusal i l ∙ ranged_same _ v low high refusal i (i + 1) e
  number_spelled true bs rest low high refusal d =
      let (l, e) = spelled_pair bs i v rest d in
      pair_ranged bs low high refusal i l ∙ ranged_same _ v low high refusal i (i + 2) e

  module _ (w : Bool) (low high : ℕ) (refusal : Refusal) (before : List ℕ) where
    abbrev number_at : List ℕ → Parsed ℕ
    number_at bs = number w bs low high (number_of refusal) i

    pub number_below : v < low → (after : List ℕ) → Writes none number_at i (number_bytes w v) before (Err (record { refusal = refusal; place = i })) after
    number_below h after =
        record {
          run =
              λ bs rest d g.
              written_bad none _ bs rest after _ (number_spelled w bs rest low high _ d ∙ ranged_below v low high _ i _ h);
        }

    pub number_above : low ≤ v → high < v → (after : List ℕ) → Writes none number_at i (number_bytes w v) before (Err (record { refusal = refusal; place = i })) after
    number_above h k after =
        record {
          run =
              λ bs rest d g.
              written_bad none _ bs rest after _ (number_spelled w bs rest low high _ d ∙ ranged_above v low high _ i _ h k);
        }

    number_within : low ≤ v → v ≤ high → i + length (number_bytes w v) ≤ length before
        → Writes none number_at i (number_bytes w v) before (Ok (record { value = tt; next = i + length (number_bytes w v) })) (put_mid i (length (number_bytes w v)) before (number_bytes w v))
    number_within h k l =
        writes_part i (number_bytes w v) before l none number_at tt
        (λ bs rest d. record { result = v; parse = number_spelled w bs rest low high _ d ∙ ranged_within v low high _ i _ h k; kept = refl })

  -- the width is that of a version
  pub number_stored : (w : Bool) (version low high : ℕ) (refusal : Refusal) (before : List ℕ) → wide version ≡ w → low ≤ v → v ≤ high → i + length (number_bytes w v) ≤ length before
      → Writes none (λ bs. number (wide version) bs low high (number_of refusal) i) i (number_bytes (wide version) v) before (Ok (record { value = tt; next = i + length (number_bytes w v) }))
      (put_mid i (length (number_bytes w v)) before (number_bytes w v))
  number_stored w version low high refusal before e h k l =
      subst
      (λ (x : Bool).
      Writes none (λ bs. number x bs low high (number_of refusal) i) i (number_bytes x v) before (Ok (record { value = tt; next = i + length (number_bytes w v) }))
      (put_mid i (length (number_bytes w v)) before (number_bytes w v)))
      (sym e)
      (number_within w low high refusal before h k l)

  -- what is parsed there is the number
  pub number_value : (w : Bool) (bs rest : List ℕ) (low high refusal a j : ℕ) → drop i bs ≡ number_bytes w v ++ rest → number w bs low high refusal i ≡ good a j → a ≡ v
  number_value w bs rest low high refusal a j d e = (ranged_good v low high refusal i _ a j (sym (number_spelled w bs rest low high refusal d) ∙ e)).value

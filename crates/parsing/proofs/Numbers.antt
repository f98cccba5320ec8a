-- Laws of the numbers of one byte or two. Assumes nothing.
use mathlib.Core.Path.{◌≡◌, refl, sym, ap, ◌∙◌}
use mathlib.Core.Bool.{Bool, true, false, ◌&&◌}
use mathlib.Core.Logic.{◌⊎◌, inl, inr}
use mathlib.Core.List.{List}
use Prim.Native.Nat.{ℕ, suc, ◌+◌, ◌*◌, ◌≤◌, ◌<◌}
use native.Mathlib.Omega.{arith}
use native.Mathlib.Decide.{dec_lt}
use native.Mathlib.Numerals.{add-one}
use lib.Dec.{ltb, leb}
use lib.ListN.{length, get_or}
use borrow.Author.Tests.{leb-true, ltb-true, ltb-false, lt-ltb, le-ltb, le-leb, lt-leb}
use Rattle.model.specs.Limits.{narrow_limit, predicate_limit}
use Rattle.model.specs.Rules.{wide, most_predicates}
use Rattle.model.specs.Format.{Parsed, good, bad, and_then, byte, number}
use Rattle.laws.proofs.Bools.{case, and_true}
use Rattle.parsing.specs.Step.{ranged}
use Rattle.parsing.proofs.Parsing.{bad_is_not_good, byte_good, byte_within, byte_ended}

module _ (n low high refusal i next : ℕ) where
  pub ranged_below : n < low → ranged n low high refusal i next ≡ bad refusal i
  unfolding ranged
  ranged_below h = rw (lt-leb low n h, ranged)

  pub ranged_above : low ≤ n → high < n → ranged n low high refusal i next ≡ bad refusal i
  unfolding ranged
  ranged_above h l = rw (le-leb low n h, lt-leb n high l, ranged)

  pub ranged_outside : (n < low) ⊎ ((low ≤ n) × (high < n)) → ranged n low high refusal i next ≡ bad refusal i
  ranged_outside (inl h) = ranged_below h
  ranged_outside (inr (h, l)) = ranged_above h l

  pub ranged_within : low ≤ n → n ≤ high → ranged n low high refusal i next ≡ good n next
  unfolding ranged
  ranged_within h l = rw (le-leb low n h, le-leb n high l, ranged)

  -- the bounds of a number that was taken
  pub record Taken (v j : ℕ) : Type 0 where
    pub value : v ≡ n
    pub least : low ≤ v
    pub most : v ≤ high
    pub end : j ≡ next

  pub ranged_good : (v j : ℕ) → ranged n low high refusal i next ≡ good v j → Taken v j
  unfolding ranged
  ranged_good v j e = go (case (leb low n && leb n high))
    where
      go : (leb low n && leb n high ≡ true) ⊎ (leb low n && leb n high ≡ false) → Taken v j
      go (inl h) =
          let (g, k) = and_true (leb low n) (leb n high) h in
          let l = leb-true low n g in
          let m = leb-true n high k in
          let f : good n next ≡ good v j = rw (h, ranged) at e in
          let p : n ≡ v = cc in
          let q : next ≡ j = cc in
          record { value = sym p; least = omega arith; most = omega arith; end = sym q }
      go (inr h) = bad_is_not_good _ refusal i v j refl (rw (h, ranged) at e)

module _ (bs : List ℕ) (low high refusal i : ℕ) where
  pub byte_ranged : i < length bs → byte bs low high refusal i ≡ ranged (get_or bs i 0) low high refusal i (i + 1)
  unfolding byte ranged
  byte_ranged h = rw (add-one i, lt-ltb i (length bs) h, byte)

  pub pair_ended : length bs ≤ suc i → number true bs low high refusal i ≡ bad 10 (length bs)
  unfolding number
  pair_ended h = rw (le-ltb (suc i) (length bs) h, number)

  pub pair_ranged : suc i < length bs → number true bs low high refusal i ≡ ranged (get_or bs i 0 * 256 + get_or bs (suc i) 0) low high refusal i (i + 2)
  unfolding number ranged
  pair_ranged h = let two : i + 2 ≡ suc (suc i) = omega arith in rw (two, lt-ltb (suc i) (length bs) h, number)

-- a number by its bytes, whatever they are, and then its range

module _ (bs : List ℕ) (low high refusal i : ℕ) (small : (k : ℕ) → get_or bs k 0 < 256) where
  pub byte_through : byte bs low high refusal i ≡ and_then (byte bs 0 255 refusal i) (λ v j. ranged v low high refusal i j)
  unfolding and_then
  byte_through = go (dec_lt i (length bs))
    where
      go : Dec (i < length bs) → byte bs low high refusal i ≡ and_then (byte bs 0 255 refusal i) (λ v j. ranged v low high refusal i j)
      go (yes h) = rw (byte_within bs 0 255 refusal i h (omega arith) (omega (arith, small i))) (byte_ranged bs low high refusal i h)
      go (no h) = rw (byte_ended bs 0 255 refusal i (omega arith)) (byte_ended bs low high refusal i (omega arith))

  abbrev paired : Parsed ℕ
  paired = and_then (byte bs 0 255 refusal i) (λ v j. and_then (byte bs 0 255 refusal j) (λ w k. ranged (v * 256 + w) low high refusal i k))

  pub pair_through : number true bs low high refusal i ≡ paired
  unfolding and_then
  pair_through = go (dec_lt i (length bs)) (dec_lt (suc i) (length bs))
    where
      first : i < length bs → byte bs 0 255 refusal i ≡ good (get_or bs i 0) (i + 1)
      first h = byte_within bs 0 255 refusal i h (omega arith) (omega (arith, small i))

      go : Dec (i < length bs) → Dec (suc i < length bs) → number true bs low high refusal i ≡ paired
      go (yes h) (yes l) =
          let two : suc i + 1 ≡ i + 2 = omega arith in
          rw (first h, add-one i, byte_within bs 0 255 refusal (suc i) l (omega arith) (omega (arith, small (suc i))), two) (pair_ranged bs low high refusal i l)
      go (yes h) (no l) = rw (first h, add-one i, byte_ended bs 0 255 refusal (suc i) (omega arith)) (pair_ended bs low high refusal i (omega arith))
      go (no h) l = rw (byte_ended bs 0 255 refusal i (omega arith)) (pair_ended bs low high refusal i (omega arith))

-- a number that was taken is in its range, whichever its width
pub record Bounded (low high v : ℕ) : Type 0 where
  pub least : low ≤ v
  pub most : v ≤ high

pub number_good : (w : Bool) (bs : List ℕ) (low high refusal i v j : ℕ) → number w bs low high refusal i ≡ good v j → Bounded low high v
unfolding number
number_good false bs low high refusal i v j e = let b = byte_good bs low high refusal i v j e in record { least = b.least; most = b.most }
number_good true bs low high refusal i v j e = go (case (ltb (suc i) (length bs)))
  where
    go : (ltb (suc i) (length bs) ≡ true) ⊎ (ltb (suc i) (length bs) ≡ false) → Bounded low high v
    go (inl h) =
        let t = ranged_good _ low high refusal i _ v j (sym (pair_ranged bs low high refusal i (ltb-true (suc i) (length bs) h)) ∙ e) in
        record { least = t.least; most = t.most }
    go (inr h) = bad_is_not_good _ 10 (length bs) v j (pair_ended bs low high refusal i (ltb-false (suc i) (length bs) h)) e

pub ranged_same : (n m low high refusal i next : ℕ) → n ≡ m → ranged n low high refusal i next ≡ ranged m low high refusal i next
ranged_same n m low high refusal i next e = ap (λ (x : ℕ). ranged x low high refusal i next) e

-- the versions

pub number_of : (w : Bool) (version : ℕ) (bs : List ℕ) (low high refusal i : ℕ) → wide version ≡ w
    → number w bs low high refusal i ≡ number (wide version) bs low high refusal i
number_of w version bs low high refusal i e = ap (λ (x : Bool). number x bs low high refusal i) (sym e)

pub most_of : (w : Bool) (version : ℕ) → wide version ≡ w → elim w [ true ↦ predicate_limit | false ↦ narrow_limit ] ≡ most_predicates version
unfolding most_predicates
most_of w version e = rw (most_predicates, e)

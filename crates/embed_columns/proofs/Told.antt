-- The numbers that cross tell the answer: no two answers have the same. Assumes nothing.
use mathlib.Core.Path.{◌≡◌}
use mathlib.Core.Bool.{true, false, ◌&&◌}
use mathlib.Core.Logic.{◌⊎◌, inl, inr}
use mathlib.Core.List.{List}
use Prim.Native.Nat.{ℕ, ◌≤◌}
use native.Mathlib.Omega.{arith}
use lib.Dec.{leb}
use lib.ListN.{length}
use Rattle.laws.proofs.Bools.{case}
use Rattle.columns_model.specs.Store.{store_room, fronts, within, sound, Answer, counts, refused, packed, unpacked}
use Rattle.columns_model.proofs.Answers.{packed_short, packed_over, packed_good, unpacked_short, unpacked_faulty, unpacked_good}
use Rattle.crossing.proofs.Told.{Numbered}
use Rattle.embed_columns.specs.Numbers.{unpack_number, unpack_values}

-- a refusal, if it is one, has a number that is not 0

abbrev pub NumberedAnswer : Answer → Type 0
NumberedAnswer (counts t f) = Unit {0}
NumberedAnswer (refused n p) = 1 ≤ n

pub packed_numbered : (t f : ℕ) (terms facts out : List ℕ) → Numbered (packed t f terms facts out).answer
packed_numbered t f terms facts out = go (case (fronts terms facts && leb store_room (length out))) (case (within t f))
  where
    go : (fronts terms facts && leb store_room (length out) ≡ true) ⊎ (fronts terms facts && leb store_room (length out) ≡ false)
        → (within t f ≡ true) ⊎ (within t f ≡ false) → Numbered (packed t f terms facts out).answer
    go (inr s) w = rw (packed_short t f terms facts out s) (omega arith)
    go (inl l) (inr s) = rw (packed_over t f terms facts out l s) (omega arith)
    go (inl l) (inl s) = rw (packed_good t f terms facts out l s) tt

pub unpacked_numbered : (bs terms facts : List ℕ) → NumberedAnswer (unpacked bs terms facts).answer
unpacked_numbered bs terms facts = go (case (fronts terms facts)) (case (sound bs))
  where
    go : (fronts terms facts ≡ true) ⊎ (fronts terms facts ≡ false) → (sound bs ≡ true) ⊎ (sound bs ≡ false) → NumberedAnswer (unpacked bs terms facts).answer
    go (inr s) w = rw (unpacked_short bs terms facts s) (omega arith)
    go (inl l) (inr s) = rw (unpacked_faulty bs terms facts l s) (omega arith)
    go (inl l) (inl s) = rw (unpacked_good bs terms facts l s) tt

-- so the numbers tell: those of `pack` by `transfer_told` of crossing

pub unpack_told : (a b : Answer) → NumberedAnswer a → NumberedAnswer b → unpack_number a ≡ unpack_number b → unpack_values a ≡ unpack_values b → a ≡ b
unpack_told (counts t f) (counts t' f') h k e v = cc
unpack_told (counts t f) (refused n p) h k e v = absurd (omega arith)
unpack_told (refused n p) (counts t f) h k e v = absurd (omega arith)
unpack_told (refused n p) (refused m q) h k e v = cc

-- The numbers that cross tell the answer: no two answers have the same. Assumes nothing.
use mathlib.Core.Path.{◌≡◌, refl}
use mathlib.Core.Bool.{Bool, true, false, ◌&&◌}
use mathlib.Core.Logic.{◌⊎◌, inl, inr}
use mathlib.Core.List.{List}
use Prim.Native.Nat.{ℕ}
use native.Mathlib.Omega.{arith}
use lib.Dec.{leb}
use lib.ListN.{length}
use borrow.Author.Tests.{leb-true, leb-false}
use Rattle.model.specs.Rules.{RuleSet}
use Rattle.model.specs.Format.{Parsed, good, bad, read}
use Rattle.model.specs.Stages.{Verdict, accepted, cyclic_at, refused}
use Rattle.model.specs.Form.{form_length, reading, Writing, writing}
use Rattle.model.specs.Limits.{terms_front, facts_front}
use Rattle.model.specs.Tables.{is_depth}
use Rattle.laws.proofs.Bools.{case}
use Rattle.laws_format.proofs.RoundTrip.{reading_short, reading_bad, reading_good, Written, faulty, short, whole, writing_written}
use Rattle.laws_tables.proofs.Refusals.{Faulty, read_faulty}
use Rattle.report.specs.Printing.{printing, text_room}
use Rattle.crossing.proofs.Told.{Numbered}
use Rattle.embed.specs.Numbers.{verdict_number, verdict_values}

pub verdict_told : (v w : Verdict) → verdict_number v ≡ verdict_number w → verdict_values v ≡ verdict_values w → v ≡ w
verdict_told (accepted n f t) (accepted n' f' t') e h = cc
verdict_told (accepted n f t) (cyclic_at n' f' t') e h = absurd (omega arith)
verdict_told (accepted n f t) (refused n' p') e h = absurd (omega arith)
verdict_told (cyclic_at n f t) (accepted n' f' t') e h = absurd (omega arith)
verdict_told (cyclic_at n f t) (cyclic_at n' f' t') e h = cc
verdict_told (cyclic_at n f t) (refused n' p') e h = absurd (omega arith)
verdict_told (refused n p) (accepted n' f' t') e h = absurd (omega arith)
verdict_told (refused n p) (cyclic_at n' f' t') e h = absurd (omega arith)
verdict_told (refused n p) (refused n' p') e h = cc

-- every refusal has a number that is not 0, so that the numbers of a transfer tell it (`transfer_told` of crossing)

pub reading_numbered : (bytes form : List ℕ) → Numbered (reading bytes form).answer
reading_numbered bytes form = go (case (leb form_length (length form))) (read bytes) refl (read_faulty bytes)
  where
    go : (leb form_length (length form) ≡ true) ⊎ (leb form_length (length form) ≡ false) → (o : Parsed RuleSet) → read bytes ≡ o → Faulty o → Numbered (reading bytes form).answer
    go (inr l) o e h = rw (reading_short bytes form (leb-false form_length (length form) l)) (omega arith)
    go (inl l) (bad n p) e h = rw (reading_bad bytes form n p (leb-true form_length (length form) l) e) (omega arith)
    go (inl l) (good b i) e h = rw (reading_good bytes form b i (leb-true form_length (length form) l) e) tt

pub writing_numbered : (form out : List ℕ) → Numbered (writing form out).answer
writing_numbered form out = go (writing_written form out)
  where
    go : {x : Writing} → Written form out x → Numbered x.answer
    go (faulty f e l m h) = omega arith
    go (short w l) = omega arith
    go (whole w l) = tt

pub printing_numbered : (depth : ℕ) (bytes terms facts out : List ℕ) → Numbered (printing depth bytes terms facts out).answer
unfolding printing
printing_numbered depth bytes terms facts out = go (case test) (case (is_depth depth))
  where
    test : Bool
    test = leb terms_front (length terms) && leb facts_front (length facts) && leb text_room (length out)

    go : (test ≡ true) ⊎ (test ≡ false) → (is_depth depth ≡ true) ⊎ (is_depth depth ≡ false) → Numbered (printing depth bytes terms facts out).answer
    go (inl t) (inl d) = rw (t, d, printing) tt
    go (inl t) (inr d) = rw (t, d, printing) (omega arith)
    go (inr t) d = rw (t, printing) (omega arith)

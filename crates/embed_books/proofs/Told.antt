-- The numbers that cross tell the answer of a converter. Assumes nothing.
use mathlib.Core.Path.{◌≡◌, refl}
use mathlib.Core.Bool.{true, false}
use mathlib.Core.Logic.{◌⊎◌, inl, inr}
use mathlib.Core.List.{List}
use Prim.Native.Nat.{ℕ}
use native.Mathlib.Omega.{arith}
use lib.Dec.{leb}
use lib.ListN.{length}
use borrow.Author.Tests.{leb-true, leb-false}
use Rattle.model.specs.Limits.{bytes_limit}
use Rattle.model.specs.Rules.{RuleSet}
use Rattle.model.specs.Format.{Parsed, good, bad}
use Rattle.laws.proofs.Bools.{case}
use Rattle.laws_tables.proofs.Refusals.{Faulty}
use Rattle.converter_model.specs.Converter.{convertible, converting}
use Rattle.converter_model.proofs.Converting.{converting_short, converting_bad, converting_good}
use Rattle.converter_model.proofs.Faults.{convertible_faulty}
use Rattle.crossing.proofs.Told.{Numbered}

-- a refusal has a number that is not 0, so that the numbers tell (`transfer_told` of crossing)
pub converting_numbered : (from to : ℕ) (bytes out : List ℕ) → Numbered (converting from to bytes out).answer
converting_numbered from to bytes out = go (case (leb bytes_limit (length out))) (convertible from bytes) refl (convertible_faulty from bytes)
  where
    go : (leb bytes_limit (length out) ≡ true) ⊎ (leb bytes_limit (length out) ≡ false) → (o : Parsed RuleSet) → convertible from bytes ≡ o → Faulty o
        → Numbered (converting from to bytes out).answer
    go (inr l) o e h = rw (converting_short from to bytes out (leb-false bytes_limit (length out) l)) (omega arith)
    go (inl l) (bad n p) e h = rw (converting_bad from to bytes out (leb-true bytes_limit (length out) l) n p e) (omega arith)
    go (inl l) (good b i) e h = rw (converting_good from to bytes out (leb-true bytes_limit (length out) l) b i e) tt

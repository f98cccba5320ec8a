-- A converter refuses by 2 to 10 what it does not take. Assumes nothing.
use mathlib.Core.List.{List}
use Prim.Native.Nat.{ℕ}
use native.Mathlib.Omega.{arith}
use Rattle.model.specs.Limits.{narrow_limit}
use Rattle.model.specs.Rules.{wide}
use Rattle.model.specs.Format.{byte, number, rule_set, whole}
use Rattle.laws_tables.proofs.Refusals.{Faulty, either, and_then_faulty, byte_faulty, number_faulty, rule_set_faulty}
use Rattle.converter_model.specs.Converter.{opening, convertible}

pub convertible_faulty : (version : ℕ) (bs : List ℕ) → Faulty (convertible version bs)
unfolding convertible opening
convertible_faulty version bs =
    either (whole bs) _ _
    (and_then_faulty (opening version bs) (λ n i. rule_set bs)
    (and_then_faulty (byte bs version version 3 4) (λ v i. number (wide version) bs 1 narrow_limit 4 i) (byte_faulty bs version version 3 4 (omega arith) (omega arith))
    (λ v i. number_faulty (wide version) bs 1 narrow_limit 4 i (omega arith) (omega arith)))
    (λ n i. rule_set_faulty bs))
    (omega arith)

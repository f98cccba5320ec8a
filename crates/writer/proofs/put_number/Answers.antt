-- `writer::put_number` meets its contract: each way out is a case of the definition. Assumes nothing.
use mathlib.Core.Path.{◌≡◌, sym, ◌∙◌}
use mathlib.Core.Bool.{true, false}
use mathlib.Core.List.{List, [], ◌∷◌}
use Prim.Native.Nat.{ℕ, ◌+◌, ◌-◌, ◌/◌, ◌%◌}
use native.Mathlib.Omega.{arith}
use Rattle.model.specs.Rules.{wide}
use Rattle.model.specs.Format.{number_bytes}
use Rattle.parsing.proofs.Lists.{set_part}
use Rattle.parsing.proofs.Numbers.{most_of}
use Rattle.writer.proofs.Numbers.{number_below, number_above, number_stored}
use Rattle.writer.proofs.put_number.Goals.{Else-is_wide, then-v-low-via-then-v-low, then-v-low-via-else-v-low+then-high-v}
use Rattle.writer.proofs.put_number.Goals as goal

pub returns-then-v-low-clause-written : goal.returns-then-v-low-clause-written
returns-then-v-low-clause-written c =
    elim c.then-v-low.branch [
      | then-v-low-via-then-v-low w ↦ number_below _ _ _ _ _ _ _ w.if-v-low.true _
      | then-v-low-via-else-v-low+then-high-v w ↦ number_above _ _ _ _ _ _ _ w.if-v-low.false w.if-high-v.true _
    ]

-- both bytes of a number, from those of the number that was taken apart
bytes_of : (v n : ℕ) {bs : List ℕ} → bs ≡ (n / 256) % 256 ∷ n % 256 ∷ [] → (n / 256) % 256 ≡ v / 256 → n % 256 ≡ v % 256 → bs ≡ v / 256 ∷ v % 256 ∷ []
bytes_of v n e high low = cc

pub returns-then-is_wide-clause-written : goal.returns-then-is_wide-clause-written
unfolding number_bytes
returns-then-is_wide-clause-written c =
    let a = c.args in
    let two : (a.i + 2) - a.i ≡ 2 = omega arith in
    let bytes = bytes_of a.v _ c.to_be_bytes.ensures (omega (arith, c.ranges.v.fits)) (omega (arith, c.ranges.v.fits)) in
    rw (c.copy_from_slice.ensures.after, bytes, two)
    (number_stored a.v a.i true a.version a.low a.high a.refusal a.out.now (sym c.is_wide.ensures ∙ c.if-is_wide.true) c.if-v-low.false c.if-high-v.false c.requires.1)

-- one byte
narrow : (c : Else-is_wide) → wide c.args.version ≡ false
narrow c = sym c.is_wide.ensures ∙ c.if-is_wide.false

pub overflow_cast-out : goal.overflow_cast-out
overflow_cast-out c = omega (arith, most_of false _ (narrow (goal.at.overflow_cast-out c).Else-is_wide))

pub returns-clause-written : goal.returns-clause-written
unfolding number_bytes
returns-clause-written c =
    let a = c.args in
    let room = c.requires.1 in
    rw (set_part a.out.now a.i a.v (omega arith)) (number_stored a.v a.i false a.version a.low a.high a.refusal a.out.now (narrow c) c.if-v-low.false c.if-high-v.false (omega arith))

-- `columns::put_head` meets its contract. Assumes nothing.
use mathlib.Core.Path.{◌≡◌, refl, ap, ◌∙◌}
use mathlib.Core.List.{◌∷◌, ◌++◌}
use Prim.Native.Nat.{ℕ, ◌-◌}
use native.Mathlib.Omega.{arith}
use lib.Seq.{sets}
use borrow.Rule.Slice.PartMut.{put_mid}
use Rattle.model.specs.Format.{big_endian}
use Rattle.columns_model.specs.Differences.{two_bytes}
use Rattle.columns.proofs.Head.{head_written}
use Rattle.columns.proofs.Parts.{part_written}
use Rattle.columns.proofs.put_head.Goals as goal

pub returns : goal.returns
unfolding big_endian
returns c =
    let a = c.args in
    let n : ℕ = c.store_length.result - 4 in
    let length : put_mid 0 4 a.out.now c.copy_from_slice.new.self ≡ sets a.out.now 0 (big_endian n) =
    rw (c.copy_from_slice.ensures.after, c.to_be_bytes.ensures) (part_written a.out.now (big_endian n) 0 4 refl (omega arith) (omega arith))
    in
    head_written n a.t a.f a.out.now _ c.put_number.new.out c.put_number-2.new.out length c.put_number.ensures c.put_number-2.ensures
    ∙ ap (λ (k : ℕ). sets a.out.now 0 (big_endian (k - 4) ++ (1 ∷ (two_bytes a.t ++ two_bytes a.f)))) c.store_length.ensures

-- `columns::numbers::put_number` meets its contract. Assumes nothing.
use mathlib.Core.Path.{◌≡◌}
use Prim.Native.Nat.{◌+◌, ◌/◌, ◌%◌}
use native.Mathlib.Omega.{arith}
use Rattle.columns_model.specs.Differences.{two_bytes}
use Rattle.columns.proofs.Parts.{part_written}
use Rattle.columns.proofs.numbers.put_number.Goals as goal

pub returns : goal.returns
unfolding two_bytes
returns c =
    let a = c.args in
    let high : (a.n / 256) % 256 ≡ a.n / 256 = omega (arith, c.ranges.n.fits) in
    rw (c.copy_from_slice.ensures.after, c.to_be_bytes.ensures, high) (part_written a.out.now (two_bytes a.n) a.at (a.at + 2) (omega arith) (omega arith) c.requires)

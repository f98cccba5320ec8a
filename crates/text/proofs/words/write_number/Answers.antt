-- `text::words::write_number` meets its contract: a byte, and the digits behind it. Assumes nothing.
use mathlib.Core.Path.{◌∙◌}
use native.Mathlib.Omega.{arith}
use lib.ListN.{length-set}
use Rattle.text.proofs.Writing.{writes_byte, writes_append}
use Rattle.text.proofs.words.write_number.Goals as goal

pub write_decimal-requires : goal.write_decimal-requires
write_decimal-requires c = simp length-set (omega arith)

pub shape_of-out : goal.shape_of-out
shape_of-out c = c.write_decimal.auto.out ∙ simp length-set

pub returns : goal.returns
returns c =
    let a = c.args in
    writes_append (writes_byte 32 a.at a.out.now (omega arith)) c.write_decimal.ensures (omega arith)

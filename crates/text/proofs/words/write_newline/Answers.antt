-- `text::words::write_newline` meets its contract. Assumes nothing.
use native.Mathlib.Omega.{arith}
use Rattle.text.proofs.Writing.{writes_byte}
use Rattle.text.proofs.words.write_newline.Goals as goal

pub returns : goal.returns
returns c = writes_byte 10 c.args.at c.args.out.now (omega arith)

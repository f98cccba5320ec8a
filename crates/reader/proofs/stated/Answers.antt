-- `reader::stated` meets its contract: four bytes, each below 256. Assumes nothing.
use native.Mathlib.Omega.{arith}
use Rattle.model.specs.Format.{stated}
use Rattle.reader.proofs.stated.Goals as goal

pub returns : goal.returns
unfolding stated
returns c = (omega (arith, c.from_be_bytes.ensures), omega arith)

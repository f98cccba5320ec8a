-- `columns::numbers::stated_length` meets its contract. Assumes nothing.
use native.Mathlib.Omega.{arith}
use Rattle.model.specs.Format.{stated}
use Rattle.columns.proofs.numbers.stated_length.Goals as goal

pub returns : goal.returns
unfolding stated
returns c = (omega arith, omega arith)

-- `origins::origin_argument` meets its contract: the arguments of a term stand in its row. Assumes nothing.
use native.Mathlib.Omega.{arith}
use Rattle.origins.proofs.Template.{argument_within, argument_missing}
use Rattle.origins.proofs.origin_argument.Goals as goal

pub returns-then-k-from : goal.returns-then-k-from
returns-then-k-from c = argument_within c.args.table.now c.args.j c.args.k c.requires.1 (omega arith)

pub returns : goal.returns
returns c = argument_missing c.args.table.now c.args.j c.args.k (omega arith)

-- `writer::number` meets its contract. Assumes nothing.
use mathlib.Core.Path.{sym}
use lib.ListN.{get_or-eq_default}
use Rattle.writer.proofs.number.Goals as goal

pub returns : goal.returns
returns c = sym (get_or-eq_default c.args.form.now 0 c.if-at-form.false)

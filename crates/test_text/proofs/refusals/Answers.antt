-- `test_text::refusals` is safe: each text fits. Assumes nothing.
use lib.Dec.{lit≤}
use Rattle.model.specs.Lists.{collect}
use Rattle.model.specs.Text.{line, decimal, digits, text}
use Rattle.test_text.proofs.refusals.Goals as goal

pub show-requires : goal.show-requires
unfolding collect line decimal digits text
show-requires c = (tt, lit≤ tt)

pub show-requires-2 : goal.show-requires-2
unfolding collect line decimal digits text
show-requires-2 c = (tt, lit≤ tt)

pub show-requires-3 : goal.show-requires-3
unfolding collect line decimal digits text
show-requires-3 c = (tt, lit≤ tt)

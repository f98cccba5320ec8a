-- `text::words::digit_count` meets its contract. The loop's invariant: the digits of what is left and those passed are those of `n`.
-- Assumes nothing.
use native.Mathlib.Omega.{arith}
use Rattle.text.proofs.Digits.{counting_start, counting_more, counting_end}
use Rattle.text.proofs.words.digit_count.Goals as goal

pub loop-rest-init : goal.loop-rest-init
loop-rest-init c = counting_start c.args.n c.ranges.n.fits

pub overflow_add-count : goal.overflow_add-count
overflow_add-count c = let h = c.loop-rest.invariant.places in omega arith

pub loop-rest-preserved : goal.loop-rest-preserved
loop-rest-preserved c = counting_more c.loop-rest.invariant (omega arith)

pub returns : goal.returns
returns c = counting_end c.loop-rest.invariant (omega arith)

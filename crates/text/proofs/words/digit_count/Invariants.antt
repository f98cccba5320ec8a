-- `text::words::digit_count` meets its contract. The loop's invariant: the digits of what is left and those passed are those of `n`.
-- Assumes nothing.
use Rattle.text.proofs.Digits.{Counting}
use Rattle.text.proofs.words.digit_count.Given as goal

abbrev pub invariant-loop-rest : goal.invariant-loop-rest
invariant-loop-rest l = Counting l.n l.count l.rest

abbrev pub decreases-loop-rest : goal.decreases-loop-rest
decreases-loop-rest l = l.rest

-- `text::words::write_decimal` meets its contract. The loop's invariant: the digits from the `i`-th on are written, and `rest` has those before it.
-- Assumes nothing.
use Rattle.text.proofs.Digits.{Spelling}
use Rattle.text.proofs.words.write_decimal.Given as goal

abbrev pub invariant-loop-i : goal.invariant-loop-i
invariant-loop-i l = Spelling l.n l.at l.initial.out l.out l.i l.rest

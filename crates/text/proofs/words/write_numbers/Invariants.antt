-- `text::words::write_numbers` meets its contract. The loop's invariant: the numbers so far are written. Assumes nothing.
use Rattle.text.specs.Writing.{Writes}
use Rattle.laws_tables.specs.Lines.{spaced}
use lib.ListN.{take}
use Rattle.text.proofs.words.write_numbers.Given as goal

abbrev pub invariant-loop-n : goal.invariant-loop-n
invariant-loop-n l = Writes (spaced (take l.n-index l.numbers)) l.at l.initial.out l.out l.end

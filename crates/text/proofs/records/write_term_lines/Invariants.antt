-- `text::records::write_term_lines` meets its contract. The loop's invariant: the first `i` lines are written. Assumes nothing.
use Rattle.text.specs.Writing.{Writes}
use Rattle.text.specs.Lines.{term_lines}
use Rattle.text.proofs.records.write_term_lines.Given as goal

abbrev pub invariant-loop-i : goal.invariant-loop-i
invariant-loop-i l = Writes (term_lines l.terms l.i) l.at l.initial.out l.out l.end

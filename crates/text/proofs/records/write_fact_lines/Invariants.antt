-- `text::records::write_fact_lines` meets its contract. The loop's invariant: the first `i` lines are written. Assumes nothing.
use Rattle.text.specs.Writing.{Writes}
use Rattle.text.specs.Lines.{fact_lines}
use Rattle.text.proofs.records.write_fact_lines.Given as goal

abbrev pub invariant-loop-i : goal.invariant-loop-i
invariant-loop-i l = Writes (fact_lines l.arities l.facts l.i) l.at l.initial.out l.out l.end

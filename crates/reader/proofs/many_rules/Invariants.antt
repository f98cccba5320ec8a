-- `reader::many_rules` meets its contract: between turns the loop is as `Rows` says. Assumes nothing.
use Rattle.model.specs.Format.{signed, rule}
use Rattle.model.specs.Form.{rule_width, rules_length, rule_row}
use Rattle.parsing.proofs.Many.{Anything, Rows}
use Rattle.reader.proofs.many_rules.Given as goal

abbrev pub invariant-loop-k : goal.invariant-loop-k
invariant-loop-k l =
    Rows (rule l.bytes (signed l.version l.arities)) Anything rule_row rule_width rules_length l.n l.i l.initial.rows l.k l.at tt l.rows

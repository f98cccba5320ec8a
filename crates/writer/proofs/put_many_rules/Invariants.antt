-- `writer::put_many_rules` meets its contract: between turns the loop is as `Turns` says. Assumes nothing.
use Prim.Native.Nat.{◌-◌}
use Rattle.model.specs.Rules.{wide}
use Rattle.model.specs.Format.{signed, rule, rule_bytes}
use Rattle.model.specs.Form.{rule_width, rule_at}
use Rattle.parsing.proofs.Many.{Anything}
use Rattle.writer.specs.Writes.{arities_in, rule_room}
use Rattle.writer.proofs.Turns.{Turns}
use Rattle.writer.proofs.put_many_rules.Given as goal

abbrev pub invariant-loop-k : goal.invariant-loop-k
invariant-loop-k l =
    Turns (λ bs. rule bs (signed l.version (arities_in l.form l.n))) Anything (rule_at l.form (arities_in l.form l.n)) (rule_bytes (wide l.version)) rule_width rule_room 2 l.count l.i l.initial.out l.k l.end tt l.out

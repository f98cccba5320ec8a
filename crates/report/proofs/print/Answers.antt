-- `report::print` meets its contract: refusal 1 for a list too short, 18 for a number that is no depth, else the check's answer and its text.
-- Assumes nothing.
use mathlib.Core.Path.{sym, ◌∙◌}
use native.Mathlib.Omega.{arith}
use Rattle.report.proofs.Printing.{terms_short, facts_short, out_short, no_depth, print_done}
use Rattle.dmfa.proofs.Checking.{depth_told, no_depth_told}
use Rattle.report.proofs.print.Goals.{then-terms-lt-TERMS_FRONT-via-then-terms-lt-TERMS_FRONT, then-terms-lt-TERMS_FRONT-via-else-terms-lt-TERMS_FRONT+then-facts-lt-FACTS_FRONT, then-terms-lt-TERMS_FRONT-via-else-terms-lt-TERMS_FRONT+else-facts-lt-FACTS_FRONT+then-out-lt-TEXT_ROOM}
use Rattle.report.proofs.print.Goals as goal

pub returns-then-terms-lt-TERMS_FRONT : goal.returns-then-terms-lt-TERMS_FRONT
returns-then-terms-lt-TERMS_FRONT c =
    elim c.then-terms-lt-TERMS_FRONT.branch [
      | then-terms-lt-TERMS_FRONT-via-then-terms-lt-TERMS_FRONT w ↦ terms_short _ _ _ _ _ w.if-terms-lt-TERMS_FRONT.true
      | then-terms-lt-TERMS_FRONT-via-else-terms-lt-TERMS_FRONT+then-facts-lt-FACTS_FRONT w ↦ facts_short _ _ _ _ _ w.if-terms-lt-TERMS_FRONT.false w.if-facts-lt-FACTS_FRONT.true
      | then-terms-lt-TERMS_FRONT-via-else-terms-lt-TERMS_FRONT+else-facts-lt-FACTS_FRONT+then-out-lt-TEXT_ROOM w ↦ out_short _ _ _ _ _ w.if-terms-lt-TERMS_FRONT.false w.if-facts-lt-FACTS_FRONT.false w.if-out-lt-TEXT_ROOM.true
    ]

pub returns-then-not-is_depth : goal.returns-then-not-is_depth
returns-then-not-is_depth c = no_depth _ _ _ _ _ (omega arith) (omega arith) (omega arith) (no_depth_told c.args.depth (sym c.is_depth.ensures ∙ c.if-not-is_depth.true))

pub write_answer-requires : goal.write_answer-requires
write_answer-requires c = let a = c.args in ((a.depth, a.terms.now, a.facts.now, c.check-verdict.ensures), omega arith)

pub returns : goal.returns
returns c =
    print_done _ _ _ _ _ (omega arith) (omega arith) (omega arith) (depth_told c.args.depth (sym c.is_depth.ensures ∙ c.if-not-is_depth.false)) _ c.check-verdict.ensures c.write_answer.ensures

-- `dmfa::check_by` meets its contract. Assumes nothing.
use mathlib.Core.Path.{refl}
use native.Mathlib.Omega.{arith}
use Rattle.dmfa.proofs.Checking.{answer_few, answer_left}
use Rattle.dmfa.proofs.check_by.Goals as goal

pub judge-requires : goal.judge-requires
judge-requires c = record { deep = c.requires.0.deep; held = c.requires.0.held; numbered = c.requires.0.numbered; found = c.requires.1; kept = c.requires.2 }

pub overflow_mul-answer : goal.overflow_mul-answer
overflow_mul-answer c = omega (arith, answer_few c.args.depth c.args.form.now c.requires.0.held c.in_ok-answer.answer c.judge.new.terms c.judge.new.facts c.in_ok-answer.ensures)

pub fill-requires : goal.fill-requires
fill-requires c =
    let f = answer_few c.args.depth c.args.form.now c.requires.0.held c.in_ok-answer.answer c.judge.new.terms c.judge.new.facts c.in_ok-answer.ensures in
    (omega (arith, f.0, c.requires.1.wide), omega (arith, f.0), c.requires.0.terms_long)

pub overflow_mul-answer-2 : goal.overflow_mul-answer-2
overflow_mul-answer-2 c = omega (arith, answer_few c.args.depth c.args.form.now c.requires.0.held c.in_ok-answer.answer c.judge.new.terms c.judge.new.facts c.in_ok-answer.ensures)

pub fill-requires-2 : goal.fill-requires-2
fill-requires-2 c =
    let f = answer_few c.args.depth c.args.form.now c.requires.0.held c.in_ok-answer.answer c.judge.new.terms c.judge.new.facts c.in_ok-answer.ensures in
    (omega (arith, f.1, c.requires.2.limited.fits), omega (arith, f.1), c.requires.0.facts_long)

pub returns-in_err-answer : goal.returns-in_err-answer
returns-in_err-answer c = rw c.from_residual.ensures (c.in_err-answer.ensures, refl, refl)

pub returns : goal.returns
returns c =
    let a = c.args in
    answer_left a.depth a.form.now c.requires.0.held c.in_ok-answer.answer c.judge.new.terms c.judge.new.facts c.in_ok-answer.ensures a.terms.now a.facts.now
    c.fill.new.table c.fill-2.new.table c.fill.ensures c.fill-2.ensures

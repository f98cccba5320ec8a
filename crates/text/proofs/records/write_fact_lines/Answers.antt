-- `text::records::write_fact_lines` meets its contract. The loop's invariant: the first `i` lines are written. Assumes nothing.
use mathlib.Core.Path.{◌≡◌}
use Prim.Native.Nat.{ℕ}
use native.Mathlib.Omega.{arith}
use Rattle.model.specs.Text.{line, fact_word, fact_numbers, lines}
use Rattle.text.proofs.Writing.{writes_none, writes_append}
use Rattle.text.proofs.Lines.{lines_more, lines_within}
use Rattle.text.proofs.Rows.{fewer_facts}
use Rattle.text.proofs.records.write_fact_lines.Goals as goal

pub loop-i-init : goal.loop-i-init
unfolding lines
loop-i-init c = writes_none c.args.at c.args.out.now

pub write_fact_line-end-requires : goal.write_fact_line-end-requires
write_fact_line-end-requires c =
    let e = c.loop-i.invariant.next in
    let l = c.loop-i.auto.out in
    let w = lines_within (λ (i : ℕ). line fact_word (fact_numbers c.args.arities.now c.args.facts.now i)) c.args.count c.loop-i.i c.loop-i-test.true in
    let p = c.requires.1 in
    (fewer_facts c.requires.0 _ (omega arith), omega arith)

pub loop-i-preserved : goal.loop-i-preserved
loop-i-preserved c =
    rw (lines_more (λ (i : ℕ). line fact_word (fact_numbers c.args.arities.now c.args.facts.now i)) c.loop-i.i)
    (writes_append c.loop-i.invariant c.write_fact_line-end.ensures (omega arith))

pub returns : goal.returns
returns c = let e : c.loop-i.i ≡ c.args.count = omega arith in rw e at c.loop-i.invariant

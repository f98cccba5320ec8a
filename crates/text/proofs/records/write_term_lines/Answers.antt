-- `text::records::write_term_lines` meets its contract. The loop's invariant: the first `i` lines are written. Assumes nothing.
use mathlib.Core.Path.{◌≡◌}
use mathlib.Core.List.{◌∷◌}
use Prim.Native.Nat.{ℕ}
use native.Mathlib.Omega.{arith}
use Rattle.model.specs.Text.{line, term_word, term_numbers, lines}
use Rattle.text.proofs.Writing.{writes_none, writes_append}
use Rattle.text.proofs.Lines.{lines_more, lines_within}
use Rattle.text.proofs.Rows.{fewer_terms}
use Rattle.text.proofs.records.write_term_lines.Goals as goal

pub loop-i-init : goal.loop-i-init
unfolding lines
loop-i-init c = writes_none c.args.at c.args.out.now

pub write_term_line-end-requires : goal.write_term_line-end-requires
write_term_line-end-requires c =
    let e = c.loop-i.invariant.next in
    let l = c.loop-i.auto.out in
    let w = lines_within (λ (i : ℕ). line term_word (i ∷ term_numbers c.args.terms.now i)) c.args.count c.loop-i.i c.loop-i-test.true in
    let p = c.requires.1 in
    (fewer_terms c.requires.0 _ (omega arith), omega arith)

pub loop-i-preserved : goal.loop-i-preserved
loop-i-preserved c =
    rw (lines_more (λ (i : ℕ). line term_word (i ∷ term_numbers c.args.terms.now i)) c.loop-i.i)
    (writes_append c.loop-i.invariant c.write_term_line-end.ensures (omega arith))

pub returns : goal.returns
returns c = let e : c.loop-i.i ≡ c.args.count = omega arith in rw e at c.loop-i.invariant

-- `text::records::write_loop_line` meets its contract: a word, and the term's record. Assumes nothing.
use mathlib.Core.List.{List, [], ◌∷◌, ◌++◌}
use Prim.Native.Nat.{ℕ}
use native.Mathlib.Omega.{arith}
use Rattle.model.specs.Text.{loop_word, term_numbers}
use Rattle.laws_tables.specs.Lines.{spaced}
use Rattle.text.proofs.Writing.{room_first, room_behind, writes_append}
use Rattle.text.proofs.Lines.{line_parts}
use Rattle.text.proofs.records.write_loop_line.Goals as goal

pub write_word-behind_word-requires : goal.write_word-behind_word-requires
write_word-behind_word-requires c =
    let a = c.args in
    let numbers : List ℕ = term_numbers a.terms.now a.t in
    let roomy = rw (line_parts loop_word numbers) at c.requires.1 in
    room_first loop_word (spaced numbers ++ (10 ∷ [])) a.at a.out.now roomy

pub write_term-requires : goal.write_term-requires
write_term-requires c =
    let a = c.args in
    let numbers : List ℕ = term_numbers a.terms.now a.t in
    let roomy = rw (line_parts loop_word numbers) at c.requires.1 in
    let w = c.write_word-behind_word in
    (c.requires.0, room_behind (spaced numbers ++ (10 ∷ [])) w.ensures roomy w.auto.out)

pub returns : goal.returns
returns c =
    let p = c.requires.1 in
    rw (line_parts loop_word (term_numbers c.args.terms.now c.args.t))
    (writes_append c.write_word-behind_word.ensures c.write_term.ensures (omega arith))

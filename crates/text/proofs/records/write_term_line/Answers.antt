-- `text::records::write_term_line` meets its contract: a word, a number, and the term's record. Assumes nothing.
use mathlib.Core.List.{List, [], ◌∷◌, ◌++◌}
use Prim.Native.Nat.{ℕ}
use native.Mathlib.Omega.{arith}
use Rattle.model.specs.Text.{decimal, term_word, term_numbers}
use Rattle.laws_tables.specs.Lines.{spaced}
use Rattle.text.proofs.Writing.{room_first, room_behind, writes_append}
use Rattle.text.proofs.Lines.{line_numbered}
use Rattle.text.proofs.records.write_term_line.Goals as goal

pub write_word-behind_word-requires : goal.write_word-behind_word-requires
write_word-behind_word-requires c =
    let a = c.args in
    let number : List ℕ = 32 ∷ decimal a.i in
    let ending : List ℕ = spaced (term_numbers a.terms.now a.i) ++ (10 ∷ []) in
    let roomy = rw (line_numbered term_word a.i (term_numbers a.terms.now a.i)) at c.requires.1 in
    room_first term_word (number ++ ending) a.at a.out.now roomy

pub write_number-behind_number-requires : goal.write_number-behind_number-requires
write_number-behind_number-requires c =
    let a = c.args in
    let number : List ℕ = 32 ∷ decimal a.i in
    let ending : List ℕ = spaced (term_numbers a.terms.now a.i) ++ (10 ∷ []) in
    let roomy = rw (line_numbered term_word a.i (term_numbers a.terms.now a.i)) at c.requires.1 in
    let w = c.write_word-behind_word in
    let behind = room_behind (number ++ ending) w.ensures roomy w.auto.out in
    room_first number ending w.result w.new.out behind

pub write_term-requires : goal.write_term-requires
write_term-requires c =
    let a = c.args in
    let number : List ℕ = 32 ∷ decimal a.i in
    let ending : List ℕ = spaced (term_numbers a.terms.now a.i) ++ (10 ∷ []) in
    let roomy = rw (line_numbered term_word a.i (term_numbers a.terms.now a.i)) at c.requires.1 in
    let w = c.write_word-behind_word in
    let behind = room_behind (number ++ ending) w.ensures roomy w.auto.out in
    let n = c.write_number-behind_number in
    (c.requires.0, room_behind ending n.ensures behind n.auto.out)

pub returns : goal.returns
returns c =
    let a = c.args in
    let number : List ℕ = 32 ∷ decimal a.i in
    let ending : List ℕ = spaced (term_numbers a.terms.now a.i) ++ (10 ∷ []) in
    let roomy = rw (line_numbered term_word a.i (term_numbers a.terms.now a.i)) at c.requires.1 in
    let w = c.write_word-behind_word in
    let behind = room_behind (number ++ ending) w.ensures roomy w.auto.out in
    let p = c.requires.1 in
    rw (line_numbered term_word a.i (term_numbers a.terms.now a.i))
    (writes_append w.ensures (writes_append c.write_number-behind_number.ensures c.write_term.ensures (omega arith)) (omega arith))

-- `text::records::write_refusal` meets its contract: a word, two numbers and a newline. Assumes nothing.
use mathlib.Core.List.{List, [], ◌∷◌, ◌++◌}
use Prim.Native.Nat.{ℕ}
use native.Mathlib.Omega.{arith}
use Rattle.model.specs.Text.{refused_word}
use Rattle.laws_tables.specs.Lines.{spaced}
use Rattle.text.proofs.Writing.{room_first, room_behind, writes_append}
use Rattle.text.proofs.Lines.{line_ended}
use Rattle.text.proofs.records.write_refusal.Goals as goal

pub write_start-end-requires : goal.write_start-end-requires
write_start-end-requires c =
    let a = c.args in
    let begun : List ℕ = refused_word ++ spaced (a.number ∷ a.place ∷ []) in
    let roomy = rw (line_ended refused_word (a.number ∷ a.place ∷ [])) at c.requires in
    room_first begun (10 ∷ []) 0 a.out.now roomy

pub write_newline-requires : goal.write_newline-requires
write_newline-requires c =
    let a = c.args in
    let begun : List ℕ = refused_word ++ spaced (a.number ∷ a.place ∷ []) in
    let roomy = rw (line_ended refused_word (a.number ∷ a.place ∷ [])) at c.requires in
    let w = c.write_start-end in
    room_behind (10 ∷ []) w.ensures roomy w.auto.out

pub returns : goal.returns
returns c =
    let a = c.args in
    rw (line_ended refused_word (a.number ∷ a.place ∷ [])) (writes_append c.write_start-end.ensures c.write_newline.ensures (omega arith))

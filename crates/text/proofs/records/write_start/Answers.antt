-- `text::records::write_start` meets its contract: a word and two numbers. Assumes nothing.
use mathlib.Core.List.{List, ◌∷◌, ◌++◌}
use Prim.Native.Nat.{ℕ}
use native.Mathlib.Omega.{arith}
use Rattle.model.specs.Text.{decimal}
use Rattle.text.proofs.Writing.{room_first, room_behind, writes_append}
use Rattle.text.proofs.Lines.{spaced_two}
use Rattle.text.proofs.records.write_start.Goals as goal

pub write_word-behind_word-requires : goal.write_word-behind_word-requires
write_word-behind_word-requires c =
    let a = c.args in
    let first : List ℕ = 32 ∷ decimal a.a in
    let second : List ℕ = 32 ∷ decimal a.b in
    let roomy = rw (spaced_two a.a a.b) at c.requires in
    room_first a.word.now (first ++ second) 0 a.out.now roomy

pub write_number-behind_a-requires : goal.write_number-behind_a-requires
write_number-behind_a-requires c =
    let a = c.args in
    let first : List ℕ = 32 ∷ decimal a.a in
    let second : List ℕ = 32 ∷ decimal a.b in
    let roomy = rw (spaced_two a.a a.b) at c.requires in
    let w = c.write_word-behind_word in
    let behind = room_behind (first ++ second) w.ensures roomy w.auto.out in
    room_first first second w.result w.new.out behind

pub write_number-requires : goal.write_number-requires
write_number-requires c =
    let a = c.args in
    let first : List ℕ = 32 ∷ decimal a.a in
    let second : List ℕ = 32 ∷ decimal a.b in
    let roomy = rw (spaced_two a.a a.b) at c.requires in
    let w = c.write_word-behind_word in
    let behind = room_behind (first ++ second) w.ensures roomy w.auto.out in
    let n = c.write_number-behind_a in
    room_behind second n.ensures behind n.auto.out

pub returns : goal.returns
returns c =
    let a = c.args in
    let first : List ℕ = 32 ∷ decimal a.a in
    let second : List ℕ = 32 ∷ decimal a.b in
    let roomy = rw (spaced_two a.a a.b) at c.requires in
    let w = c.write_word-behind_word in
    let behind = room_behind (first ++ second) w.ensures roomy w.auto.out in
    rw (spaced_two a.a a.b)
    (writes_append w.ensures (writes_append c.write_number-behind_a.ensures c.write_number.ensures (omega arith)) (omega arith))

-- `text::records::write_header` meets its contract: a word, three numbers and a newline. Assumes nothing.
use mathlib.Core.Path.{◌∙◌}
use mathlib.Core.List.{List, [], ◌∷◌, ◌++◌}
use Prim.Native.Nat.{ℕ}
use native.Mathlib.Omega.{arith}
use Rattle.model.specs.Text.{decimal}
use Rattle.laws_tables.specs.Lines.{spaced}
use Rattle.text.proofs.Writing.{room_first, room_behind, writes_append}
use Rattle.text.proofs.Lines.{line_header}
use Rattle.text.proofs.records.write_header.Goals as goal

pub write_start-behind_facts-requires : goal.write_start-behind_facts-requires
write_start-behind_facts-requires c =
    let a = c.args in
    let begun : List ℕ = a.word.now ++ spaced (a.stage ∷ a.f ∷ []) in
    let number : List ℕ = 32 ∷ decimal a.t in
    let roomy = rw (line_header a.word.now a.stage a.f a.t) at c.requires in
    room_first begun number 0 a.out.now (room_first (begun ++ number) (10 ∷ []) 0 a.out.now roomy)

pub write_number-end-requires : goal.write_number-end-requires
write_number-end-requires c =
    let a = c.args in
    let begun : List ℕ = a.word.now ++ spaced (a.stage ∷ a.f ∷ []) in
    let number : List ℕ = 32 ∷ decimal a.t in
    let roomy = rw (line_header a.word.now a.stage a.f a.t) at c.requires in
    let w = c.write_start-behind_facts in
    room_behind number w.ensures (room_first (begun ++ number) (10 ∷ []) 0 a.out.now roomy) w.auto.out

pub write_newline-requires : goal.write_newline-requires
write_newline-requires c =
    let a = c.args in
    let roomy = rw (line_header a.word.now a.stage a.f a.t) at c.requires in
    let n = c.write_number-end in
    let w = c.write_start-behind_facts in
    room_behind (10 ∷ []) (writes_append w.ensures n.ensures (omega arith)) roomy (n.auto.out ∙ w.auto.out)

pub returns : goal.returns
returns c =
    let a = c.args in
    rw (line_header a.word.now a.stage a.f a.t)
    (writes_append (writes_append c.write_start-behind_facts.ensures c.write_number-end.ensures (omega arith)) c.write_newline.ensures (omega arith))

-- `text::records::write_record` meets its contract: a number, numbers, and a newline. Assumes nothing.
use mathlib.Core.Path.{◌∙◌}
use mathlib.Core.List.{List, [], ◌∷◌, ◌++◌}
use Prim.Native.Nat.{ℕ}
use native.Mathlib.Omega.{arith}
use Rattle.model.specs.Lists.{collect}
use Rattle.model.specs.Text.{decimal}
use Rattle.laws_tables.specs.Lines.{spaced}
use Rattle.text.specs.Writing.{Room}
use Rattle.text.proofs.Writing.{room_first, room_behind, writes_append}
use Rattle.text.proofs.records.write_record.Goals as goal

pub write_number-behind_head-requires : goal.write_number-behind_head-requires
unfolding collect
write_number-behind_head-requires c =
    let a = c.args in
    let first : List ℕ = 32 ∷ decimal a.head in
    let others : List ℕ = spaced a.arguments.now in
    let roomy : Room ((first ++ others) ++ (10 ∷ [])) a.at a.out.now = c.requires in
    rw c.from.ensures (room_first first others a.at a.out.now (room_first (first ++ others) (10 ∷ []) a.at a.out.now roomy))

pub write_numbers-behind_arguments-requires : goal.write_numbers-behind_arguments-requires
unfolding collect
write_numbers-behind_arguments-requires c =
    let a = c.args in
    let first : List ℕ = 32 ∷ decimal a.head in
    let others : List ℕ = spaced a.arguments.now in
    let roomy : Room ((first ++ others) ++ (10 ∷ [])) a.at a.out.now = c.requires in
    let n = c.write_number-behind_head in
    room_behind others (rw c.from.ensures at n.ensures) (room_first (first ++ others) (10 ∷ []) a.at a.out.now roomy) n.auto.out

pub write_newline-requires : goal.write_newline-requires
unfolding collect
write_newline-requires c =
    let a = c.args in
    let first : List ℕ = 32 ∷ decimal a.head in
    let others : List ℕ = spaced a.arguments.now in
    let roomy : Room ((first ++ others) ++ (10 ∷ [])) a.at a.out.now = c.requires in
    let m = c.write_numbers-behind_arguments in
    let n = c.write_number-behind_head in
    room_behind (10 ∷ []) (writes_append (rw c.from.ensures at n.ensures) m.ensures (omega arith)) roomy (m.auto.out ∙ n.auto.out)

pub returns : goal.returns
unfolding collect
returns c =
    let n = rw c.from.ensures at c.write_number-behind_head.ensures in
    writes_append (writes_append n c.write_numbers-behind_arguments.ensures (omega arith)) c.write_newline.ensures (omega arith)

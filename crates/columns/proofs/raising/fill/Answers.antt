-- `columns::raising::fill` meets its contract. Assumes nothing.
use mathlib.Core.Path.{◌≡◌, ap, ◌∙◌}
use Prim.Native.Nat.{ℕ, ◌*◌, ◌-◌, ◌≤◌}
use native.Mathlib.Omega.{arith}
use lib.ListN.{length, drop, replicate, length-drop, length-replicate}
use lib.Seq.{length-take-le}
use Rattle.columns_model.specs.Differences.{numbers_of}
use Rattle.columns_model.proofs.Differences.{length_numbers}
use Rattle.columns.proofs.Parts.{part_written}
use Rattle.columns.proofs.Placed.{front_filled}
use Rattle.columns.proofs.raising.fill.Goals as goal

pub returns : goal.returns
returns c =
    let a = c.args in
    let t = c.take_columns.new.table in
    let w : ℕ = a.shape.width in
    let n : ℕ = a.shape.count in
    let k : ℕ = a.front - n * w in
    let (few, front) = c.requires.width_bound in
    let same : length t ≡ length a.table.now = c.take_columns.auto.table in
    let behind = length-drop (n * w) t in
    let part = length-take-le k (drop (n * w) t) (omega arith) in
    let zeros = c.fill.ensures.after (λ y e. e) ∙ ap (λ (l : ℕ). replicate l 0) part in
    let numbers : w * n ≤ length (numbers_of (drop a.at a.bytes.now)) =
    let e = length_numbers (drop a.at a.bytes.now) in
    let f = length-drop a.at a.bytes.now in
    let p = c.requires.has.room in
    omega arith
    in
    rw zeros
    (part_written t (replicate k 0) (n * w) a.front (length-replicate k 0) few (omega arith)
    ∙ front_filled w n a.front (numbers_of (drop a.at a.bytes.now)) a.table.now t numbers few front c.take_columns.ensures)

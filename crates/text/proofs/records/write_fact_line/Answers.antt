-- `text::records::write_fact_line` meets its contract: a word, and the fact's record, whose numbers are a part of the table. Assumes nothing.
use mathlib.Core.Path.{subst}
use mathlib.Core.List.{List, [], ◌∷◌, ◌++◌}
use Prim.Native.Nat.{ℕ}
use native.Mathlib.Omega.{arith}
use Rattle.model.specs.Text.{fact_word, fact_numbers}
use Rattle.text.specs.Writing.{Room}
use Rattle.text.proofs.Writing.{room_first, room_behind, writes_append}
use Rattle.text.proofs.Lines.{line_parts}
use Rattle.text.proofs.Rows.{fact_numbers_part}
use Rattle.laws_tables.specs.Lines.{spaced}
use Rattle.text.proofs.records.write_fact_line.Goals as goal

pub write_word-behind_word-requires : goal.write_word-behind_word-requires
write_word-behind_word-requires c =
    let a = c.args in
    let numbers : List ℕ = fact_numbers a.arities.now a.facts.now a.i in
    let roomy = rw (line_parts fact_word numbers) at c.requires.1 in
    room_first fact_word (spaced numbers ++ (10 ∷ [])) a.at a.out.now roomy

pub offset_bounds-arities-from : goal.offset_bounds-arities-from
offset_bounds-arities-from c = let e = c.from.ensures in let h = c.requires.0.predicate c.args.i (omega arith) in let g = c.well_formed in omega arith

pub bounds-arities-from : goal.bounds-arities-from
bounds-arities-from c = let e = c.from.ensures in let h = c.requires.0.predicate c.args.i (omega arith) in omega arith

pub overflow_add-end : goal.overflow_add-end
overflow_add-end c = let e = rw c.from.ensures at c.from-2.ensures in let h = c.requires.0.arity c.args.i (omega arith) in omega arith

pub slice_bounds-write_record-end : goal.slice_bounds-write_record-end
slice_bounds-write_record-end c = let e = rw c.from.ensures at c.from-2.ensures in let h = c.requires.0.arity c.args.i (omega arith) in omega arith

pub write_record-requires : goal.write_record-requires
write_record-requires c =
    let a = c.args in
    let w = c.write_word-behind_word in
    let numbers : List ℕ = fact_numbers a.arities.now a.facts.now a.i in
    let roomy = rw (line_parts fact_word numbers) at c.requires.1 in
    let e = rw c.from.ensures at c.from-2.ensures in
    let h = c.requires.0.arity a.i (omega arith) in
    subst (λ (ns : List ℕ). Room (spaced ns ++ (10 ∷ [])) w.result w.new.out)
    (fact_numbers_part a.arities.now a.facts.now a.i _ e (omega arith))
    (room_behind (spaced numbers ++ (10 ∷ [])) w.ensures roomy w.auto.out)

pub returns : goal.returns
returns c =
    let a = c.args in
    let p = c.requires.1 in
    let e = rw c.from.ensures at c.from-2.ensures in
    let h = c.requires.0.arity a.i (omega arith) in
    rw (line_parts fact_word (fact_numbers a.arities.now a.facts.now a.i), fact_numbers_part a.arities.now a.facts.now a.i _ e (omega arith))
    (writes_append c.write_word-behind_word.ensures c.write_record.ensures (omega arith))

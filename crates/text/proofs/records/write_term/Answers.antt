-- `text::records::write_term` meets its contract: the record's numbers are a part of the table. Assumes nothing.
use mathlib.Core.Path.{subst}
use mathlib.Core.List.{List, [], ◌∷◌, ◌++◌}
use Prim.Native.Nat.{ℕ}
use native.Mathlib.Omega.{arith}
use Rattle.text.specs.Writing.{Room}
use Rattle.text.proofs.Rows.{term_numbers_part}
use Rattle.laws_tables.specs.Lines.{spaced}
use Rattle.text.proofs.records.write_term.Goals as goal

pub overflow_add-end : goal.overflow_add-end
overflow_add-end c = let e = c.from.ensures in let h = c.requires.0.arity c.args.i (omega arith) in omega arith

pub slice_bounds-write_record-end : goal.slice_bounds-write_record-end
slice_bounds-write_record-end c = let e = c.from.ensures in let h = c.requires.0.arity c.args.i (omega arith) in omega arith

pub write_record-requires : goal.write_record-requires
write_record-requires c =
    let a = c.args in
    let e = c.from.ensures in
    let h = c.requires.0.arity a.i (omega arith) in
    subst (λ (ns : List ℕ). Room (spaced ns ++ (10 ∷ [])) a.at a.out.now) (term_numbers_part a.terms.now a.i _ e (omega arith)) c.requires.1

pub returns : goal.returns
returns c =
    let a = c.args in
    let e = c.from.ensures in
    let h = c.requires.0.arity a.i (omega arith) in
    rw (term_numbers_part a.terms.now a.i _ e (omega arith)) c.write_record.ensures

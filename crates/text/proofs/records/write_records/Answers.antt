-- `text::records::write_records` meets its contract: the lines of the terms, and those of the facts. Assumes nothing.
use mathlib.Core.List.{List}
use Prim.Native.Nat.{ℕ}
use native.Mathlib.Omega.{arith}
use Rattle.text.specs.Lines.{term_lines, fact_lines}
use Rattle.text.proofs.Writing.{room_first, room_behind, writes_append}
use Rattle.text.proofs.Lines.{records_parts}
use Rattle.text.proofs.records.write_records.Goals as goal

pub write_term_lines-behind_terms-requires : goal.write_term_lines-behind_terms-requires
write_term_lines-behind_terms-requires c =
    let a = c.args in
    let of_terms : List ℕ = term_lines a.terms.now a.t in
    let of_facts : List ℕ = fact_lines a.arities.now a.facts.now a.f in
    let roomy = rw (records_parts a.arities.now a.terms.now a.facts.now a.f a.t) at c.requires.2 in
    (c.requires.0, room_first of_terms of_facts a.at a.out.now roomy)

pub write_fact_lines-requires : goal.write_fact_lines-requires
write_fact_lines-requires c =
    let a = c.args in
    let of_terms : List ℕ = term_lines a.terms.now a.t in
    let of_facts : List ℕ = fact_lines a.arities.now a.facts.now a.f in
    let roomy = rw (records_parts a.arities.now a.terms.now a.facts.now a.f a.t) at c.requires.2 in
    let w = c.write_term_lines-behind_terms in
    (c.requires.1, room_behind of_facts w.ensures roomy w.auto.out)

pub returns : goal.returns
returns c =
    let a = c.args in
    let p = c.requires.2 in
    rw (records_parts a.arities.now a.terms.now a.facts.now a.f a.t)
    (writes_append c.write_term_lines-behind_terms.ensures c.write_fact_lines.ensures (omega arith))

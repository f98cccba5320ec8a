-- `copies::copy_variable` meets its contract: by what `copy` ensures, for a variable of the set. Assumes nothing.
use mathlib.Core.Path.{sym, ◌∙◌, subst}
use Rattle.tables.specs.Rows.{rows}
use Rattle.facts.specs.Room.{TakesTerms}
use Rattle.copies.proofs.Chosen.{copied_at_yes, copied_at_no, numbered_at_yes, numbered_at_no, copy_number}
use Rattle.copies.proofs.copy_variable.Goals as goal

pub copy-m-requires : goal.copy-m-requires
copy-m-requires c =
    let a = c.args in
    let h = (sym c.contains.ensures ∙ c.if-contains.true) in
    (c.requires.0, c.requires.2 h, subst (TakesTerms a.table.now a.n) (copied_at_yes (rows 10 a.count a.terms.now) a.count a.variables a.v a.i (rows 10 a.n a.table.now) h) c.requires.3)

pub overflow_sub-next : goal.overflow_sub-next
overflow_sub-next c =
    let a = c.args in
    let d = c.copy-m in
    (copy_number a.count (rows 10 a.count a.terms.now) a.i (rows 10 a.n a.table.now) a.table.now d.new.table d.result (subst (TakesTerms a.table.now a.n) (copied_at_yes (rows 10 a.count a.terms.now) a.count a.variables a.v a.i (rows 10 a.n a.table.now) (sym c.contains.ensures ∙ c.if-contains.true)) c.requires.3).room d.ensures.rows).0

pub returns-then-contains : goal.returns-then-contains
returns-then-contains c =
    let a = c.args in
    let d = c.copy-m in
    let h = sym c.contains.ensures ∙ c.if-contains.true in
    rw c.from.ensures (
      record {
        rows = d.ensures.rows ∙ sym (copied_at_yes (rows 10 a.count a.terms.now) a.count a.variables a.v a.i (rows 10 a.n a.table.now) h);
        kept = d.ensures.kept;
      },
      sym (numbered_at_yes a.variables a.v a.numbers d.result h),
    )

pub returns : goal.returns
returns c =
    let a = c.args in
    let h = sym c.contains.ensures ∙ c.if-contains.false in (
      record {
        rows = sym (copied_at_no (rows 10 a.count a.terms.now) a.count a.variables a.v a.i (rows 10 a.n a.table.now) h);
        kept = c.requires.3.kept;
      },
      sym (numbered_at_no a.variables a.v a.numbers a.n h),
    )

-- `form_functions::functions_at` meets its contract. Assumes nothing.
use mathlib.Core.Path.{sym}
use native.Mathlib.Omega.{arith}
use Rattle.form_functions.specs.Functions.{functions_at}
use Rattle.form_functions.proofs.Numbering.{no_function}
use Rattle.form_functions.proofs.functions_at.Goals as goal

pub disjunct_count-requires : goal.disjunct_count-requires
disjunct_count-requires c =
    let h = c.requires.1 in
    (c.requires.0, omega arith)

pub skolem_count-requires : goal.skolem_count-requires
skolem_count-requires c =
    let h = c.requires.1 in
    let n = c.disjunct_count.ensures in
    let t = c.if-d-disjunct_count.true in
    (c.requires.0, omega arith, omega arith)

pub returns-then-d-disjunct_count : goal.returns-then-d-disjunct_count
unfolding functions_at
returns-then-d-disjunct_count c = c.skolem_count.ensures

pub returns-else-d-disjunct_count : goal.returns-else-d-disjunct_count
returns-else-d-disjunct_count c =
    let n = c.disjunct_count.ensures in
    let t = c.if-d-disjunct_count.false in
    sym (no_function c.args.form.now c.args.j (omega arith))

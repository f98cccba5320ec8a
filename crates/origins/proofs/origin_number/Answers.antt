-- `origins::origin_number` meets its contract, by the set that has the variable. Assumes nothing.
use mathlib.Core.Path.{sym, ap, ◌∙◌}
use Prim.Native.Nat.{ℕ, ◌+◌, ◌<◌}
use native.Mathlib.Omega.{arith}
use lib.ListN.{get_or}
use Rattle.model.specs.Lists.{row}
use Rattle.outputs.proofs.Variables.{rank_below, below_length}
use Rattle.rows.specs.Copies.{arguments_in}
use Rattle.outputs.specs.Skolem.{number_limit}
use Rattle.origins.proofs.Template.{origin_frontier, origin_other, origin_none}
use Rattle.origins.proofs.origin_number.Goals as goal

pub origin_argument-requires : goal.origin_argument-requires
origin_argument-requires c =
    let a = c.args in
    let e = c.rank.ensures in
    let q = rank_below a.frontier a.v c.requires.0 (sym c.contains.ensures ∙ c.if-contains.true) in
    let b = below_length a.frontier a.v in
    let h : a.v < 8 = c.requires.0 in
    (c.requires.1, omega arith)

pub returns-then-contains : goal.returns-then-contains
returns-then-contains c =
    let a = c.args in
    c.origin_argument.ensures ∙ ap (λ (k : ℕ). get_or (arguments_in (row 10 a.j a.table.now)) k 0) c.rank.ensures ∙ sym (origin_frontier a.frontier a.others (arguments_in (row 10 a.j a.table.now)) a.base a.v (sym c.contains.ensures ∙ c.if-contains.true))

-- at most eight variables are in a set
below : (c : goal.After-rank-then-contains-2) → c.rank-then-contains-2.result < 8
below c =
    let a = c.args in
    let e = c.rank-then-contains-2.ensures in
    let q = rank_below a.others a.v c.requires.0 (sym c.contains-2.ensures ∙ c.if-contains-2.true) in
    let b = below_length a.others a.v in
    let h : a.v < 8 = c.requires.0 in
    omega arith

pub overflow_cast-result : goal.overflow_cast-result
overflow_cast-result c = let b = below c in record { fits = omega arith }

pub overflow_add-result : goal.overflow_add-result
overflow_add-result c =
    let b = below c in
    let k : c.args.base < number_limit = c.requires.2 in
    record { fits = omega arith }

pub returns-then-contains-2 : goal.returns-then-contains-2
returns-then-contains-2 c =
    let a = c.args in
    ap (λ (k : ℕ). a.base + k) c.rank-then-contains-2.ensures ∙ sym (origin_other a.frontier a.others (arguments_in (row 10 a.j a.table.now)) a.base a.v (sym c.contains.ensures ∙ c.if-contains.false) (sym c.contains-2.ensures ∙ c.if-contains-2.true))

pub returns : goal.returns
returns c =
    let a = c.args in
    sym (origin_none a.frontier a.others (arguments_in (row 10 a.j a.table.now)) a.base a.v (sym c.contains.ensures ∙ c.if-contains.false) (sym c.contains-2.ensures ∙ c.if-contains-2.false))

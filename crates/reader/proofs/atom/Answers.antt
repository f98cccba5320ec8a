-- `reader::atom` meets its contract: the predicate, and then the variables, into one row. Assumes nothing.
use mathlib.Core.Path.{sym}
use Prim.Native.Nat.{◌<◌}
use native.Mathlib.Omega.{arith}
use lib.ListN.{length, length-set}
use Rattle.model.specs.Format.{atom}
use Rattle.parsing.proofs.Lists.{tail_zeros, tail_length, zeros_length, zeros_self}
use Rattle.parsing.proofs.Parsing.{handed_on, refuses}
use Rattle.parsing.proofs.Numbers.{number_good}
use Rattle.reader.proofs.Rows.{atom_filled}
use Rattle.reader.proofs.atom.Goals as goal
use Rattle.reader.proofs.atom.Goals.{In_ok-p}

declared : (c : In_ok-p) → c.in_ok-p.p.value < length c.args.arities.now
declared c =
    let h = number_good _ _ _ _ _ _ _ _ (sym c.in_ok-p.ensures) in
    let s = c.requires.arities.some in
    omega arith

pub returns-in_err-p : goal.returns-in_err-p
unfolding atom
returns-in_err-p c = rw (handed_on c.from_residual.ensures.1) (refuses _ _ _ _ _ _ (sym c.in_err-p.ensures))

pub bounds-row-0 : goal.bounds-row-0
bounds-row-0 c = omega (arith, zeros_length 5 _ c.requires.row_value)

pub bounds-arities-from : goal.bounds-arities-from
bounds-arities-from c = rw c.from.ensures (declared (goal.at.bounds-arities-from c).In_ok-p)

pub slice_bounds-variables-count : goal.slice_bounds-variables-count
slice_bounds-variables-count c = simp length-set (omega (arith, zeros_length 5 _ c.requires.row_value))

pub slice_bounds-variables-start : goal.slice_bounds-variables-start
slice_bounds-variables-start c = simp length-set (omega (arith, zeros_length 5 _ c.requires.row_value))

pub variables-requires : goal.variables-requires
variables-requires c =
    let z = c.requires.row_value in
    let l = tail_length 4 _ c.in_ok-p.p.value z in
    let a = c.requires.arities.small c.in_ok-p.p.value in
    (rw (c.from-n.ensures, c.from.ensures) (omega arith), zeros_self 4 _ (tail_zeros 4 _ _ z))

pub returns : goal.returns
returns c =
    atom_filled _ _ _ _ _ c.args.kept _ _ _ (sym c.in_ok-p.ensures) c.requires.row_value (rw (c.from-n.ensures, c.from.ensures) at c.variables.ensures)

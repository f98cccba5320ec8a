-- `tables::size` and `tables::size_of_arguments` meet their contracts. Assumes nothing.
use mathlib.Core.Path.{ap}
use Prim.Native.Nat.{◌<◌}
use native.Mathlib.Omega.{arith}
use Rattle.tables.specs.Terms.{arity_of, total, size_at}
use Rattle.tables.proofs.Terms.{size_at_is, arguments_of_more, arguments_of_end}
use Rattle.tables.proofs.+size_size_of_arguments.Goals as goal

pub size-returns-else-allowance-eq0 : goal.size-returns-else-allowance-eq0
size-returns-else-allowance-eq0 t c =
    let a = c.args in
    omega (arith, c.size_of_arguments.ensures, size_at_is c.requires.0 a.i c.requires.1)

pub size_of_arguments-returns-then-j-arity_at : goal.size_of_arguments-returns-then-j-arity_at
unfolding total
size_of_arguments-returns-then-j-arity_at t c =
    let a = c.args in
    rw (arguments_of_end a.terms.now a.i a.j (omega (arith, c.if-j-arity_at.true))) (omega arith)

pub size_of_arguments-returns : goal.size_of_arguments-returns
unfolding total
size_of_arguments-returns t c =
    let a = c.args in
    let h : a.j < arity_of a.terms.now a.i = omega arith in
    rw (arguments_of_more a.terms.now a.i a.j h)
    (omega (arith, c.size_of_arguments.ensures, c.size-first.ensures, ap (size_at a.terms.now) c.argument_at.ensures))

-- `form::atoms::each_disjunct` meets its contract. The loop's invariant: what is given for the first `d` disjuncts is there. Assumes nothing.
use native.Mathlib.Omega.{arith}
use borrow.Author.Rules.{rules}
use Rattle.form.proofs.Places.{few_disjuncts}
use Rattle.form.proofs.atoms.each_disjunct.Goals as goal

pub loop-d-init : goal.loop-d-init
loop-d-init g c =
    let few = few_disjuncts c.args.form.now c.requires.rule.0 c.args.i c.requires.rule.1 in
    record { few = omega (arith, c.disjunct_count-d-end.ensures); given = search rules }

pub of-requires : goal.of-requires
of-requires g c = c.requires.takes c.disjunct_group.result c.disjunct_group.ensures.0

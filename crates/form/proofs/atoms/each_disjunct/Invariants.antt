-- `form::atoms::each_disjunct` meets its contract. The loop's invariant: what is given for the first `d` disjuncts is there. Assumes nothing.
use Prim.Native.Nat.{◌≤◌}
use Rattle.form.specs.Places.{disjunct_place, Returned, Each}
use Rattle.form.proofs.atoms.each_disjunct.Given as goal

abbrev pub invariant-loop-d : goal.invariant-loop-d
invariant-loop-d g l = record {
  few : l.d-end ≤ 4;
  given : Each (λ d. Returned (goal.F-post g l.of) l.form (disjunct_place l.i d)) l.d l.fn.none l.each;
}

-- `form::atoms::each_atom` meets its contract. The loop's invariant: what is given for the first `k` atoms is there. Assumes nothing.
use Rattle.form.specs.Places.{atom_place, Returned, Each}
use Rattle.form.proofs.atoms.each_atom.Given as goal

abbrev pub invariant-loop-k : goal.invariant-loop-k
invariant-loop-k g l = Each (λ k. Returned (goal.F-post g l.of) l.form (atom_place l.at k)) l.k l.fn.none l.each

-- A term of a stage is full for a Skolem function that stands on one way down from it as often as the depth allows: a row of that function above
-- it is cyclic. Where no term is full for a function of a rule, no Skolem row of the rule is cyclic. Assumes nothing.
use Rattle.std.specs.Prelude.{Bool, List, ℕ, suc, ltb, length}
use Rattle.model.specs.Lists.{all}
use Rattle.model.specs.Rules.{Disjunct, existential}
use Rattle.laws.specs.Lists.{rising}
use Rattle.rows.specs.Making.{Ground, nesting_in}

-- no term is full for f
unfoldable pub none_full_of : Ground → ℕ → Bool
none_full_of g f = all (λ (k : ℕ). ltb (nesting_in (length g.terms) g.terms f k) g.depth) (rising 0 (length g.terms))

-- the Skolem functions of a disjunct
abbrev pub functions_of : Disjunct → List ℕ
functions_of d = rising (suc d.before) (length (existential d.rule d.atoms))

-- no term is full for a Skolem function of these disjuncts
unfoldable pub none_full : Ground → List Disjunct → Bool
none_full g ds = all (λ (d : Disjunct). all (none_full_of g) (functions_of d)) ds

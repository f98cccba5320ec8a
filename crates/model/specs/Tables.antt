-- What the check leaves in the caller's two tables (document 01, "Lent lists"). Assumes nothing.
use Rattle.std.specs.Prelude.{List, [], ◌∷◌, ◌++◌, map, Bool, true, false, ◌&&◌, ℕ, ◌+◌, ◌-◌, leb, length, take, drop, replicate}
use Rattle.model.specs.Limits.{term_width, fixed_mark, terms_front, facts_front, depth_limit}
use Rattle.model.specs.Lists.{collect, index, padded}
use Rattle.model.specs.Term.{Term, star, constant, fixed, apart, fresh, skolem, list, same}
use Rattle.model.specs.Rules.{RuleSet, entries}
use Rattle.model.specs.Format.{good, bad, read}
use Rattle.model.specs.Triggers.{Fact}
use Rattle.model.specs.Stages.{Stage, stage, Verdict, accepted, cyclic_at, refused, verdict, cyclic_terms}

-- the number of a term: where it stands among the stage's terms
unfoldable pub number : List Term → Term → ℕ
number ts t = index same t ts

-- the Skolem function (0 for ⋆, a mark of its own for a rule constant), its arity, and eight argument numbers
unfoldable pub term_row : List Term → Term → List ℕ
term_row ts star = replicate term_width 0
term_row ts (constant c) = replicate term_width 0
term_row ts (fixed c) = padded term_width ((fixed_mark + c) ∷ [])
term_row ts (apart p) = replicate term_width 0
term_row ts (fresh t v) = replicate term_width 0
term_row ts (skolem f us) = padded term_width (f ∷ length (list us) ∷ map (number ts) (list us))

-- the predicate and four argument numbers
unfoldable pub fact_row : List Term → Fact → List ℕ
fact_row ts f = padded 5 (f.predicate ∷ map (number ts) f.arguments)

-- the front of a table, of n numbers, is replaced: records first, zeros after
unfoldable pub fronted : ℕ → List ℕ → List ℕ → List ℕ
fronted n xs table = padded n xs ++ drop n table

pub record Checked : Type 0 where
  pub verdict : Verdict
  pub terms : List ℕ
  pub facts : List ℕ

-- the records of a stage, some more terms' after its own
unfoldable pub recorded : Verdict → Stage → List Term → List ℕ → List ℕ → Checked
recorded v s us terms₀ facts₀ =
    record {
      verdict = v;
      terms = fronted terms_front (collect (term_row s.terms) (s.terms ++ us)) terms₀;
      facts = fronted facts_front (collect (fact_row s.terms) s.facts) facts₀;
    }

-- accepted: that stage. Cyclic: the last stage made, and after its terms the first of the next that is cyclic at depth d. Refused: zeros
unfoldable pub left : ℕ → RuleSet → Verdict → List ℕ → List ℕ → Checked
left d b (accepted n f t) terms₀ facts₀ = recorded (accepted n f t) (stage b n) [] terms₀ facts₀
left d b (cyclic_at n f t) terms₀ facts₀ =
    let s : Stage = stage b (n - 1) in recorded (cyclic_at n f t) s (take 1 (cyclic_terms d (entries b) s)) terms₀ facts₀
left d b (refused n p) terms₀ facts₀ = record { verdict = refused n p; terms = fronted terms_front [] terms₀; facts = fronted facts_front [] facts₀ }

-- a depth is 1, 2 or 3 (document 02, C-14)
unfoldable pub is_depth : ℕ → Bool
is_depth d = leb 1 d && leb d depth_limit

-- everything that `check` answers and leaves behind: refusal 1 first, 18 for a number that is no depth, then those of reading. All these change
-- nothing
unfoldable pub checked : ℕ → List ℕ → List ℕ → List ℕ → Checked
checked d bytes terms₀ facts₀ =
    elim (leb terms_front (length terms₀) && leb facts_front (length facts₀)) [
      | false ↦ record { verdict = refused 1 0; terms = terms₀; facts = facts₀ }
      | true ↦
          elim (is_depth d) [
            | false ↦ record { verdict = refused 18 0; terms = terms₀; facts = facts₀ }
            | true ↦
                elim (read bytes) [
                  | bad n p ↦ record { verdict = refused n p; terms = terms₀; facts = facts₀ }
                  | good b i ↦ left d b (verdict d b) terms₀ facts₀
                ]
          ]
    ]

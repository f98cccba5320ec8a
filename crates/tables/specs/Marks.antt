-- Marks, by term number: how often a Skolem function stands above a term, on a way down to it, at most; 0 where no way is known. Assumes nothing.
use Rattle.std.specs.Prelude.{Bool, true, false, ◌&&◌, ◌||◌, List, [], ◌∷◌, ℕ, zero, suc, max, ◌+◌, eqb, leb, ltb, get_or, set}
use Rattle.model.specs.Term.{meeting}
use Rattle.tables.specs.Terms.{function_of, arguments_of, nesting_at}

-- the marks of some terms raised to x, those that are above it left
unfoldable pub raised : List ℕ → ℕ → List ℕ → List ℕ
raised [] x marks = marks
raised (a ∷ as') x marks = raised as' x (set marks a (max (get_or marks a 0) x))

-- below a mark a function is met n times, some of them, and that makes more than d times
unfoldable pub passes : ℕ → ℕ → ℕ → Bool
passes d mark n = ltb 0 mark && (ltb 0 n && ltb d (mark + n))

-- on a way through a marked term, of the first n, f stands more than d times
unfoldable pub nests_marked : List ℕ → ℕ → ℕ → ℕ → List ℕ → Bool
nests_marked table f d zero marks = false
nests_marked table f d (suc n) marks = nests_marked table f d n marks || passes d (get_or marks n 0) (nesting_at table f n)

-- the marks of the first n terms passed down to their arguments, from the last term on, as far as one where f is met more than d times
unfoldable pub passed_down : List ℕ → ℕ → ℕ → ℕ → List ℕ → List ℕ
passed_down table f d zero marks = marks
passed_down table f d (suc n) marks =
    elim (ltb 0 (get_or marks n 0)) [
      | false ↦ passed_down table f d n marks
      | true ↦
          elim (eqb f (function_of table n) && leb d (get_or marks n 0)) [
            | true ↦ marks
            | false ↦ passed_down table f d n (raised (arguments_of table n) (meeting f (function_of table n) (get_or marks n 0)) marks)
          ]
    ]

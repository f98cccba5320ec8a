-- The terms of a trigger renamed apart, over rows: each is copied into a table of its own, with a new row without a Skolem function for each
-- occurrence of a constant (004, Definition 45). Assumes nothing.
use Rattle.std.specs.Prelude.{List, [], ◌∷◌, ◌++◌, true, false, ℕ, zero, suc, ◌-◌, eqb, length, get_or, take, drop, replicate}
use Rattle.model.specs.Limits.{term_width}
use Rattle.model.specs.Lists.{padded}

-- a constant, known by its position
abbrev pub constant_row : List ℕ
constant_row = replicate term_width 0

-- the arguments of a term's row
unfoldable pub arguments_in : List ℕ → List ℕ
arguments_in r = take (get_or r 1 0) (drop 2 r)

-- copies in a table: their numbers, and the table
pub record Copies : Type 0 where
  pub numbers : List ℕ
  pub terms : List (List ℕ)

-- copies of terms, one after the other; each copy is the last row when it is made
unfoldable pub copy_all : (ℕ → List (List ℕ) → List (List ℕ)) → List ℕ → Copies → Copies
copy_all copy [] c = c
copy_all copy (i ∷ is) c =
    let terms : List (List ℕ) = copy i c.terms in
    copy_all copy is (record { numbers = c.numbers ++ ((length terms - 1) ∷ []); terms = terms })

-- a copy of term i behind the rows of a table, its arguments first; k bounds how deep it is
unfoldable pub copy_term : ℕ → List (List ℕ) → ℕ → List (List ℕ) → List (List ℕ)
copy_term zero source i terms = terms ++ (constant_row ∷ [])
copy_term (suc k) source i terms =
    let r : List ℕ = get_or source i [] in
    elim (eqb (get_or r 0 0) 0) [
      | true ↦ terms ++ (constant_row ∷ [])
      | false ↦
          let c : Copies = copy_all (copy_term k source) (arguments_in r) (record { numbers = []; terms = terms }) in
          c.terms ++ (padded term_width (get_or r 0 0 ∷ get_or r 1 0 ∷ c.numbers) ∷ [])
    ]

-- the copies of a trigger's terms; a term's number bounds how deep it is
unfoldable pub copies : List (List ℕ) → List ℕ → Copies
copies source m = copy_all (copy_term (length source) source) m (record { numbers = []; terms = [] })

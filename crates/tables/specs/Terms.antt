-- Terms as rows of ten numbers: the Skolem function (0 for a constant), its arity, eight argument numbers, unused 0. Sizes, and how often a
-- function stands on one way down a term, by term numbers. Assumes nothing.
use Rattle.std.specs.Prelude.{List, [], ◌∷◌, true, false, ℕ, zero, suc, ◌+◌, ◌*◌, ◌≤◌, ◌<◌, eqb, length, get_or}
use Rattle.model.specs.Lists.{numbers_from}
use Rattle.model.specs.Term.{meeting}
use Rattle.rows.specs.Making.{most}

abbrev pub function_of : List ℕ → ℕ → ℕ
function_of table i = get_or table (i * 10) 0

abbrev pub arity_of : List ℕ → ℕ → ℕ
arity_of table i = get_or table (i * 10 + 1) 0

-- how many arguments of a term are copied: none of a constant
unfoldable pub copied_arity : List ℕ → ℕ → ℕ
copied_arity table i = elim (eqb (function_of table i) 0) [ true ↦ 0 | false ↦ arity_of table i ]

abbrev pub argument_of : List ℕ → ℕ → ℕ → ℕ
argument_of table i j = get_or table (i * 10 + 2 + j) 0

unfoldable pub arguments_of : List ℕ → ℕ → List ℕ
arguments_of table i = numbers_from table (i * 10 + 2) (arity_of table i)

-- the law of a term table, of its first n rows: the arguments of a term stand before it
pub record Ordered (n : ℕ) (table : List ℕ) : Type 0 where
  pub room : n * 10 ≤ length table
  pub arity : (i : ℕ) → i < n → arity_of table i ≤ 8
  pub before : (i j : ℕ) → i < n → j < arity_of table i → argument_of table i j < i

unfoldable pub total : (ℕ → ℕ) → List ℕ → ℕ
total f [] = 0
total f (x ∷ xs) = f x + total f xs

-- the size of term i; k bounds how deep it is
unfoldable pub size_within : ℕ → List ℕ → ℕ → ℕ
size_within zero table i = 0
size_within (suc k) table i = suc (total (size_within k table) (arguments_of table i))

-- arguments stand before their term, so term i is at most i deep
unfoldable pub size_at : List ℕ → ℕ → ℕ
size_at table i = size_within (suc i) table i

-- how often f stands on one way down from term i, at most; k bounds how deep it is
unfoldable pub nesting_within : ℕ → List ℕ → ℕ → ℕ → ℕ
nesting_within zero table f i = 0
nesting_within (suc k) table f i = meeting f (function_of table i) (most (nesting_within k table f) (arguments_of table i))

unfoldable pub nesting_at : List ℕ → ℕ → ℕ → ℕ
nesting_at table f i = nesting_within (suc i) table f i

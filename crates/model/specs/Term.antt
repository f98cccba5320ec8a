-- Terms of every kind that the definitions speak of, in one type, so that triggers and outputs are defined once (001, section 2).
-- Assumes nothing.
use Rattle.std.specs.Prelude.{List, [], ◌∷◌, ◌++◌, Bool, true, false, ℕ, suc, max, ◌+◌, eqb, ltb}
use Rattle.std.proofs.Math.Decide.{ℕ_discrete}
use Rattle.model.specs.Lists.{any}

-- an occurrence in a trigger: a variable, and a way down its term by argument numbers
pub data Position : Type 0 where
  root : ℕ → Position
  child : Position → ℕ → Position
  deriving Discrete as Position-discrete

mutual
  pub data Term : Type 0 where
    -- the critical constant ⋆
    star : Term
    -- a constant of an instance (document 01: a plain name), by number
    constant : ℕ → Term
    -- a rule constant (document 02, C-16: a fixed name), by number
    fixed : ℕ → Term
    -- in the blocking test: the constant of its own that an occurrence of a constant gets (004, Definition 45)
    apart : Position → Term
    -- in the blocking test: the fresh constant of a term and a variable (004, Definition 39)
    fresh : Term → ℕ → Term
    -- a Skolem function (document 01: a mark) over terms
    skolem : ℕ → Terms → Term
    deriving Discrete as Term-discrete

  pub data Terms : Type 0 where
    none : Terms
    more : Term → Terms → Terms
    deriving Discrete as Terms-discrete

unfoldable pub same : Term → Term → Bool
same s t = elim (Term-discrete ℕ_discrete (Position-discrete ℕ_discrete) s t) [ yes e ↦ true | no e ↦ false ]

-- a rule constant
unfoldable pub is_fixed : Term → Bool
is_fixed star = false
is_fixed (constant c) = false
is_fixed (fixed c) = true
is_fixed (apart p) = false
is_fixed (fresh t v) = false
is_fixed (skolem f ts) = false

unfoldable pub list : Terms → List Term
list none = []
list (more t ts) = t ∷ list ts

unfoldable pub terms : List Term → Terms
terms [] = none
terms (t ∷ ts) = more t (terms ts)

-- the size of a term (document 01: its places)
unfoldable mutual
  pub size : Term → ℕ
  size star = 1
  size (constant c) = 1
  size (fixed c) = 1
  size (apart p) = 1
  size (fresh t v) = 1
  size (skolem f ts) = 1 + sizes ts

  pub sizes : Terms → ℕ
  sizes none = 0
  sizes (more t ts) = size t + sizes ts

-- the Skolem functions in a term (001, section 2: Funs)
unfoldable mutual
  pub functions : Term → List ℕ
  functions star = []
  functions (constant c) = []
  functions (fixed c) = []
  functions (apart p) = []
  functions (fresh t v) = []
  functions (skolem f ts) = f ∷ functions_all ts

  pub functions_all : Terms → List ℕ
  functions_all none = []
  functions_all (more t ts) = functions t ++ functions_all ts

-- a count, one more where function g is f
unfoldable pub meeting : ℕ → ℕ → ℕ → ℕ
meeting f g n = elim (eqb f g) [ true ↦ suc n | false ↦ n ]

-- how often a Skolem function stands on one way from the root to a leaf, at most (document 02, C-14)
unfoldable mutual
  pub nesting : ℕ → Term → ℕ
  nesting f star = 0
  nesting f (constant c) = 0
  nesting f (fixed c) = 0
  nesting f (apart p) = 0
  nesting f (fresh t v) = 0
  nesting f (skolem g ts) = meeting f g (nesting_any f ts)

  pub nesting_any : ℕ → Terms → ℕ
  nesting_any f none = 0
  nesting_any f (more t ts) = max (nesting f t) (nesting_any f ts)

-- cyclic at depth d: one way from the root to a leaf meets some Skolem function more than d times (document 02, C-14)
unfoldable pub cyclic : ℕ → Term → Bool
cyclic d t = any (λ (f : ℕ). ltb d (nesting f t)) (functions t)

-- ⋆ for each constant but those of the rules
unfoldable mutual
  pub starred : Term → Term
  starred star = star
  starred (constant c) = star
  starred (fixed c) = fixed c
  starred (apart p) = star
  starred (fresh t v) = star
  starred (skolem f ts) = skolem f (starred_all ts)

  pub starred_all : Terms → Terms
  starred_all none = none
  starred_all (more t ts) = more (starred t) (starred_all ts)

-- how often ⋆ stands in a term, inside Skolem terms too
unfoldable mutual
  pub stars : Term → ℕ
  stars star = 1
  stars (constant c) = 0
  stars (fixed c) = 0
  stars (apart p) = 0
  stars (fresh t v) = 0
  stars (skolem f ts) = stars_all ts

  pub stars_all : Terms → ℕ
  stars_all none = 0
  stars_all (more t ts) = stars t + stars_all ts

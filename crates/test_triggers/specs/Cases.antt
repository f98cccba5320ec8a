-- Cases that are written out: a test that computes, whether their body is as a rule has it. Assumes nothing.
use Rattle.std.specs.Prelude.{◌≡◌, Bool, true, ◌&&◌, ℕ, zero, suc, ◌*◌, ◌≤◌, leb, ltb, length, List}
use Rattle.laws_triggers.specs.Match.{Body, atom_of, arity_of, variable_of}

-- all numbers below n pass
abbrev pub every : ℕ → (ℕ → Bool) → Bool
every zero q = true
every (suc n) q = every n q && q n

abbrev pub right_atom : Body → ℕ → Bool
right_atom b i = (leb 1 (arity_of b i) && leb (arity_of b i) 4) && every (arity_of b i) (λ (p : ℕ). ltb (variable_of (atom_of b i) p) 8)

abbrev pub is_small : Body → Bool
is_small b = leb b.count 4 && every b.count (right_atom b)

-- a body, and up to eight facts over at least one term
pub record Case (b : Body) (facts : List ℕ) (n terms : ℕ) : Type 0 where
  pub body : is_small b ≡ true
  pub room : n * 5 ≤ length facts
  pub few : n ≤ 8
  pub some : 1 ≤ terms

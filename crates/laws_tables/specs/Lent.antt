-- Whether the caller's two tables have their front parts (document 01, "Lent lists" and refusal 1), whether a number is a depth (document 02,
-- C-14, refusal 18), and which refusals change nothing. Assumes nothing.
use Rattle.std.specs.Prelude.{◌≡◌, ◌⊎◌, List, ℕ, ◌≤◌, ◌<◌, length}
use Rattle.model.specs.Limits.{terms_front, facts_front, depth_limit}

-- both do
pub record Fronts (terms₀ facts₀ : List ℕ) : Type 0 where
  pub terms : terms_front ≤ length terms₀
  pub facts : facts_front ≤ length facts₀

-- one is shorter
abbrev pub Short : List ℕ → List ℕ → Type 0
Short terms₀ facts₀ = (length terms₀ < terms_front) ⊎ (length facts₀ < facts_front)

-- 1, 2 or 3
abbrev pub Depth : ℕ → Type 0
Depth d = (1 ≤ d) × (d ≤ depth_limit)

-- the refusals that change nothing, and those that leave zeros in the front parts
abbrev pub Early : ℕ → Type 0
Early n = ((1 ≤ n) × (n ≤ 10)) ⊎ (n ≡ 18)

abbrev pub Late : ℕ → Type 0
Late n = (11 ≤ n) × (n ≤ 14)

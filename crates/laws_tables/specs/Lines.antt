-- Parts of a line of the answer's text. Assumes nothing.
use Rattle.std.specs.Prelude.{List, ◌∷◌, ℕ}
use Rattle.model.specs.Lists.{collect}
use Rattle.model.specs.Text.{decimal}

-- the numbers of a line, each behind its space
abbrev pub spaced : List ℕ → List ℕ
spaced ns = collect (λ (n : ℕ). 32 ∷ decimal n) ns

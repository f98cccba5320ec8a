-- The lines of the terms and of the facts, the two parts of the model's `records`. Assumes nothing.
use Rattle.std.specs.Prelude.{List, ◌∷◌, ℕ}
use Rattle.model.specs.Text.{line, lines, term_word, fact_word, term_numbers, fact_numbers}

abbrev pub term_lines : List ℕ → ℕ → List ℕ
term_lines terms t = lines (λ i. line term_word (i ∷ term_numbers terms i)) t 0

abbrev pub fact_lines : List ℕ → List ℕ → ℕ → List ℕ
fact_lines arities facts f = lines (λ i. line fact_word (fact_numbers arities facts i)) f 0

-- The text of an answer (document 01, "River and Lake"), as bytes. Every line ends in a newline. Assumes nothing.
use Rattle.std.specs.Prelude.{List, [], ◌∷◌, ◌++◌, true, false, ℕ, zero, suc, ◌+◌, ◌/◌, ◌%◌, ltb, get_or, take, drop, replicate}
use Rattle.model.specs.Limits.{term_width, input_limit, terms_front, facts_front, program_depth}
use Rattle.model.specs.Lists.{collect, row}
use Rattle.model.specs.Format.{good, bad, read}
use Rattle.model.specs.Stages.{Verdict, accepted, cyclic_at, refused}
use Rattle.model.specs.Tables.{Checked, checked}

-- at most so many decimal digits, without leading zeros
unfoldable pub digits : ℕ → ℕ → List ℕ
digits zero n = []
digits (suc k) n = elim (ltb n 10) [ true ↦ (48 + n) ∷ [] | false ↦ digits k (n / 10) ++ ((48 + n % 10) ∷ []) ]

-- twenty digits hold every 64-bit number
unfoldable pub decimal : ℕ → List ℕ
decimal n = digits 20 n

-- a word, each number behind a space, and a newline
unfoldable pub line : List ℕ → List ℕ → List ℕ
line word ns = word ++ (collect (λ (n : ℕ). 32 ∷ decimal n) ns ++ (10 ∷ []))

-- "accepted"
abbrev pub accepted_word : List ℕ
accepted_word = 97 ∷ 99 ∷ 99 ∷ 101 ∷ 112 ∷ 116 ∷ 101 ∷ 100 ∷ []

-- "cyclic"
abbrev pub cyclic_word : List ℕ
cyclic_word = 99 ∷ 121 ∷ 99 ∷ 108 ∷ 105 ∷ 99 ∷ []

-- "refused"
abbrev pub refused_word : List ℕ
refused_word = 114 ∷ 101 ∷ 102 ∷ 117 ∷ 115 ∷ 101 ∷ 100 ∷ []

-- "term"
abbrev pub term_word : List ℕ
term_word = 116 ∷ 101 ∷ 114 ∷ 109 ∷ []

-- "fact"
abbrev pub fact_word : List ℕ
fact_word = 102 ∷ 97 ∷ 99 ∷ 116 ∷ []

-- "loop"
abbrev pub loop_word : List ℕ
loop_word = 108 ∷ 111 ∷ 111 ∷ 112 ∷ []

-- the Skolem function and the arguments of term i
unfoldable pub term_numbers : List ℕ → ℕ → List ℕ
term_numbers terms i = let r : List ℕ = row term_width i terms in get_or r 0 0 ∷ take (get_or r 1 0) (drop 2 r)

-- the predicate and the arguments of fact i
unfoldable pub fact_numbers : List ℕ → List ℕ → ℕ → List ℕ
fact_numbers arities facts i = let r : List ℕ = row 5 i facts in get_or r 0 0 ∷ take (get_or arities (get_or r 0 0) 0) (drop 1 r)

-- n lines, of i and what follows it
unfoldable pub lines : (ℕ → List ℕ) → ℕ → ℕ → List ℕ
lines f zero i = []
lines f (suc n) i = f i ++ lines f n (suc i)

-- the lines of f facts and t terms
unfoldable pub records : List ℕ → List ℕ → List ℕ → ℕ → ℕ → List ℕ
records arities terms facts f t =
    lines (λ i. line term_word (i ∷ term_numbers terms i)) t 0 ++ lines (λ i. line fact_word (fact_numbers arities facts i)) f 0

unfoldable pub text : List ℕ → Verdict → List ℕ → List ℕ → List ℕ
text arities (accepted n f t) terms facts = line accepted_word (n ∷ f ∷ t ∷ []) ++ records arities terms facts f t
text arities (cyclic_at n f t) terms facts =
    line cyclic_word (n ∷ f ∷ t ∷ []) ++ (records arities terms facts f t ++ line loop_word (term_numbers terms t))
text arities (refused n p) terms facts = line refused_word (n ∷ p ∷ [])

-- the arities that the bytes declare; a refused rule set declares none
unfoldable pub declared : List ℕ → List ℕ
declared bytes = elim (read bytes) [ good b i ↦ b.arities | bad n p ↦ [] ]

-- what `print` writes for bytes and two tables
unfoldable pub text_of : List ℕ → Checked → List ℕ
text_of bytes c = text (declared bytes) c.verdict c.terms c.facts

-- what the program prints: it checks at depth 1, and hands over at most the first 9,097 bytes of its input
unfoldable pub printed : List ℕ → List ℕ
printed input = let bytes : List ℕ = take input_limit input in text_of bytes (checked program_depth bytes (replicate terms_front 0) (replicate facts_front 0))

-- The bytes before the columns, as they are written. Assumes nothing.
use mathlib.Core.Path.{◌≡◌, ap, ◌∙◌}
use mathlib.Core.List.{List, ◌∷◌, ◌++◌}
use Prim.Native.Nat.{ℕ}
use lib.ListN.{set}
use lib.Seq.{sets}
use Rattle.model.specs.Format.{big_endian}
use Rattle.columns_model.specs.Differences.{two_bytes}

-- four writes are one
pub head_written : (n t f : ℕ) (out o p q : List ℕ) → o ≡ sets out 0 (big_endian n) → p ≡ sets (set o 4 1) 5 (two_bytes t) → q ≡ sets p 7 (two_bytes f)
    → q ≡ sets out 0 (big_endian n ++ (1 ∷ (two_bytes t ++ two_bytes f)))
unfolding big_endian two_bytes
head_written n t f out o p q a b c =
    c
    ∙ ap (λ (l : List ℕ). sets l 7 (two_bytes f)) b
    ∙ ap (λ (l : List ℕ). sets (sets (set l 4 1) 5 (two_bytes t)) 7 (two_bytes f)) a

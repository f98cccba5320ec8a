-- The numbers of a table's rows, one row after the other, are its front. Assumes nothing.
use mathlib.Core.Path.{◌≡◌, sym, ap, ◌∙◌}
use mathlib.Core.List.{List, ◌++◌}
use Prim.Native.Nat.{ℕ, zero, suc, ◌+◌, ◌*◌}
use native.Mathlib.Nat.{suc-mul, zero-mul, add_comm}
use lib.ListN.{take, drop}
use lib.Seq.{take-add}
use Rattle.model.specs.Lists.{collect}
use Rattle.rows.specs.Tables.{flat}
use Rattle.tables.specs.Rows.{rows}

pub flat_rows : (w n : ℕ) (t : List ℕ) → flat (rows w n t) ≡ take (n * w) t
unfolding flat rows collect
flat_rows w zero t = ap (λ (k : ℕ). take k t) (sym (zero-mul w))
flat_rows w (suc n) t =
    ap (λ (l : List ℕ). take w t ++ l) (flat_rows w n (drop w t)) ∙ sym (take-add w (n * w) t) ∙ ap (λ (k : ℕ). take k t) (add_comm w (n * w) ∙ sym (suc-mul n w))

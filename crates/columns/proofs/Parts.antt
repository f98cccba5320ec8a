-- A part of a list that is written at once. Assumes nothing.
use mathlib.Core.Path.{◌≡◌, sym, ap, ◌∙◌}
use mathlib.Core.List.{List, ◌++◌, append_assoc}
use Prim.Native.Nat.{ℕ, ◌+◌, ◌-◌, ◌≤◌}
use native.Mathlib.Omega.{arith}
use lib.ListN.{length, take, drop}
use lib.Seq.{sets, sets-eq, drop-drop}
use borrow.Rule.Slice.PartMut.{put_mid}

pub part_written : (xs ys : List ℕ) (at end : ℕ) → length ys ≡ end - at → at ≤ end → end ≤ length xs → put_mid at (end - at) xs ys ≡ sets xs at ys
part_written xs ys at end e h k =
    ap (λ (l : List ℕ). take at xs ++ (ys ++ l)) (drop-drop (end - at) at xs)
    ∙ ap (λ (n : ℕ). take at xs ++ (ys ++ drop (at + n) xs)) (sym e)
    ∙ sym (sets-eq ys xs at (omega arith) ∙ append_assoc (take at xs) ys (drop (at + length ys) xs))

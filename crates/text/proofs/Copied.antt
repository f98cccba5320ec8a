-- Bytes that are copied over a part of a list, from a place on, are written there. Assumes nothing.
use mathlib.Core.Path.{◌≡◌, sym, ap, ap₂, ◌∙◌}
use mathlib.Core.List.{List, ◌++◌, append_assoc}
use Prim.Native.Nat.{ℕ, ◌+◌}
use lib.ListN.{length, take, drop}
use lib.Seq.{drop-drop}
use borrow.Rule.Slice.PartMut.{put_mid}
use Rattle.tables.specs.Rows.{written}

pub copied_written : (w out : List ℕ) (at k : ℕ) {x : List ℕ} → k ≡ length w → x ≡ w → put_mid at k out x ≡ written w at out
unfolding written
copied_written w out at k h e =
    ap₂ (λ (u : List ℕ) (n : ℕ). take at out ++ (u ++ drop n (drop at out))) e h
    ∙ ap (λ (v : List ℕ). take at out ++ (w ++ v)) (drop-drop (length w) at out)
    ∙ sym (append_assoc (take at out) w (drop (at + length w) out))

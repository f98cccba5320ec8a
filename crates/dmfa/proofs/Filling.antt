-- A front that is filled in two steps, records and then zeros. Assumes nothing.
use mathlib.Core.Path.{◌≡◌, sym, ap, ap₂, ◌∙◌}
use mathlib.Core.List.{List, ◌++◌, append_assoc}
use Prim.Native.Nat.{ℕ, ◌+◌, ◌-◌, ◌≤◌}
use native.Mathlib.Omega.{arith}
use lib.ListN.{length, take, drop, replicate, length-drop}
use lib.Seq.{length-take-le, take_at, drop_at, drop-append-add, drop-drop}
use borrow.Rule.Slice.PartMut.{put_mid, Post-is}
use Rattle.model.specs.Lists.{padded}
use Rattle.model.specs.Tables.{fronted}

module _ (records table : List ℕ) (n front : ℕ) (known : n ≤ length records) (room : n ≤ front) (fits : front ≤ length table) where
  taken : length (take n records) ≡ n
  taken = length-take-le n records known

  beyond : drop front (take n records ++ drop n table) ≡ drop front table
  beyond =
      let e : front ≡ length (take n records) + (front - n) = omega (arith, taken) in
      let f : n + (front - n) ≡ front = omega arith in
      ap (λ (k : ℕ). drop k (take n records ++ drop n table)) e
      ∙ drop-append-add (take n records) (drop n table) (front - n)
      ∙ drop-drop (front - n) n table
      ∙ ap (λ (k : ℕ). drop k table) f

  part_long : length (take (front - n) (drop n (take n records ++ drop n table))) ≡ front - n
  part_long =
      length-take-le (front - n) (drop n (take n records ++ drop n table))
      (rw (drop_at (take n records) (drop n table) n taken) (omega (arith, length-drop n table)))

  -- the records are written first, then zeros between them and the front's end
  pub front_filled : (first zeros : List ℕ) → first ≡ take n records → zeros ≡ replicate (length (take (front - n) (drop n (first ++ drop n table)))) 0
      → put_mid n (front - n) (first ++ drop n table) zeros ≡ fronted front (take n records) table
  unfolding fronted padded
  front_filled first zeros e p =
      let s = ap (λ (u : List ℕ). u ++ drop n table) e in
      ap₂ (λ (u v : List ℕ). u ++ v)
      (ap (take n) s ∙ take_at (take n records) (drop n table) n taken)
      (ap₂ (λ (u v : List ℕ). u ++ v) (p ∙ ap (λ (u : List ℕ). replicate (length (take (front - n) (drop n u))) 0) s ∙ ap (λ (k : ℕ). replicate k 0) part_long) (Post-is n front (first ++ drop n table) room ∙ ap (drop front) s ∙ beyond))
      ∙ sym (append_assoc (take n records) (replicate (front - n) 0) (drop front table))
      ∙ ap (λ (k : ℕ). (take n records ++ replicate (front - k) 0) ++ drop front table) (sym taken)

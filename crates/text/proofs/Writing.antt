-- Laws of writing into a list of bytes: one write behind another, and a byte before what was written. Assumes nothing.
use mathlib.Core.Path.{◌≡◌, refl, sym, ap, ◌∙◌}
use mathlib.Core.List.{List, [], ◌∷◌, ◌++◌, append-nil, append_assoc}
use Prim.Native.Nat.{ℕ, suc, ◌+◌, ◌≤◌, ◌<◌}
use native.Mathlib.Nat.{add-zero, add_assoc}
use native.Mathlib.Numerals.{add-one}
use native.Mathlib.Omega.{arith}
use lib.ListN.{length, take, drop, set, length-append, length-take, take-append-drop}
use lib.Seq.{take_at, drop_at, drop-drop, length-take-le, append_snoc, set-append_left, set_split, take-set-lt, drop-set-lt}
use Rattle.tables.specs.Rows.{written}
use Rattle.text.specs.Writing.{Room, Writes}

pub written_none : (at : ℕ) (out : List ℕ) → out ≡ written [] at out
unfolding written
written_none at out = rw (append-nil (take at out), add-zero, take-append-drop)

length_front : (s : List ℕ) (at : ℕ) (out : List ℕ) → at ≤ length out → length (take at out ++ s) ≡ at + length s
length_front s at out h = length-append (take at out) s ∙ ap (λ (n : ℕ). n + length s) (length-take-le at out h)

written_append : (s s' : List ℕ) (at : ℕ) (out : List ℕ) → at ≤ length out → written s' (at + length s) (written s at out) ≡ written (s ++ s') at out
unfolding written
written_append s s' at out h =
    let p : List ℕ = take at out ++ s in
    let q : List ℕ = drop (at + length s) out in
    let f : take (at + length s) (p ++ q) ≡ p = take_at p q (at + length s) (length_front s at out h) in
    let g : drop (at + length s + length s') (p ++ q) ≡ drop (at + length s + length s') out =
    sym (drop-drop (length s') (at + length s) (p ++ q))
    ∙ ap (drop (length s')) (drop_at p q (at + length s) (length_front s at out h))
    ∙ drop-drop (length s') (at + length s) out
    in
    let e : at + length s + length s' ≡ at + length (s ++ s') = rw length-append (add_assoc at (length s) (length s')) in
    ap (λ (xs : List ℕ). xs ++ s' ++ drop (at + length s + length s') (p ++ q)) f
    ∙ ap (λ (xs : List ℕ). p ++ s' ++ xs) g
    ∙ ap (λ (n : ℕ). p ++ s' ++ drop n out) e
    ∙ ap (λ (xs : List ℕ). xs ++ drop (at + length (s ++ s')) out) (append_assoc (take at out) s s')

-- nothing is written
pub writes_none : (at : ℕ) (out : List ℕ) → Writes [] at out out at
writes_none at out = record { left = written_none at out; next = sym (add-zero at) }

-- the room for two writes is room for the first, and behind it for the second
pub room_first : (s s' : List ℕ) (at : ℕ) (out : List ℕ) → Room (s ++ s') at out → Room s at out
room_first s s' at out p = omega (arith, length-append s s')

pub room_behind : {s : List ℕ} (s' : List ℕ) {at : ℕ} {out out' : List ℕ} {mid : ℕ} → Writes s at out out' mid → Room (s ++ s') at out → length out' ≡ length out
    → Room s' mid out'
room_behind {s} s' w p k = let e = w.next in omega (arith, length-append s s')

-- one write behind another
pub writes_append : {s s' : List ℕ} {at : ℕ} {out out' out'' : List ℕ} {mid end : ℕ} → Writes s at out out' mid → Writes s' mid out' out'' end
    → at ≤ length out → Writes (s ++ s') at out out'' end
writes_append {s} {s'} {at} {out} {out'} {mid = mid} h k l =
    record {
      left =
          k.left ∙ ap (λ (n : ℕ). written s' n out') h.next ∙ ap (written s' (at + length s)) h.left ∙ written_append s s' at out l;
      next = let e = h.next in let f = k.next in rw length-append (omega arith);
    }

-- one byte
pub writes_byte : (x at : ℕ) (out : List ℕ) → at < length out → Writes (x ∷ []) at out (set out at x) (at + 1)
unfolding written
writes_byte x at out h =
    record {
      left = set_split out at x h ∙ sym (append_snoc (take at out) x (drop (suc at) out)) ∙ rw add-one;
      next = refl;
    }

-- a byte before the place of a write
set_written : (x : ℕ) (s : List ℕ) (at : ℕ) (out : List ℕ) → at < length out → set (written s (suc at) out) at x ≡ written s (suc at) (set out at x)
unfolding written
set_written x s at out h =
    let t : List ℕ = take (suc at) out in
    let l : at < length t = rw length-take (omega arith) in
    let m : at < length (t ++ s) = rw length-append (omega arith) in
    set-append_left (t ++ s) (drop (suc at + length s) out) at x m
    ∙ ap (λ (xs : List ℕ). xs ++ drop (suc at + length s) out) (set-append_left t s at x l)
    ∙ ap (λ (xs : List ℕ). xs ++ s ++ drop (suc at + length s) out) (sym (take-set-lt (suc at) out at x (omega arith)))
    ∙ ap (λ (xs : List ℕ). take (suc at) (set out at x) ++ s ++ xs) (sym (drop-set-lt (suc at + length s) out at x (omega arith)))

pub written_before : (x : ℕ) (s : List ℕ) (at : ℕ) (out : List ℕ) → at < length out → set (written s (suc at) out) at x ≡ written (x ∷ s) at out
written_before x s at out h =
    set_written x s at out h
    ∙ ap (written s (suc at)) (writes_byte x at out h).left
    ∙ ap (λ (n : ℕ). written s n (written (x ∷ []) at out)) (sym (add-one at))
    ∙ written_append (x ∷ []) s at out (omega arith)

-- A loop that writes what stands at places of a form, so many numbers apart: what holds between its turns. Assumes nothing.
use mathlib.Core.Path.{◌≡◌, refl, sym, ap, ap₂, ◌∙◌}
use mathlib.Core.List.{List, [], ◌∷◌, ◌++◌}
use Prim.Native.Nat.{ℕ, suc, ◌+◌, ◌-◌, ◌*◌, ◌≤◌, ◌<◌}
use native.Mathlib.Nat.{add-mul, one-mul, zero-mul, mul-add, mul-one}
use native.Mathlib.Omega.{arith}
use lib.ListN.{length}
use Rattle.model.specs.Lists.{collect}
use Rattle.model.specs.Format.{Parsed, many}
use Rattle.model.specs.Form.{spaced}
use Rattle.std.specs.Prelude.{Ok, Err}
use Rattle.refusal.specs.declared.Refused.{Refused}
use Rattle.parsing.specs.declared.Parsed.{Parsed as Read}
use Rattle.writer.specs.Writes.{Writes}
use Rattle.writer.proofs.Writing.{Writing, writing_begun, writing_more, writing_refused, writing_ended}

-- what is spelled from the k-th place on
abbrev pub rest : {A : Type 0} → (ℕ → A) → (A → List ℕ) → ℕ → ℕ → ℕ → ℕ → List ℕ
rest f spell w at count k = collect spell (spaced f w (count - k) (at + k * w))

module _ {A : Type 0} (f : ℕ → A) (spell : A → List ℕ) (w at count : ℕ) where
  rest_whole : collect spell (spaced f w count at) ≡ rest f spell w at count 0
  rest_whole =
      let m : count ≡ count - 0 = omega arith in
      let p : at ≡ at + 0 * w = omega (arith, zero-mul w) in
      ap₂ (λ (n q : ℕ). collect spell (spaced f w n q)) m p

  rest_next : (k place : ℕ) → k < count → place ≡ at + k * w → rest f spell w at count k ≡ spell (f place) ++ rest f spell w at count (k + 1)
  unfolding spaced collect
  rest_next k place h e =
      let m : count - k ≡ suc (count - (k + 1)) = omega arith in
      let d : at + k * w + w ≡ at + (k + 1) * w = omega (arith, add-mul k 1 w, one-mul w) in
      ap (λ (n : ℕ). collect spell (spaced f w n (at + k * w))) m
      ∙ ap₂ (λ (a b : ℕ). spell (f a) ++ collect spell (spaced f w (count - (k + 1)) b)) (sym e) d

  rest_none : (k : ℕ) → count ≤ k → rest f spell w at count k ≡ []
  unfolding spaced collect
  rest_none k h = let m : count - k ≡ 0 = omega arith in rw m

-- k values of `count` are written, at most `size` bytes each, and s is what the loop keeps of them
pub record Turns {A S : Type 0} (p : List ℕ → ℕ → Parsed A) (Kept : List A → S → Type 0) (f : ℕ → A) (spell : A → List ℕ) (w size at count i : ℕ) (before : List ℕ) (k j : ℕ) (s : S) (now : List ℕ) : Type 0 where
  pub most : j ≤ i + size * k
  pub length_kept : length now ≡ length before
  pub writing : Writing p Kept count i (collect spell (spaced f w count at)) before k j s (rest f spell w at count k) now

pub turns_begun : {A S : Type 0} {p : List ℕ → ℕ → Parsed A} {Kept : List A → S → Type 0} {f : ℕ → A} {spell : A → List ℕ} {w size at count i : ℕ} {before : List ℕ} {s : S} → Kept [] s
    → Turns p Kept f spell w size at count i before 0 i s before
turns_begun {p = p} {Kept = Kept} {f = f} {spell = spell} {w = w} {size = size} {at = at} {count = count} {i = i} {before = before} {s = s} h =
    record {
      most = omega arith;
      length_kept = refl;
      writing = writing_begun p Kept count i _ before s _ (rest_whole f spell w at count) h;
    }

module _ {A S : Type 0} {p : List ℕ → ℕ → Parsed A} {Kept : List A → S → Type 0} {f : ℕ → A} {spell : A → List ℕ} {w size at count i : ℕ} {before : List ℕ} {k j : ℕ} {s : S} {now : List ℕ}
    (h : Turns p Kept f spell w size at count i before k j s now) where
  -- what a turn writes
  module _ {V : Type 0} (keep : A → V) (place : ℕ) (now' : List ℕ) (b : k < count) (e : place ≡ at + k * w) where
    pub turns_more : (x : Read V) (s' : S) → Writes keep (λ bs. p bs j) j (spell (f place)) now (Ok x) now' → x.next ≤ j + size → length now' ≡ length now
        → ((a : A) → keep a ≡ x.value → (done : List A) → Kept done s → Kept (done ++ (a ∷ [])) s') → Turns p Kept f spell w size at count i before (k + 1) x.next s' now'
    turns_more x s' d m l step =
        record {
          most = let y = h.most in omega (arith, mul-add size k 1, mul-one size);
          length_kept = l ∙ h.length_kept;
          writing = writing_more p Kept count i _ before k j s _ now h.writing keep _ _ now' x s' b (rest_next f spell w at count k place b e) d step;
        }

    pub turns_refused : {W : Type 0} (whole : List A → W) (r : Refused) (left : List ℕ) → Writes keep (λ bs. p bs j) j (spell (f place)) now (Err r) now'
        → Writes whole (λ bs. many count (p bs) i) i (collect spell (spaced f w count at)) before (Err r) left
    turns_refused whole r left d = writing_refused p Kept count i _ before k j s _ now h.writing keep whole _ _ now' left r b (rest_next f spell w at count k place b e) d

  pub turns_ended : {V : Type 0} (whole : List A → V) (v : V) → ((done : List A) → Kept done s → whole done ≡ v) → count ≤ k
      → Writes whole (λ bs. many count (p bs) i) i (collect spell (spaced f w count at)) before (Ok (record { value = v; next = j })) now
  turns_ended whole v g b = writing_ended p Kept count i _ before k j s _ now h.writing whole v g b (rest_none f spell w at count k b)

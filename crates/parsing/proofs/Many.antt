-- A loop that parses n values one after the other and puts a row for each into a list of zeros: what holds between its turns.
-- Assumes nothing.
use mathlib.Core.Path.{◌≡◌, refl, sym, ap, ◌∙◌, subst}
use mathlib.Core.List.{List, [], ◌∷◌, ◌++◌, append_assoc, append-nil}
use Prim.Native.Nat.{ℕ, zero, suc, ◌+◌, ◌-◌, ◌*◌, ◌≤◌, ◌<◌}
use native.Mathlib.Nat.{add-mul, one-mul}
use native.Mathlib.Omega.{arith}
use lib.ListN.{length, get_or, take, drop, set, length-append, length-drop}
use lib.Seq.{take_at, drop_at, drop-drop, length-take-le}
use borrow.Rule.Slice.PartMut.{same_len_mid}
use Rattle.model.specs.Lists.{collect, padded}
use Rattle.model.specs.Format.{Parsed, good, bad, and_then, many}
use Rattle.laws.proofs.Lists.{collect_append}
use Rattle.std.specs.declared.result.Result.TheVariants.{Ok, Err}
use Rattle.refusal.specs.declared.Refused.{Refused}
use Rattle.refusal.specs.Numbers.{number_of}
use Rattle.parsing.specs.Step.{kept_of, zeros, Filled}
use Rattle.parsing.specs.declared.Parsed.{Parsed as Read}
use Rattle.parsing.proofs.Lists.{zeros_length, drop_zeros, take_zeros, padded_zeros, single, set_part, collect_single}
use Rattle.parsing.proofs.Parsing.{bad_is_not_good, step_good, step_bad, filled_bad}

module _ {A : Type 0} where
  abbrev after : List A → Parsed (List A) → Parsed (List A)
  after done rest = and_then rest (λ as' j. good (done ++ as') j)

  after_none : (rest : Parsed (List A)) → rest ≡ after [] rest
  unfolding and_then
  after_none (good as' j) = refl
  after_none (bad n q) = refl

  after_one : (done : List A) (a : A) (rest : Parsed (List A)) → after done (and_then rest (λ as' j. good (a ∷ as') j)) ≡ after (done ++ (a ∷ [])) rest
  unfolding and_then
  after_one done a (good as' j) = ap (λ (xs : List A). good xs j) (sym (append_assoc done (a ∷ []) as'))
  after_one done a (bad n q) = refl

module _ {A S : Type 0} (p : ℕ → Parsed A) (Kept : List A → S → Type 0) (row : A → List ℕ) where
  -- k of n values are parsed, the next is at `at`; their rows fill the first o places of `free`, and s is what the loop keeps of them
  pub record Progress (n i : ℕ) (free : List ℕ) (k at o : ℕ) (s : S) (rows : List ℕ) : Type 0 where
    pub done : List A
    pub rest : many n p i ≡ after done (many (n - k) p at)
    pub kept : Kept done s
    pub reach : length (collect row done) ≡ o
    pub filled : rows ≡ collect row done ++ drop o free

  pub begun : (n i : ℕ) (free : List ℕ) (s : S) → Kept [] s → Progress n i free 0 i 0 s free
  unfolding collect
  begun n i free s h =
      let e : n - 0 ≡ n = omega arith in
      record { done = []; rest = rw e (after_none (many n p i)); kept = h; reach = refl; filled = refl }

  module _ (n i : ℕ) (free : List ℕ) (k at o : ℕ) (s : S) (rows : List ℕ) (now : Progress n i free k at o s rows) where
    -- the parse of the whole, by the parse of the next value

    next_of : k < n → many n p i ≡ after now.done (and_then (p at) (λ a j. and_then (many (n - suc k) p j) (λ as' l. good (a ∷ as') l)))
    unfolding many
    next_of h = let e : n - k ≡ suc (n - suc k) = omega arith in now.rest ∙ rw e

    pub refused : (m q : ℕ) → k < n → p at ≡ bad m q → many n p i ≡ bad m q
    unfolding and_then
    refused m q h e = next_of h ∙ rw e

    pub ended : n ≤ k → many n p i ≡ good now.done at
    unfolding and_then many
    ended h = let e : n - k ≡ 0 = omega arith in now.rest ∙ rw (e, append-nil)

    -- the places that are not filled yet are zeros
    pub unfilled : (m w : ℕ) → free ≡ zeros m → o + w ≤ m → take w (drop o rows) ≡ zeros w
    unfilled m w z h =
        let l : w ≤ m - o = omega arith in
        rw (now.filled, drop_at (collect row now.done) (drop o free) o now.reach, z, drop_zeros, take_zeros w (m - o) l)

    -- one value more, its row put into the next w places
    pub more : (a : A) (next w : ℕ) (s' : S) (rows' : List ℕ) → k < n → p at ≡ good a next → length (row a) ≡ w
        → ((done : List A) → Kept done s → Kept (done ++ (a ∷ [])) s') → rows' ≡ take o rows ++ (row a ++ drop w (drop o rows))
        → Progress n i free (k + 1) next (o + w) s' rows'
    unfolding and_then collect
    more a next w s' rows' h e l step put =
        let d : List A = now.done in
        let one : k + 1 ≡ suc k = omega arith in
        let joined : collect row (d ++ (a ∷ [])) ≡ collect row d ++ row a =
        collect_append row d (a ∷ []) ∙ ap (λ (xs : List ℕ). collect row d ++ xs) (append-nil (row a))
        in
        record {
          done = d ++ (a ∷ []);
          rest = next_of h ∙ rw (e, one, after_one d a (many (n - suc k) p next));
          kept = step d now.kept;
          reach = rw (joined, length-append, now.reach, l);
          filled =
              put
              ∙ rw (now.filled, take_at (collect row d) (drop o free) o now.reach, drop_at (collect row d) (drop o free) o now.reach, drop-drop, joined, append_assoc);
        }

    pub finished : {V : Type 0} (keep : List A → V) (v : V) (m : ℕ) → ((done : List A) → Kept done s → keep done ≡ v) → n ≤ k → free ≡ zeros m
        → Filled keep (λ as'. padded m (collect row as')) (many n p i) (Ok (record { value = v; next = at })) rows
    unfolding kept_of
    finished keep v m f h z =
        record {
          answer = rw (ended h, f now.done now.kept);
          stored =
              λ as' j e.
              let same : now.done ≡ as' = cc (ended h) in
              rw (now.filled, z, drop_zeros, padded_zeros, ← now.reach, same);
        }

    pub failed : {V : Type 0} (keep : List A → V) (full : List A → List ℕ) (left : List ℕ) (e : Refused) → k < n → p at ≡ bad (number_of e.refusal) e.place
        → Filled keep full (many n p i) (Err e) left
    failed keep full left e h f = filled_bad keep full (many n p i) left e (refused _ _ h f)

-- nothing is kept
abbrev pub Anything : {A : Type 0} → List A → Unit {0} → Type 0
Anything done s = Unit {0}

-- numbers, one to a place

module _ {S : Type 0} (p : ℕ → Parsed ℕ) (Kept : List ℕ → S → Type 0) (n i : ℕ) (free : List ℕ) (k at : ℕ) (s : S) (rows : List ℕ) (now : Progress p Kept single n i free k at k s rows) where
  pub more_single : (v next : ℕ) (s' : S) → k < n → k < length rows → p at ≡ good v next → ((done : List ℕ) → Kept done s → Kept (done ++ (v ∷ [])) s')
      → Progress p Kept single n i free (k + 1) next (k + 1) s' (set rows k v)
  more_single v next s' h l e step = more p Kept single n i free k at k s rows now v next 1 s' (set rows k v) h e refl step (set_part rows k v l)

  pub finished_single : {V : Type 0} (keep : List ℕ → V) (v : V) (m : ℕ) → ((done : List ℕ) → Kept done s → keep done ≡ v) → n ≤ k → free ≡ zeros m
      → Filled keep (padded m) (many n p i) (Ok (record { value = v; next = at })) rows
  finished_single keep v m f h z =
      let d = finished p Kept single n i free k at k s rows now keep v m f h z in
      record { answer = d.answer; stored = λ as' j e. d.stored as' j e ∙ ap (padded m) (collect_single as') }

-- as many values as were asked for
pub many_length : {A : Type 0} (n : ℕ) (p : ℕ → Parsed A) (i : ℕ) (as' : List A) (j : ℕ) → many n p i ≡ good as' j → length as' ≡ n
unfolding many and_then
many_length zero p i as' j e = let h : [] ≡ as' = cc in ap length (sym h)
many_length {A} (suc n) p i as' j e = go (p i) (λ k bs l. many_length n p k bs l) e
  where
    last : (a : A) (rest : Parsed (List A)) → ((bs : List A) (l : ℕ) → rest ≡ good bs l → length bs ≡ n) → and_then rest (λ bs k. good (a ∷ bs) k) ≡ good as' j → length as' ≡ suc n
    last a (good bs l) f g = let h : a ∷ bs ≡ as' = cc in ap length (sym h) ∙ ap suc (f bs l refl)
    last a (bad m q) f g = bad_is_not_good (bad m q) m q as' j refl g

    go : (first : Parsed A) → ((k : ℕ) (bs : List A) (l : ℕ) → many n p k ≡ good bs l → length bs ≡ n)
        → and_then first (λ a k. and_then (many n p k) (λ bs l. good (a ∷ bs) l)) ≡ good as' j → length as' ≡ suc n
    go (good a k) f g = last a (many n p k) (f k) g
    go (bad m q) f g = bad_is_not_good (bad m q) m q as' j refl g

-- rows of w numbers in m places, each filled by the parser of its value in a part of the list: k of n are filled
pub record Rows {A S : Type 0} (p : ℕ → Parsed A) (Kept : List A → S → Type 0) (row : A → List ℕ) (w m n i : ℕ) (free : List ℕ) (k at : ℕ) (s : S) (rows : List ℕ) : Type 0 where
  pub size : length rows ≡ m
  pub progress : Progress p Kept row n i free k at (k * w) s rows

pub rows_begun : {A S : Type 0} {p : ℕ → Parsed A} {Kept : List A → S → Type 0} {row : A → List ℕ} {w m n i : ℕ} {free : List ℕ} {s : S} → free ≡ zeros m → Kept [] s
    → Rows p Kept row w m n i free 0 i s free
rows_begun {p = p} {Kept = Kept} {row = row} {w = w} {m = m} {n = n} {i = i} {free = free} {s = s} z h =
    let none : 0 ≡ 0 * w = omega arith in
    record { size = zeros_length m free z; progress = subst (λ (o : ℕ). Progress p Kept row n i free 0 i o s free) none (begun p Kept row n i free s h) }

-- the list once a row that was lent is given back
abbrev pub given_back : ℕ → ℕ → List ℕ → List ℕ → List ℕ
given_back w from rows left = take from rows ++ (left ++ drop ((from + w) - from) (drop from rows))

module _ {A S : Type 0} {p : ℕ → Parsed A} {Kept : List A → S → Type 0} {row : A → List ℕ} {w m n i : ℕ} {free : List ℕ} {k at : ℕ} {s : S} {rows : List ℕ}
    (now : Rows p Kept row w m n i free k at s rows) (z : free ≡ zeros m) where
  abbrev from : ℕ
  from = k * w

  -- the next row is lent
  pub rows_lent : from + w ≤ m → take ((from + w) - from) (drop from rows) ≡ zeros w
  rows_lent h = let e : (from + w) - from ≡ w = omega arith in rw e (unfilled p Kept row n i free k at from s rows now.progress m w z h)

  module _ (left : List ℕ) (g : length left ≡ length (take ((from + w) - from) (drop from rows))) where
    back_size : length (given_back w from rows left) ≡ m
    back_size = same_len_mid from ((from + w) - from) rows left g ∙ now.size

    pub rows_more : {V : Type 0} (keep : A → V) (x : Read V) (s' : S) → k < n → from + w ≤ m → Filled keep row (p at) (Ok x) left
        → ((a : A) → keep a ≡ x.value → (done : List A) → Kept done s → Kept (done ++ (a ∷ [])) s')
        → Rows p Kept row w m n i free (k + 1) x.next s' (given_back w from rows left)
    rows_more keep x s' h l f step =
        let a = step_good keep (p at) x.value x.next f.answer in
        let wide : (from + w) - from ≡ w = omega arith in
        let same : left ≡ row a.result = f.stored a.result x.next a.parse in
        let fits : w ≤ length rows - from = omega (arith, now.size) in
        let size : length (row a.result) ≡ w = ap length (sym same) ∙ g ∙ rw (wide, length-take-le w (drop from rows) (rw length-drop fits)) in
        let next : from + w ≡ (k + 1) * w = omega (arith, add-mul k 1 w, one-mul w) in
        record {
          size = back_size;
          progress =
              subst (λ (o : ℕ). Progress p Kept row n i free (k + 1) x.next o s' (given_back w from rows left)) next
              (more p Kept row n i free k at from s rows now.progress a.result x.next w s' _ h a.parse size (λ done m. step a.result a.kept done m)
              (rw (wide, same)));
        }

  pub rows_failed : {V W : Type 0} (keep : A → V) (whole : List A → W) (full : List A → List ℕ) (e : Refused) (left left' : List ℕ) → k < n
      → Filled keep row (p at) (Err e) left → Filled whole full (many n p i) (Err e) left'
  rows_failed keep whole full e left left' h f =
      failed p Kept row n i free k at from s rows now.progress whole full left' e h (step_bad keep (p at) _ _ f.answer)

  pub rows_finished : {V : Type 0} (keep : List A → V) (v : V) → ((done : List A) → Kept done s → keep done ≡ v) → n ≤ k
      → Filled keep (λ as'. padded m (collect row as')) (many n p i) (Ok (record { value = v; next = at })) rows
  rows_finished keep v f h = finished p Kept row n i free k at from s rows now.progress keep v m f h z

-- what holds of every value that the parser gives holds at each place
pub many_at : {A : Type 0} (P : A → Type 0) (p : ℕ → Parsed A) (d : A) → P d → ((i : ℕ) (a : A) (j : ℕ) → p i ≡ good a j → P a) → (n i : ℕ) (as' : List A) (j : ℕ)
    → many n p i ≡ good as' j → (k : ℕ) → P (get_or as' k d)
unfolding many and_then
many_at P p d h f zero i as' j e k = let g : [] ≡ as' = cc in subst (λ xs. P (get_or xs k d)) g h
many_at {A} P p d h f (suc n) i as' j e k = go (p i) (λ a l g. f i a l g) (λ l bs m g. many_at P p d h f n l bs m g) e
  where
    at : (a : A) (bs : List A) → P a → ((m : ℕ) → P (get_or bs m d)) → (k : ℕ) → P (get_or (a ∷ bs) k d)
    at a bs x y zero = x
    at a bs x y (suc m) = y m

    last : (a : A) (rest : Parsed (List A)) → P a → ((bs : List A) (l : ℕ) → rest ≡ good bs l → (m : ℕ) → P (get_or bs m d))
        → and_then rest (λ bs k. good (a ∷ bs) k) ≡ good as' j → P (get_or as' k d)
    last a (good bs l) x y g = let s : a ∷ bs ≡ as' = cc in subst (λ xs. P (get_or xs k d)) s (at a bs x (y bs l refl) k)
    last a (bad m q) x y g = bad_is_not_good (bad m q) m q as' j refl g

    go : (first : Parsed A) → ((a : A) (l : ℕ) → first ≡ good a l → P a) → ((l : ℕ) (bs : List A) (m : ℕ) → many n p l ≡ good bs m → (k : ℕ) → P (get_or bs k d))
        → and_then first (λ a l. and_then (many n p l) (λ bs m. good (a ∷ bs) m)) ≡ good as' j → P (get_or as' k d)
    go (good a l) x y g = last a (many n p l) (x a l refl) (y l) g
    go (bad m q) x y g = bad_is_not_good (bad m q) m q as' j refl g

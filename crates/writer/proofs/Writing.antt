-- What is written, by the parts that it is made of. Assumes nothing.
use mathlib.Core.Path.{◌≡◌, refl, sym, ap, ap₂, ◌∙◌, subst}
use mathlib.Core.List.{List, [], ◌∷◌, ◌++◌, append_assoc}
use Prim.Native.Nat.{ℕ, zero, suc, ◌+◌, ◌-◌, ◌≤◌, ◌<◌}
use native.Mathlib.Omega.{arith}
use native.Mathlib.Decide.{dec_lt}
use lib.ListN.{length, get_or, take, drop, set, get_or-append}
use lib.Seq.{length-take-le, get_or-take, get_or-drop, get_or-append_right}
use borrow.Rule.Slice.PartMut.{put_mid}
use Rattle.model.specs.Format.{Parsed, good, bad, and_then, many, byte}
use Rattle.laws_format.proofs.Parsers.{drop_past, drop_place}
use Rattle.std.specs.Prelude.{Result, Ok, Err}
use Rattle.refusal.specs.declared.Refusal.{Refusal}
use Rattle.refusal.specs.declared.Refused.{Refused}
use Rattle.refusal.specs.Numbers.{number_of}
use Rattle.parsing.specs.Step.{kept_of}
use Rattle.parsing.specs.declared.Parsed.{Parsed as Read}
use Rattle.writer.specs.Writes.{value, Agree, Written, Writes}
use Rattle.parsing.proofs.Lists.{set_part}
use Rattle.parsing.proofs.Parsing.{Parses, step_good, step_bad, bad_is_not_good, byte_below, byte_above, byte_within, byte_good, and_then_good}
use Rattle.parsing.proofs.Many.{Progress, begun, more, ended, refused}

-- a refusal and a value

module _ {A V : Type 0} (keep : A → V) (parsed : Parsed A) (bs rest out : List ℕ) where
  pub written_bad : (e : Refused) → parsed ≡ bad (number_of e.refusal) e.place → Written keep parsed bs rest (Err e) out
  unfolding kept_of
  written_bad e f = record { answer = rw f; stored = λ a j g. bad_is_not_good parsed _ _ a j f g; left = λ a j g. bad_is_not_good parsed _ _ a j f g }

  pub written_good : (a : A) (v : V) (j : ℕ) → parsed ≡ good a j → keep a ≡ v → Agree bs j out → drop j bs ≡ rest → Written keep parsed bs rest (Ok (record { value = v; next = j })) out
  unfolding kept_of
  written_good a v j e k g l =
      record {
        answer = rw (e, k);
        stored = λ b i f. let h : j ≡ i = cc in subst (λ (x : ℕ). Agree bs x out) h g;
        left = λ b i f. let h : j ≡ i = cc in subst (λ (x : ℕ). drop x bs ≡ rest) h l;
      }

-- bytes that are written at once, where they are spelled

module _ (i : ℕ) (xs before : List ℕ) (fits : i + length xs ≤ length before) where
  agree_part : (bs rest : List ℕ) → drop i bs ≡ xs ++ rest → Agree bs i before → Agree bs (i + length xs) (put_mid i (length xs) before xs)
  agree_part bs rest d g = record { at = λ k l m. go k l m (dec_lt k i) }
    where
      tail : List ℕ
      tail = drop (length xs) (drop i before)

      front : length (take i before) ≡ i
      front = length-take-le i before (omega arith)

      go : (k : ℕ) → 4 ≤ k → k < i + length xs → Dec (k < i) → get_or (put_mid i (length xs) before xs) k 0 ≡ get_or bs k 0
      go k l m (yes n) = get_or-append (take i before) (xs ++ tail) 0 k (omega (arith, front)) ∙ get_or-take i before k 0 n ∙ g.at k l n
      go k l m (no n) =
          let within : k - i < length xs = omega arith in
          let place : i + (k - i) ≡ k = omega arith in
          get_or-append_right (take i before) (xs ++ tail) k 0 (omega (arith, front))
          ∙ ap (λ (o : ℕ). get_or (xs ++ tail) (k - o) 0) front
          ∙ get_or-append xs tail 0 (k - i) within
          ∙ sym (get_or-append xs rest 0 (k - i) within)
          ∙ ap (λ (ys : List ℕ). get_or ys (k - i) 0) (sym d)
          ∙ get_or-drop i bs (k - i) 0
          ∙ ap (λ (o : ℕ). get_or bs o 0) place

  pub writes_part : {A V : Type 0} (keep : A → V) (parser : List ℕ → Parsed A) (v : V)
      → ((bs rest : List ℕ) → drop i bs ≡ xs ++ rest → Parses keep (parser bs) v (i + length xs))
      → Writes keep parser i xs before (Ok (record { value = v; next = i + length xs })) (put_mid i (length xs) before xs)
  writes_part keep parser v f =
      record {
        run =
            λ bs rest d g.
            let a = f bs rest d in
            written_good keep _ bs rest _ a.result v _ a.parse a.kept (agree_part bs rest d g) (drop_past bs xs rest i d);
      }

-- one byte

module _ (v low high : ℕ) (refusal : Refusal) (i : ℕ) (before : List ℕ) where
  abbrev byte_at : List ℕ → Parsed ℕ
  byte_at bs = byte bs low high (number_of refusal) i

  pub writes_below : v < low → (after : List ℕ) → Writes value byte_at i (v ∷ []) before (Err (record { refusal = refusal; place = i })) after
  writes_below h after =
      record {
        run =
            λ bs rest d g.
            let (l, e) = drop_place bs i v rest d in
            written_bad value _ bs rest after _ (byte_below bs low high _ i l (omega arith));
      }

  pub writes_above : low ≤ v → high < v → (after : List ℕ) → Writes value byte_at i (v ∷ []) before (Err (record { refusal = refusal; place = i })) after
  writes_above h k after =
      record {
        run =
            λ bs rest d g.
            let (l, e) = drop_place bs i v rest d in
            written_bad value _ bs rest after _ (byte_above bs low high _ i l (omega arith) (omega arith));
      }

  pub writes_within : low ≤ v → v ≤ high → i < length before → Writes value byte_at i (v ∷ []) before (Ok (record { value = v; next = i + 1 })) (set before i v)
  writes_within h k w =
      rw (set_part before i v w)
      (writes_part i (v ∷ []) before (omega arith) value byte_at v
      (λ bs rest d.
      let (l, e) = drop_place bs i v rest d in
      record { result = get_or bs i 0; parse = byte_within bs low high _ i l (omega arith) (omega arith); kept = e }))

-- one part after another

module _ {A B V W : Type 0} (keepA : A → V) (keep : B → W) (first : List ℕ → Parsed A) (then : List ℕ → A → ℕ → Parsed B) (i : ℕ) (spelledA spelledB before mid : List ℕ) where
  abbrev both : List ℕ → Parsed B
  both bs = and_then (first bs) (then bs)

  part : (r : Result (Read V) Refused) → Writes keepA first i spelledA before r mid → (bs rest : List ℕ) → drop i bs ≡ (spelledA ++ spelledB) ++ rest → Agree bs i before
      → Written keepA (first bs) bs (spelledB ++ rest) r mid
  part r h bs rest d g = h.run bs (spelledB ++ rest) (d ∙ append_assoc spelledA spelledB rest) g

  pub writes_refused : (e : Refused) (after : List ℕ) → Writes keepA first i spelledA before (Err e) mid → Writes keep both i (spelledA ++ spelledB) before (Err e) after
  unfolding and_then
  writes_refused e after h =
      record { run = λ bs rest d g. let b = step_bad keepA (first bs) _ _ (part (Err e) h bs rest d g).answer in written_bad keep _ bs rest after e (rw b) }

  pub writes_then : (x : Read V) (s : Result (Read W) Refused) (after : List ℕ) → Writes keepA first i spelledA before (Ok x) mid
      → ((a : A) → keepA a ≡ x.value → Writes keep (λ bs. then bs a x.next) x.next spelledB mid s after) → Writes keep both i (spelledA ++ spelledB) before s after
  unfolding and_then
  writes_then x s after h f = record { run = λ bs rest d g. go bs rest d g }
    where
      go : (bs rest : List ℕ) → drop i bs ≡ (spelledA ++ spelledB) ++ rest → Agree bs i before → Written keep (both bs) bs rest s after
      go bs rest d g =
          let w = part (Ok x) h bs rest d g in
          let a = step_good keepA (first bs) x.value x.next w.answer in
          rw a.parse ((f a.result a.kept).run bs rest (w.left a.result x.next a.parse) (w.stored a.result x.next a.parse))

  -- where what the first part spells is its value
  pub writes_exact : (x : Read V) (s : Result (Read W) Refused) (after : List ℕ) → Writes keepA first i spelledA before (Ok x) mid → (y : A)
      → ((bs rest : List ℕ) (a : A) → drop i bs ≡ spelledA ++ rest → first bs ≡ good a x.next → a ≡ y) → Writes keep (λ bs. then bs y x.next) x.next spelledB mid s after
      → Writes keep both i (spelledA ++ spelledB) before s after
  writes_exact x s after h y pin f = record { run = λ bs rest d g. go bs rest d g }
    where
      go : (bs rest : List ℕ) → drop i bs ≡ (spelledA ++ spelledB) ++ rest → Agree bs i before → Written keep (both bs) bs rest s after
      go bs rest d g =
          let w = part (Ok x) h bs rest d g in
          let a = step_good keepA (first bs) x.value x.next w.answer in
          let same : a.result ≡ y = pin bs (spelledB ++ rest) a.result (d ∙ append_assoc spelledA spelledB rest) a.parse in
          let p : first bs ≡ good y x.next = a.parse ∙ ap (λ (z : A). good z x.next) same in
          subst (λ (o : Parsed B). Written keep o bs rest s after) (sym (and_then_good (first bs) (then bs) y x.next p))
          (f.run bs rest (w.left a.result x.next a.parse) (w.stored a.result x.next a.parse))

module _ {A B V : Type 0} (f : A → B) (keepA : A → V) (keep : B → V) where
  written_map : (o : Parsed A) (bs rest : List ℕ) (r : Result (Read V) Refused) (after : List ℕ) → ((a : A) → keepA a ≡ keep (f a)) → Written keepA o bs rest r after
      → Written keep (and_then o (λ a j. good (f a) j)) bs rest r after
  unfolding and_then kept_of
  written_map (good a i) bs rest r after k w =
      record {
        answer = w.answer ∙ ap (λ (v : V). good v i) (k a);
        stored = λ b j e. let h : i ≡ j = cc in subst (λ (x : ℕ). Agree bs x after) h (w.stored a i refl);
        left = λ b j e. let h : i ≡ j = cc in subst (λ (x : ℕ). drop x bs ≡ rest) h (w.left a i refl);
      }
  written_map (bad n p) bs rest r after k w =
      record { answer = w.answer; stored = λ b j e. bad_is_not_good (bad n p) n p b j refl e; left = λ b j e. bad_is_not_good (bad n p) n p b j refl e }

  pub writes_map : (parser : List ℕ → Parsed A) (i : ℕ) (spelled before : List ℕ) (r : Result (Read V) Refused) (after : List ℕ)
      → ((a : A) → keepA a ≡ keep (f a)) → Writes keepA parser i spelled before r after → Writes keep (λ bs. and_then (parser bs) (λ a j. good (f a) j)) i spelled before r after
  writes_map parser i spelled before r after k h = record { run = λ bs rest d g. written_map (parser bs) bs rest r after k (h.run bs rest d g) }

-- the same, spelled otherwise
pub writes_as : {A V : Type 0} (keep : A → V) (parser : List ℕ → Parsed A) (i : ℕ) (spelled spelled' before : List ℕ) (r : Result (Read V) Refused) (after : List ℕ)
    → spelled ≡ spelled' → Writes keep parser i spelled before r after → Writes keep parser i spelled' before r after
writes_as keep parser i spelled spelled' before r after e h = subst (λ (xs : List ℕ). Writes keep parser i xs before r after) e h

-- n values one after the other: k of them are written, and `todo` is spelled yet

module _ {A S : Type 0} (p : List ℕ → ℕ → Parsed A) (Kept : List A → S → Type 0) (n i : ℕ) (spelled before : List ℕ) where
  abbrev nothing : A → List ℕ
  nothing a = []

  pub record Sofar (k j : ℕ) (s : S) (todo now bs rest : List ℕ) : Type 0 where
    pub parsed : Progress (p bs) Kept nothing n i [] k j 0 s []
    pub left : drop j bs ≡ todo ++ rest
    pub stored : Agree bs j now

  pub record Writing (k j : ℕ) (s : S) (todo now : List ℕ) : Type 0 where
    pub run : (bs rest : List ℕ) → drop i bs ≡ spelled ++ rest → Agree bs i before → Sofar k j s todo now bs rest

  pub writing_begun : (s : S) (todo : List ℕ) → spelled ≡ todo → Kept [] s → Writing 0 i s todo before
  writing_begun s todo e h =
      record { run = λ bs rest d g. record { parsed = begun (p bs) Kept nothing n i [] s h; left = d ∙ ap (λ (xs : List ℕ). xs ++ rest) e; stored = g } }

  module _ (k j : ℕ) (s : S) (todo now : List ℕ) (w : Writing k j s todo now) where
    pub writing_more : {V : Type 0} (keep : A → V) (piece todo' now' : List ℕ) (x : Read V) (s' : S) → k < n → todo ≡ piece ++ todo'
        → Writes keep (λ bs. p bs j) j piece now (Ok x) now' → ((a : A) → keep a ≡ x.value → (done : List A) → Kept done s → Kept (done ++ (a ∷ [])) s')
        → Writing (k + 1) x.next s' todo' now'
    writing_more keep piece todo' now' x s' h t f step = record { run = λ bs rest d g. go bs rest d g }
      where
        go : (bs rest : List ℕ) → drop i bs ≡ spelled ++ rest → Agree bs i before → Sofar (k + 1) x.next s' todo' now' bs rest
        go bs rest d g =
            let c = w.run bs rest d g in
            let y = f.run bs (todo' ++ rest) (c.left ∙ ap (λ (xs : List ℕ). xs ++ rest) t ∙ append_assoc piece todo' rest) c.stored in
            let a = step_good keep (p bs j) x.value x.next y.answer in
            record {
              parsed = more (p bs) Kept nothing n i [] k j 0 s [] c.parsed a.result x.next 0 s' [] h a.parse refl (λ done m. step a.result a.kept done m) refl;
              left = y.left a.result x.next a.parse;
              stored = y.stored a.result x.next a.parse;
            }

    pub writing_refused : {V W : Type 0} (keep : A → V) (whole : List A → W) (piece todo' now' left : List ℕ) (e : Refused) → k < n → todo ≡ piece ++ todo'
        → Writes keep (λ bs. p bs j) j piece now (Err e) now' → Writes whole (λ bs. many n (p bs) i) i spelled before (Err e) left
    writing_refused keep whole piece todo' now' left e h t f = record { run = λ bs rest d g. go bs rest d g }
      where
        go : (bs rest : List ℕ) → drop i bs ≡ spelled ++ rest → Agree bs i before → Written whole (many n (p bs) i) bs rest (Err e) left
        go bs rest d g =
            let c = w.run bs rest d g in
            let y = f.run bs (todo' ++ rest) (c.left ∙ ap (λ (xs : List ℕ). xs ++ rest) t ∙ append_assoc piece todo' rest) c.stored in
            written_bad whole _ bs rest left e (refused (p bs) Kept nothing n i [] k j 0 s [] c.parsed _ _ h (step_bad keep (p bs j) _ _ y.answer))

    pub writing_ended : {V : Type 0} (whole : List A → V) (v : V) → ((done : List A) → Kept done s → whole done ≡ v) → n ≤ k → todo ≡ []
        → Writes whole (λ bs. many n (p bs) i) i spelled before (Ok (record { value = v; next = j })) now
    writing_ended whole v f h t = record { run = λ bs rest d g. go bs rest d g }
      where
        go : (bs rest : List ℕ) → drop i bs ≡ spelled ++ rest → Agree bs i before → Written whole (many n (p bs) i) bs rest (Ok (record { value = v; next = j })) now
        go bs rest d g =
            let c = w.run bs rest d g in
            written_good whole _ bs rest now c.parsed.done v j (ended (p bs) Kept nothing n i [] k j 0 s [] c.parsed h) (f c.parsed.done c.parsed.kept) c.stored
            (c.left ∙ ap (λ (xs : List ℕ). xs ++ rest) t)

-- numbers that were parsed are those that are spelled
pub spelled_numbers : (low high refusal n : ℕ) (bs xs rest as' : List ℕ) (i j : ℕ) → length xs ≡ n → drop i bs ≡ xs ++ rest → many n (byte bs low high refusal) i ≡ good as' j → as' ≡ xs
unfolding many and_then
spelled_numbers low high refusal zero bs [] rest as' i j l d e = let f : [] ≡ as' = cc in sym f
spelled_numbers low high refusal zero bs (x ∷ xs) rest as' i j l d e = absurd (omega arith)
spelled_numbers low high refusal (suc n) bs [] rest as' i j l d e = absurd (omega arith)
spelled_numbers low high refusal (suc n) bs (x ∷ xs) rest as' i j l d e =
    go (byte bs low high refusal i) refl (λ k ys m f. spelled_numbers low high refusal n bs xs rest ys k m (omega arith) f) e
  where
    last : (v k : ℕ) (o : Parsed (List ℕ)) → x ≡ v → ((ys : List ℕ) (m : ℕ) → o ≡ good ys m → ys ≡ xs) → and_then o (λ ys m. good (v ∷ ys) m) ≡ good as' j → as' ≡ x ∷ xs
    last v k (good ys m) s f g = let h : v ∷ ys ≡ as' = cc in sym h ∙ ap₂ (λ (a : ℕ) (b : List ℕ). a ∷ b) (sym s) (f ys m refl)
    last v k (bad m q) s f g = bad_is_not_good (bad m q) m q as' j refl g

    go : (o : Parsed ℕ) → byte bs low high refusal i ≡ o → ((k : ℕ) (ys : List ℕ) (m : ℕ) → drop k bs ≡ xs ++ rest → many n (byte bs low high refusal) k ≡ good ys m → ys ≡ xs)
        → and_then o (λ a k. and_then (many n (byte bs low high refusal) k) (λ bs' l. good (a ∷ bs') l)) ≡ good as' j → as' ≡ x ∷ xs
    go (good v k) p f g =
        let w = byte_good bs low high refusal i v k p in
        let (h, s) = drop_place bs i x (xs ++ rest) d in
        let next : k ≡ i + 1 = w.next in
        let past : drop k bs ≡ xs ++ rest = ap (λ (y : ℕ). drop y bs) next ∙ drop_past bs (x ∷ []) (xs ++ rest) i d in
        last v k (many n (byte bs low high refusal) k) (sym s ∙ sym w.value) (λ ys m t. f k ys m past t) g
    go (bad m q) p f g = bad_is_not_good (bad m q) m q as' j refl g

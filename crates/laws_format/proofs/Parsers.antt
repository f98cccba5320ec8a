-- Laws of parsers: what a good answer tells of the bytes, and what the bytes of a value make of the answer; for one byte, for a number of one or
-- two, for a sequence and for `many`. Assumes nothing.
use mathlib.Core.Path.{◌≡◌, refl, sym, ap, ◌∙◌, subst}
use mathlib.Core.Bool.{Bool, true, false, ◌&&◌}
use mathlib.Core.Logic.{◌⊎◌, inl, inr, ⊎_elim}
use mathlib.Core.List.Memᴰ
use mathlib.Core.List.{List, [], ◌∷◌, ◌++◌, append_assoc, append-nil, Memᴰ}
use Prim.Native.Nat.{ℕ, zero, suc, ◌+◌, ◌*◌, ◌/◌, ◌%◌, ◌≤◌, ◌<◌}
use native.Mathlib.Omega.{arith}
use native.Mathlib.Numerals.{add-one}
use lib.Dec.{ltb, leb}
use lib.ListN.{length, get_or, drop, length-append, length-drop, drop_of_length-le}
use lib.Seq.{drop-cons, drop-drop, drop-append_seam, get_or-drop}
use borrow.Author.Tests.{ltb-true, leb-true, lt-ltb, le-leb}
use Rattle.model.specs.Lists.{collect}
use Rattle.model.specs.Format.{Parsed, good, bad, and_then, byte, number, many, number_bytes}
use Rattle.laws.proofs.Bools.{case, not_both, and_true, true_and}
use Rattle.laws.proofs.Lists.{get_or_mem}

-- numbers that are bytes
abbrev pub Bytes : List ℕ → Type 0
Bytes xs = (x : ℕ) → Memᴰ x xs → x < 256

-- an answer whose value and end, if it has them, are as P says
pub data Yields {A : Type 0} (P : A → ℕ → Type 0) : Parsed A → Type 0 where
  value : {x : A} {j : ℕ} → P x j → Yields P (good x j)
  refused : {n p : ℕ} → Yields P (bad n p)

-- the answer is this value and this end if W holds, and otherwise one of 3 to 9 with a place among the first `size`
pub data Meets {A : Type 0} (size : ℕ) (x : A) (j : ℕ) (W : Type 0) : Parsed A → Type 0 where
  taken : W → Meets size x j W (good x j)
  faulty : {n p : ℕ} → (W → ⊥) → 3 ≤ n → n ≤ 9 → p < size → Meets size x j W (bad n p)

module _ {A : Type 0} where
  pub yields_good : {P : A → ℕ → Type 0} {o : Parsed A} → Yields P o → (x : A) (j : ℕ) → o ≡ good x j → P x j
  yields_good {P} (value {x = y} {j = k} h) x j e =
      let p : y ≡ x = cc in
      let q : k ≡ j = cc in
      mathlib.Core.Path.subst₂ P p q h
  yields_good (refused {n} {p}) x j e = let z : ◌≡◌ {A = ℕ} 0 1 = cc in absurd (omega arith)

  pub meets_good : {size : ℕ} {x : A} {j : ℕ} {W : Type 0} {o : Parsed A} → Meets size x j W o → W → o ≡ good x j
  meets_good (taken w) v = refl
  meets_good (faulty n l m k) v = absurd (n v)

  pub meets_value : {size : ℕ} {x : A} {j : ℕ} {W : Type 0} {o : Parsed A} → Meets size x j W o → (y : A) (k : ℕ) → o ≡ good y k → (y ≡ x) × (k ≡ j) × W
  meets_value (taken w) y k e = (cc, cc, w)
  meets_value (faulty n l m h) y k e = let z : ◌≡◌ {A = ℕ} 0 1 = cc in absurd (omega arith)

  pub meets_fault : {size : ℕ} {x : A} {j : ℕ} {W : Type 0} {o : Parsed A} → Meets size x j W o → (n p : ℕ) → o ≡ bad n p
      → (W → ⊥) × (3 ≤ n) × (n ≤ 9) × (p < size)
  meets_fault (taken w) n p e = let z : ◌≡◌ {A = ℕ} 0 1 = cc in absurd (omega arith)
  meets_fault {size = size} (faulty {n = m} {p = q} f l h k) n p e =
      let i : m ≡ n = cc in
      let j : q ≡ p = cc in
      (f, omega arith, omega arith, omega arith)

  pub meets_end : {size : ℕ} {x : A} {j k : ℕ} {W : Type 0} {o : Parsed A} → j ≡ k → Meets size x j W o → Meets size x k W o
  meets_end {size} {x} {W = W} {o = o} e h = subst (λ (k : ℕ). Meets size x k W o) e h

module _ {A B : Type 0} where
  pub yields_then : {P : A → ℕ → Type 0} {Q : B → ℕ → Type 0} {k : A → ℕ → Parsed B} {o : Parsed A} → Yields P o
      → ((x : A) (j : ℕ) → P x j → Yields Q (k x j)) → Yields Q (and_then o k)
  unfolding and_then
  yields_then (value {x = x} {j = j} h) f = f x j h
  yields_then refused f = refused

  pub meets_then : {size : ℕ} {x : A} {j : ℕ} {W : Type 0} {y : B} {l : ℕ} {U : Type 0} (k : A → ℕ → Parsed B) {o : Parsed A} → Meets size x j W o
      → (U → W) → (W → Meets size y l U (k x j)) → Meets size y l U (and_then o k)
  unfolding and_then
  meets_then k (taken w) part f = f w
  meets_then k (faulty n l m h) part f = faulty (λ v. n (part v)) l m h

-- from i up to j the bytes are xs
pub record Spelled (bs : List ℕ) (i : ℕ) (xs : List ℕ) (j : ℕ) : Type 0 where
  pub end : j ≡ i + length xs
  pub bytes : drop i bs ≡ xs ++ drop j bs

-- past what stands at i stands the rest
pub drop_past : (bs xs rest : List ℕ) (i : ℕ) → drop i bs ≡ xs ++ rest → drop (i + length xs) bs ≡ rest
drop_past bs xs rest i e = sym (drop-drop (length xs) i bs) ∙ ap (drop (length xs)) e ∙ drop-append_seam xs rest

pub spelled_none : (bs : List ℕ) (i : ℕ) → Spelled bs i [] i
spelled_none bs i = record { end = omega arith; bytes = refl }

pub spelled_then : {bs : List ℕ} {i : ℕ} {xs : List ℕ} {j : ℕ} {ys : List ℕ} {k : ℕ} → Spelled bs i xs j → Spelled bs j ys k → Spelled bs i (xs ++ ys) k
spelled_then {xs = xs} {ys = ys} {k = k} h g =
    record {
      end = omega (arith, length-append xs ys, h.end, g.end);
      bytes = h.bytes ∙ ap (λ (zs : List ℕ). xs ++ zs) g.bytes ∙ sym (append_assoc xs ys _);
    }

-- where the list has bytes, they are xs: a number of two bytes says so only of such a list
abbrev pub Spells : List ℕ → ℕ → List ℕ → ℕ → Type 0
Spells bs i xs j = Bytes bs → Spelled bs i xs j

pub spells_then : {bs : List ℕ} {i : ℕ} {xs : List ℕ} {j : ℕ} {ys : List ℕ} {k : ℕ} → Spells bs i xs j → Spells bs j ys k → Spells bs i (xs ++ ys) k
spells_then h g b = spelled_then (h b) (g b)

pub spelled_all : {bs : List ℕ} {i : ℕ} {xs : List ℕ} {j : ℕ} → Spelled bs i xs j → j ≡ length bs → drop i bs ≡ xs
spelled_all {bs} {xs = xs} {j = j} h e = h.bytes ∙ ap (λ (ys : List ℕ). xs ++ ys) (drop_of_length-le bs {i = j} (omega arith)) ∙ append-nil xs

-- what stands at i is there
pub drop_place : (bs : List ℕ) (i v : ℕ) (rest : List ℕ) → drop i bs ≡ v ∷ rest → (i < length bs) × (get_or bs i 0 ≡ v)
drop_place bs i v rest e =
    (omega (arith, length-drop i bs, ap length e), ap (λ (k : ℕ). get_or bs k 0) (omega arith) ∙ sym (get_or-drop i bs 0 0) ∙ ap (λ (zs : List ℕ). get_or zs 0 0) e)

-- a number in a range
pub record Between (low high v : ℕ) : Type 0 where
  pub above : low ≤ v
  pub below : v ≤ high

-- one byte
module _ (bs : List ℕ) (low high refusal : ℕ) where
  pub byte_short : (i : ℕ) → ltb i (length bs) ≡ false → byte bs low high refusal i ≡ bad 10 (length bs)
  unfolding byte
  byte_short i e = rw (e, byte)

  pub byte_good : (i : ℕ) → i < length bs → low ≤ get_or bs i 0 → get_or bs i 0 ≤ high → byte bs low high refusal i ≡ good (get_or bs i 0) (suc i)
  unfolding byte
  byte_good i h l m =
      rw (lt-ltb i (length bs) h, true_and (leb low (get_or bs i 0)) (leb (get_or bs i 0) high) (le-leb low (get_or bs i 0) l) (le-leb (get_or bs i 0) high m), byte)

  pub byte_bad : (i : ℕ) → i < length bs → leb low (get_or bs i 0) && leb (get_or bs i 0) high ≡ false → byte bs low high refusal i ≡ bad refusal i
  unfolding byte
  byte_bad i h e = rw (lt-ltb i (length bs) h, e, byte)

  byte_spelled : (i : ℕ) → i < length bs → Spelled bs i (get_or bs i 0 ∷ []) (suc i)
  byte_spelled i h = record { end = omega arith; bytes = drop-cons bs i 0 h }

  -- a byte in its range
  pub byte_sound : (i : ℕ) → Yields (λ v j. Between low high v × Spells bs i (v ∷ []) j) (byte bs low high refusal i)
  byte_sound i = go (case (ltb i (length bs))) (case (leb low (get_or bs i 0) && leb (get_or bs i 0) high))
    where
      go : (ltb i (length bs) ≡ true) ⊎ (ltb i (length bs) ≡ false)
          → (leb low (get_or bs i 0) && leb (get_or bs i 0) high ≡ true) ⊎ (leb low (get_or bs i 0) && leb (get_or bs i 0) high ≡ false)
          → Yields (λ v j. Between low high v × Spells bs i (v ∷ []) j) (byte bs low high refusal i)
      go (inr e) f = rw (byte_short i e) refused
      go (inl e) (inr f) = rw (byte_bad i (ltb-true i (length bs) e) f) refused
      go (inl e) (inl f) =
          let h = ltb-true i (length bs) e in
          let (g, k) = and_true (leb low (get_or bs i 0)) (leb (get_or bs i 0) high) f in
          let l = leb-true low (get_or bs i 0) g in
          let m = leb-true (get_or bs i 0) high k in
          rw (byte_good i h l m) (value (record { above = l; below = m }, λ b. byte_spelled i h))

  pub byte_meets : 3 ≤ refusal → refusal ≤ 9 → (v i : ℕ) (rest : List ℕ) → drop i bs ≡ v ∷ rest
      → Meets (length bs) v (i + 1) (Between low high v) (byte bs low high refusal i)
  byte_meets three nine v i rest e = go (drop_place bs i v rest e) (case (leb low v && leb v high))
    where
      go : (i < length bs) × (get_or bs i 0 ≡ v) → (leb low v && leb v high ≡ true) ⊎ (leb low v && leb v high ≡ false)
          → Meets (length bs) v (i + 1) (Between low high v) (byte bs low high refusal i)
      go (h, k) (inl f) =
          let (g, o) = and_true (leb low v) (leb v high) f in
          let l = leb-true low v g in
          let m = leb-true v high o in
          rw (byte_good i h (rw k l) (rw k m), k, ← add-one i) (taken (record { above = l; below = m }))
      go (h, k) (inr f) =
          rw (byte_bad i h (rw k f))
          (faulty (λ w. not_both (leb low v && leb v high) (true_and (leb low v) (leb v high) (le-leb low v w.above) (le-leb v high w.below)) f) three nine h)

module _ {A : Type 0} where
  -- Parser and spelling belong together: what is read is well-formed and was spelled there, and where a value of the right shape is spelled
  -- it is read if it is well-formed and refused by 3 to 9 if it is not.
  pub record Codes (bs : List ℕ) (parse : ℕ → Parsed A) (spell : A → List ℕ) (Shape W : A → Type 0) : Type 0 where
    pub sound : (i : ℕ) → Yields (λ x j. W x × Spells bs i (spell x) j) (parse i)
    pub meets : (x : A) (i : ℕ) (rest : List ℕ) → Shape x → drop i bs ≡ spell x ++ rest → Meets (length bs) x (i + length (spell x)) (W x) (parse i)

  -- n elements, each as P says
  pub record Counted (n : ℕ) (P : A → Type 0) (xs : List A) : Type 0 where
    pub count : length xs ≡ n
    pub each : (x : A) → Memᴰ x xs → P x

  pub counted_none : {P : A → Type 0} → Counted 0 P []
  counted_none = record { count = refl; each = λ x m. absurd (Memᴰ.not-nil m) }

  pub counted_cons : {n : ℕ} {P : A → Type 0} {x : A} {xs : List A} → P x → Counted n P xs → Counted (suc n) P (x ∷ xs)
  counted_cons {P = P} {x = x} {xs = xs} h g =
      record {
        count = ap suc g.count;
        each = λ y m. ⊎_elim (λ (e : y ≡ x). subst P (sym e) h) (λ (k : Memᴰ y xs). g.each y k) (Memᴰ.cases_cons m);
      }

  pub counted_rest : {n : ℕ} {P : A → Type 0} {x : A} {xs : List A} → Counted (suc n) P (x ∷ xs) → Counted n P xs
  counted_rest h = let e = h.count in record { count = omega arith; each = λ y m. h.each y (Memᴰ.tail m) }

module _ {A : Type 0} {bs : List ℕ} {parse : ℕ → Parsed A} {spell : A → List ℕ} {Shape W : A → Type 0} (law : Codes bs parse spell Shape W) where
  many_sound : (n i : ℕ) → Yields (λ xs j. Counted n W xs × Spells bs i (collect spell xs) j) (many n parse i)
  unfolding many collect
  many_sound zero i = value (counted_none, λ b. spelled_none bs i)
  many_sound (suc n) i =
      yields_then (law.sound i)
      (λ x j h. yields_then (many_sound n j) (λ xs k g. value (counted_cons h.0 g.0, spells_then h.1 g.1)))

  many_meets : (n : ℕ) (xs : List A) (i : ℕ) (rest : List ℕ) → Counted n Shape xs → drop i bs ≡ collect spell xs ++ rest
      → Meets (length bs) xs (i + length (collect spell xs)) (Counted n W xs) (many n parse i)
  unfolding many collect
  many_meets zero [] i rest s e = meets_end (omega arith) (taken counted_none)
  many_meets zero (x ∷ xs) i rest s e = let k = s.count in absurd (omega arith)
  many_meets (suc n) [] i rest s e = let k = s.count in absurd (omega arith)
  many_meets (suc n) (x ∷ xs) i rest s e =
      let there : drop i bs ≡ spell x ++ (collect spell xs ++ rest) = e ∙ append_assoc (spell x) (collect spell xs) rest in
      meets_then _ (law.meets x i (collect spell xs ++ rest) (s.each x (Memᴰ.head refl)) there) (λ w. w.each x (Memᴰ.head refl))
      (λ h. meets_then _ (many_meets n xs (i + length (spell x)) rest (counted_rest s) (drop_past bs (spell x) (collect spell xs ++ rest) i there)) counted_rest
      (λ g. meets_end (omega (arith, length-append (spell x) (collect spell xs))) (taken (counted_cons h g))))

  pub many_codes : (n : ℕ) → Codes bs (many n parse) (collect spell) (Counted n Shape) (Counted n W)
  many_codes n = record { sound = many_sound n; meets = many_meets n }

module _ {A : Type 0} where
  pub yields_map : {P Q : A → ℕ → Type 0} {o : Parsed A} → Yields P o → ((x : A) (j : ℕ) → P x j → Q x j) → Yields Q o
  yields_map (value {x = x} {j = j} h) f = value (f x j h)
  yields_map refused f = refused

  pub meets_map : {size : ℕ} {x : A} {j : ℕ} {W U : Type 0} {o : Parsed A} → Meets size x j W o → (W → U) → (U → W) → Meets size x j U o
  meets_map (taken w) f g = taken (f w)
  meets_map (faulty n l m h) f g = faulty (λ u. n (g u)) l m h

  -- the same parser by another spelling, shape and condition that say the same
  pub codes_map : {bs : List ℕ} {parse : ℕ → Parsed A} {spell spell' : A → List ℕ} {Shape W Shape' W' : A → Type 0}
      → Codes bs parse spell Shape W → ((x : A) → spell x ≡ spell' x) → ((x : A) → Shape' x → Shape x)
      → ((x : A) → W x → W' x) → ((x : A) → W' x → W x) → Codes bs parse spell' Shape' W'
  codes_map {bs} {parse} law s h f g =
      record {
        sound = λ i. yields_map (law.sound i) (λ x j k. (f x k.0, subst (λ (xs : List ℕ). Spells bs i xs j) (s x) k.1));
        meets = λ x i rest k e.
            meets_end (ap (λ (xs : List ℕ). i + length xs) (s x))
            (meets_map (law.meets x i rest (h x k) (e ∙ ap (λ (xs : List ℕ). xs ++ rest) (sym (s x)))) (f x) (g x));
      }

pub collect_alone : (vs : List ℕ) → collect (λ (v : ℕ). v ∷ []) vs ≡ vs
unfolding collect
collect_alone [] = refl
collect_alone (v ∷ vs) = ap (λ (us : List ℕ). v ∷ us) (collect_alone vs)

-- parsers of bytes
module _ (bs : List ℕ) (low high refusal : ℕ) (three : 3 ≤ refusal) (nine : refusal ≤ 9) where
  pub byte_codes : Codes bs (byte bs low high refusal) (λ v. v ∷ []) (λ v. Unit {0}) (Between low high)
  byte_codes =
      record {
        sound = byte_sound bs low high refusal;
        meets = λ v i rest s e. byte_meets bs low high refusal three nine v i rest e;
      }

  pub bytes_codes : (n : ℕ) → Codes bs (many n (byte bs low high refusal)) (λ vs. vs) (λ vs. length vs ≡ n) (Counted n (Between low high))
  bytes_codes n = codes_map (many_codes byte_codes n) collect_alone (λ vs e. record { count = e; each = λ v m. tt }) (λ vs w. w) (λ vs w. w)

-- a number of two bytes
module _ (bs : List ℕ) (i : ℕ) where
  abbrev pub pair : ℕ
  pair = get_or bs i 0 * 256 + get_or bs (suc i) 0

  pair_spelled : suc i < length bs → Spells bs i (number_bytes true pair) (suc (suc i))
  unfolding number_bytes
  pair_spelled h b =
      let low = b (get_or bs (suc i) 0) (get_or_mem bs (suc i) 0 h) in
      let p : pair / 256 ≡ get_or bs i 0 = omega arith in
      let q : pair % 256 ≡ get_or bs (suc i) 0 = omega arith in
      record { end = omega arith; bytes = rw (p, q) (drop-cons bs i 0 (omega arith) ∙ ap (λ (xs : List ℕ). get_or bs i 0 ∷ xs) (drop-cons bs (suc i) 0 h)) }

  -- the two that a number is spelled by
  pub spelled_pair : (v : ℕ) (rest : List ℕ) → drop i bs ≡ number_bytes true v ++ rest → (suc i < length bs) × (pair ≡ v)
  unfolding number_bytes
  spelled_pair v rest e =
      let (h, p) = drop_place bs i (v / 256) (v % 256 ∷ rest) e in
      let next : drop (suc i) bs ≡ v % 256 ∷ rest = rw (← add-one i) (drop_past bs (v / 256 ∷ []) (v % 256 ∷ rest) i e) in
      let (k, q) = drop_place bs (suc i) (v % 256) rest next in
      (k, omega arith)

  module _ (low high refusal : ℕ) where
    pub pair_short : ltb (suc i) (length bs) ≡ false → number true bs low high refusal i ≡ bad 10 (length bs)
    unfolding number
    pair_short e = rw (e, number)

    pub pair_good : suc i < length bs → leb low pair && leb pair high ≡ true → number true bs low high refusal i ≡ good pair (suc (suc i))
    unfolding number
    pair_good h e = rw (lt-ltb (suc i) (length bs) h, e, number)

    pub pair_bad : suc i < length bs → leb low pair && leb pair high ≡ false → number true bs low high refusal i ≡ bad refusal i
    unfolding number
    pair_bad h e = rw (lt-ltb (suc i) (length bs) h, e, number)

    pair_between : leb low pair && leb pair high ≡ true → Between low high pair
    pair_between e =
        let (g, k) = and_true (leb low pair) (leb pair high) e in
        record { above = leb-true low pair g; below = leb-true pair high k }

    between_pair : Between low high pair → leb low pair && leb pair high ≡ true
    between_pair w = true_and (leb low pair) (leb pair high) (le-leb low pair w.above) (le-leb pair high w.below)

    pair_sound : Yields (λ v j. Between low high v × Spells bs i (number_bytes true v) j) (number true bs low high refusal i)
    pair_sound = go (case (ltb (suc i) (length bs))) (case (leb low pair && leb pair high))
      where
        go : (ltb (suc i) (length bs) ≡ true) ⊎ (ltb (suc i) (length bs) ≡ false) → (leb low pair && leb pair high ≡ true) ⊎ (leb low pair && leb pair high ≡ false)
            → Yields (λ v j. Between low high v × Spells bs i (number_bytes true v) j) (number true bs low high refusal i)
        go (inr e) f = rw (pair_short e) refused
        go (inl e) (inr f) = rw (pair_bad (ltb-true (suc i) (length bs) e) f) refused
        go (inl e) (inl f) = let h = ltb-true (suc i) (length bs) e in rw (pair_good h f) (value (pair_between f, pair_spelled h))

    pair_meets : 3 ≤ refusal → refusal ≤ 9 → (v : ℕ) (rest : List ℕ) → drop i bs ≡ number_bytes true v ++ rest
        → Meets (length bs) v (i + 2) (Between low high v) (number true bs low high refusal i)
    pair_meets three nine v rest e = go (spelled_pair v rest e) (case (leb low pair && leb pair high))
      where
        there : suc (suc i) ≡ i + 2
        there = omega arith

        go : (suc i < length bs) × (pair ≡ v) → (leb low pair && leb pair high ≡ true) ⊎ (leb low pair && leb pair high ≡ false)
            → Meets (length bs) v (i + 2) (Between low high v) (number true bs low high refusal i)
        go (h, k) (inl f) = rw (← k, pair_good h f, there) (taken (pair_between f))
        go (h, k) (inr f) = rw (← k, pair_bad h f) (faulty {p = i} (λ w. not_both (leb low pair && leb pair high) (between_pair w) f) three nine (omega arith))

-- a number of one byte or two
pub number_codes : (w : Bool) (bs : List ℕ) (low high refusal : ℕ) → 3 ≤ refusal → refusal ≤ 9
    → Codes bs (number w bs low high refusal) (number_bytes w) (λ v. Unit {0}) (Between low high)
unfolding number number_bytes
number_codes false bs low high refusal three nine = byte_codes bs low high refusal three nine
number_codes true bs low high refusal three nine =
    record { sound = λ i. pair_sound bs i low high refusal; meets = λ v i rest s e. pair_meets bs i low high refusal three nine v rest e }

-- a count from low to high, and so many elements
module _ {A : Type 0} where
  abbrev pub listed : (ℕ → Parsed ℕ) → (ℕ → Parsed A) → ℕ → Parsed (List A)
  listed count parse i = and_then (count i) (λ n j. many n parse j)

  pub record Listed (low high : ℕ) (W : A → Type 0) (xs : List A) : Type 0 where
    pub count : Between low high (length xs)
    pub each : (x : A) → Memᴰ x xs → W x

module _ {A : Type 0} {bs : List ℕ} {low high : ℕ} {count : ℕ → Parsed ℕ} {spellCount : ℕ → List ℕ} (counts : Codes bs count spellCount (λ v. Unit {0}) (Between low high))
    {parse : ℕ → Parsed A} {spell : A → List ℕ} {Shape W : A → Type 0} (law : Codes bs parse spell Shape W) where
  pub listed_codes : Codes bs (listed count parse) (λ xs. spellCount (length xs) ++ collect spell xs) (λ xs. (x : A) → Memᴰ x xs → Shape x) (Listed low high W)
  listed_codes =
      record {
        sound = λ i.
            yields_then (counts.sound i)
            (λ n j h. yields_map ((many_codes law n).sound j)
            (λ xs k g. (
              record { count = subst (Between low high) (sym g.0.count) h.0; each = g.0.each },
              subst (λ (m : ℕ). Spells bs i (spellCount m ++ collect spell xs) k) (sym g.0.count) (spells_then h.1 g.1),
            )));
        meets = λ xs i rest s e.
            let first : List ℕ = spellCount (length xs) in
            let there : drop i bs ≡ first ++ (collect spell xs ++ rest) = e ∙ append_assoc first (collect spell xs) rest in
            meets_then _ (counts.meets (length xs) i (collect spell xs ++ rest) tt there) (λ w. w.count)
            (λ h. meets_end (omega (arith, length-append first (collect spell xs)))
            (meets_map ((many_codes law (length xs)).meets xs (i + length first) rest (record { count = refl; each = s }) (drop_past bs first (collect spell xs ++ rest) i there))
            (λ w. record { count = h; each = w.each }) (λ w. record { count = refl; each = w.each })));
      }

-- Reading and spelling a whole rule set: what is read is well-formed and spells the same bytes, and what is well-formed is read back from its
-- bytes, of which there are at most 9,096, in version 1 at most 6,855. Assumes nothing.
use mathlib.Core.Path.{◌≡◌, refl, sym, ap, ap₂, ◌∙◌, subst}
use mathlib.Core.Bool.{Bool, true, false, ◌&&◌}
use mathlib.Core.Logic.{◌⊎◌, inl, inr, ⊎_elim}
use mathlib.Core.List.Memᴰ
use mathlib.Core.List.{List, [], ◌∷◌, ◌++◌, Memᴰ}
use Prim.Native.Nat.{ℕ, suc, ◌+◌, ◌*◌, ◌/◌, ◌%◌, ◌≤◌, ◌<◌}
use native.Mathlib.Omega.{arith}
use lib.Dec.{eqb, leb}
use lib.ListN.{length, get_or, drop, length-append, length-drop}
use borrow.Author.Tests.{eqb-true, eq-eqb, leb-true, le-leb}
use Rattle.model.specs.Lists.{collect}
use Rattle.model.specs.Limits.{narrow_limit, predicate_limit, bytes_limit}
use Rattle.model.specs.Rules.{Atom, Rule, RuleSet, wide, most_predicates}
use Rattle.model.specs.WellFormed.{WellFormedAtom, WellFormedAtoms, WellFormedRule, WellFormed}
use Rattle.model.specs.Format.{good, rule_set, stated, whole, read, number_bytes, atom_bytes, atoms_bytes, rule_bytes, content, big_endian, bytes_of}
use Rattle.laws.proofs.Bools.{case, and_true, true_and}
use Rattle.laws.proofs.Lists.{collect_mem, get_or_mem}
use Rattle.laws_format.proofs.Lists.{length_collect_le}
use Rattle.laws_format.proofs.Parsers.{Bytes, Yields, refused, yields_good, yields_map, meets_good}
use Rattle.laws_format.proofs.Format.{Content, rule_set_sound, rule_set_meets, well_formed_shaped}

-- the length in its four bytes

stated_numbers : (a b c d : ℕ) (rest : List ℕ) → a < 256 → b < 256 → c < 256 → d < 256
    → big_endian (stated (a ∷ b ∷ c ∷ d ∷ rest)) ≡ a ∷ b ∷ c ∷ d ∷ []
unfolding big_endian stated
stated_numbers a b c d rest i j k l =
    let n : ℕ = ((a * 256 + b) * 256 + c) * 256 + d in
    let p : (n / 16777216) % 256 ≡ a = omega arith in
    let q : (n / 65536) % 256 ≡ b = omega arith in
    let r : (n / 256) % 256 ≡ c = omega arith in
    let s : n % 256 ≡ d = omega arith in
    λ t. p t ∷ q t ∷ r t ∷ s t ∷ []

numbers_stated : (n : ℕ) (rest : List ℕ) → n < 4294967296 → stated (big_endian n ++ rest) ≡ n
unfolding big_endian stated
numbers_stated n rest h =
    let p : n / 65536 ≡ n / 256 / 256 = omega arith in
    let q : n / 16777216 ≡ n / 256 / 256 / 256 = omega arith in
    let r : n / 256 / 256 / 256 % 256 ≡ n / 256 / 256 / 256 = omega arith in
    rw (p, q, r) (omega arith)

-- the first four bytes, and the others
front : (bs : List ℕ) → 4 ≤ length bs → Bytes bs → big_endian (stated bs) ++ drop 4 bs ≡ bs
front [] h b = absurd (omega arith)
front (a ∷ []) h b = absurd (omega arith)
front (a ∷ c ∷ []) h b = absurd (omega arith)
front (a ∷ c ∷ d ∷ []) h b = absurd (omega arith)
front (a ∷ c ∷ d ∷ e ∷ bs) h b =
    ap (λ (xs : List ℕ). xs ++ bs)
    (stated_numbers a c d e bs (b a (Memᴰ.head refl)) (b c (Memᴰ.tail (Memᴰ.head refl))) (b d (Memᴰ.tail (Memᴰ.tail (Memᴰ.head refl))))
    (b e (Memᴰ.tail (Memᴰ.tail (Memᴰ.tail (Memᴰ.head refl))))))

-- `read` tests the length, and then reads the content

pub read_content : (bs : List ℕ) → 4 ≤ length bs → stated bs + 4 ≡ length bs → read bs ≡ rule_set bs
unfolding read whole
read_content bs h e =
    rw (true_and (leb 4 (length bs)) (eqb (stated bs + 4) (length bs)) (le-leb 4 (length bs) h) (eq-eqb (stated bs + 4) (length bs) e), read, whole)

record Whole (bs : List ℕ) (b : RuleSet) (j : ℕ) : Type 0 where
  content : Content bs b j
  some : 4 ≤ length bs
  stated : stated bs + 4 ≡ length bs

read_sound : (bs : List ℕ) → Yields (Whole bs) (read bs)
unfolding read whole
read_sound bs = go (case (leb 4 (length bs) && eqb (stated bs + 4) (length bs)))
  where
    go : (leb 4 (length bs) && eqb (stated bs + 4) (length bs) ≡ true) ⊎ (leb 4 (length bs) && eqb (stated bs + 4) (length bs) ≡ false)
        → Yields (Whole bs) (read bs)
    go (inr e) = rw (e, read, whole) refused
    go (inl e) =
        let (h, k) = and_true (leb 4 (length bs)) (eqb (stated bs + 4) (length bs)) e in
        rw (e, read, whole)
        (yields_map (rule_set_sound bs) (λ b j c. record { content = c; some = leb-true 4 (length bs) h; stated = eqb-true (stated bs + 4) (length bs) k }))

module _ (bs : List ℕ) (b : RuleSet) (i : ℕ) (e : read bs ≡ good b i) where
  read_whole : Whole bs b i
  read_whole = yields_good (read_sound bs) b i e

  pub read_well_formed : WellFormed b
  read_well_formed = read_whole.content.well_formed

  pub read_end : i ≡ length bs
  read_end = read_whole.content.end

  pub rule_set_of_read : rule_set bs ≡ good b i
  rule_set_of_read = sym (read_content bs read_whole.some read_whole.stated) ∙ e

  pub bytes_of_read : Bytes bs → bytes_of b ≡ bs
  unfolding bytes_of
  bytes_of_read h =
      let c : drop 4 bs ≡ content b = read_whole.content.bytes h in
      let l : length (content b) ≡ stated bs = let p = read_whole.stated in omega (arith, length-drop 4 bs, ap length c) in
      ap₂ (λ (n : ℕ) (xs : List ℕ). big_endian n ++ xs) l (sym c) ∙ front bs read_whole.some h

-- how many bytes a well-formed rule set has, by whether its predicates have two bytes

pub arity_at_most : {b : RuleSet} → WellFormed b → (p : ℕ) → p < length b.arities → get_or b.arities p 0 ≤ 4
arity_at_most {b} w p h = (w.arities (get_or b.arities p 0) (get_or_mem b.arities p 0 h)).1

abbrev either : ℕ → ℕ → Bool → ℕ
either two one w = elim w [ true ↦ two | false ↦ one ]

module _ {b : RuleSet} (formed : WellFormed b) where
  atom_bytes_length : (w : Bool) {a : Atom} → WellFormedAtom b.arities a → length (atom_bytes w a) ≤ either 6 5 w
  unfolding atom_bytes number_bytes
  atom_bytes_length true {a} h = let l = arity_at_most formed a.predicate h.declared in let e = h.arity in omega arith
  atom_bytes_length false {a} h = let l = arity_at_most formed a.predicate h.declared in let e = h.arity in omega arith

  atoms_bytes_length : (w : Bool) {as' : List Atom} → WellFormedAtoms b.arities as' → length (atoms_bytes w as') ≤ either 25 21 w
  unfolding atoms_bytes
  atoms_bytes_length true {as'} h =
      let l = length_collect_le (atom_bytes true) 6 as' (λ a m. atom_bytes_length true (h.each a m)) in let f = h.few in omega arith
  atoms_bytes_length false {as'} h =
      let l = length_collect_le (atom_bytes false) 5 as' (λ a m. atom_bytes_length false (h.each a m)) in let f = h.few in omega arith

  rule_bytes_length : (w : Bool) {r : Rule} → WellFormedRule b.arities r → length (rule_bytes w r) ≤ either 126 106 w
  unfolding rule_bytes
  rule_bytes_length true {r} h =
      let k = atoms_bytes_length true h.body in
      let l = length_collect_le (atoms_bytes true) 25 r.head (λ d m. atoms_bytes_length true (h.each d m)) in
      let f = h.few in
      omega (arith, length-append (atoms_bytes true r.body) (length r.head ∷ collect (atoms_bytes true) r.head))
  rule_bytes_length false {r} h =
      let k = atoms_bytes_length false h.body in
      let l = length_collect_le (atoms_bytes false) 21 r.head (λ d m. atoms_bytes_length false (h.each d m)) in
      let f = h.few in
      omega (arith, length-append (atoms_bytes false r.body) (length r.head ∷ collect (atoms_bytes false) r.head))

  -- all but the version
  rest_length : (w : Bool) → length b.arities ≤ either predicate_limit narrow_limit w
      → length (number_bytes w (length b.arities) ++ (b.arities ++ (length b.rules ∷ collect (rule_bytes w) b.rules))) ≤ either 9091 6850 w
  unfolding number_bytes
  rest_length true f =
      let l = length_collect_le (rule_bytes true) 126 b.rules (λ r m. rule_bytes_length true (formed.rules r m)) in
      let s = formed.short in
      omega (arith, length-append b.arities (length b.rules ∷ collect (rule_bytes true) b.rules))
  rest_length false f =
      let l = length_collect_le (rule_bytes false) 106 b.rules (λ r m. rule_bytes_length false (formed.rules r m)) in
      let s = formed.short in
      omega (arith, length-append b.arities (length b.rules ∷ collect (rule_bytes false) b.rules))

  content_wide : length (content b) ≤ either 9092 6851 (wide b.version)
  unfolding content most_predicates
  content_wide = go (wide b.version) (rest_length (wide b.version) formed.few)
    where
      go : (w : Bool) {n : ℕ} → n ≤ either 9091 6850 w → suc n ≤ either 9092 6851 w
      go true h = omega arith
      go false h = omega arith

  pub content_length : length (content b) ≤ 9092
  content_length = go (wide b.version) content_wide
    where
      go : (w : Bool) {n : ℕ} → n ≤ either 9092 6851 w → n ≤ 9092
      go true h = omega arith
      go false h = omega arith

pub bytes_of_length : (b : RuleSet) → length (bytes_of b) ≡ 4 + length (content b)
unfolding bytes_of big_endian
bytes_of_length b = omega arith

-- the longest book, and the longest of version 1
pub bytes_at_most : {b : RuleSet} → WellFormed b → length (bytes_of b) ≤ bytes_limit
bytes_at_most {b} w = let h = content_length w in omega (arith, bytes_of_length b)

pub narrow_at_most : {b : RuleSet} → WellFormed b → b.version ≡ 1 → length (bytes_of b) ≤ 6855
unfolding wide
narrow_at_most {b} w e =
    let h : length (content b) ≤ 6851 = subst (λ (v : ℕ). length (content b) ≤ either 9092 6851 (wide v)) e (content_wide w) in
    omega (arith, bytes_of_length b)

-- after the four bytes of the length
pub drop_bytes_of : (b : RuleSet) → drop 4 (bytes_of b) ≡ content b
unfolding bytes_of big_endian
drop_bytes_of b = refl

-- four bytes have room for the length, so the content decides
pub read_bytes_of : (b : RuleSet) → length (content b) < 4294967296 → read (bytes_of b) ≡ rule_set (bytes_of b)
read_bytes_of b h =
    let s : stated (bytes_of b) ≡ length (content b) = unfold bytes_of in numbers_stated (length (content b)) (content b) h in
    read_content (bytes_of b) (omega (arith, bytes_of_length b)) (omega (arith, bytes_of_length b, s))

-- a well-formed rule set is read from its bytes
pub read_of_bytes : (b : RuleSet) → WellFormed b → read (bytes_of b) ≡ good b (length (bytes_of b))
read_of_bytes b w =
    let h = content_length w in
    read_bytes_of b (omega arith) ∙ meets_good (rule_set_meets (bytes_of b) b (well_formed_shaped w) (drop_bytes_of b)) w

-- the bytes of a well-formed rule set are bytes

bytes_none : Bytes []
bytes_none x m = absurd (Memᴰ.not-nil m)

bytes_cons : {x : ℕ} {xs : List ℕ} → x < 256 → Bytes xs → Bytes (x ∷ xs)
bytes_cons {x} {xs} h g y m = ⊎_elim (λ (e : y ≡ x). omega arith) (λ (k : Memᴰ y xs). g y k) (Memᴰ.cases_cons m)

bytes_append : (xs ys : List ℕ) → Bytes xs → Bytes ys → Bytes (xs ++ ys)
bytes_append xs ys h g y m = ⊎_elim (λ (k : Memᴰ y xs). h y k) (λ (k : Memᴰ y ys). g y k) (Memᴰ.append_cases xs m)

bytes_collect : {A : Type 0} (f : A → List ℕ) (xs : List A) → ((x : A) → Memᴰ x xs → Bytes (f x)) → Bytes (collect f xs)
bytes_collect f xs h y m = let (x, i, k) = collect_mem f xs m in h x i y k

-- by whether predicates have two bytes, of which there are so many then
module _ (w : Bool) (arities : List ℕ) (few : length arities ≤ either predicate_limit narrow_limit w) where
  number_bytes_is : {n : ℕ} → n ≤ length arities → Bytes (number_bytes w n)
  unfolding number_bytes
  number_bytes_is {n} h = go w few
    where
      go : (u : Bool) → length arities ≤ either predicate_limit narrow_limit u → Bytes (number_bytes u n)
      go true l = bytes_cons (omega arith) (bytes_cons (omega arith) bytes_none)
      go false l = bytes_cons (omega arith) bytes_none

  atom_bytes_bytes : {a : Atom} → WellFormedAtom arities a → Bytes (atom_bytes w a)
  unfolding atom_bytes
  atom_bytes_bytes {a} h =
      let d = h.declared in
      bytes_append (number_bytes w a.predicate) a.variables (number_bytes_is (omega arith)) (λ v m. let r = h.range v m in omega arith)

  atoms_bytes_bytes : {as' : List Atom} → WellFormedAtoms arities as' → Bytes (atoms_bytes w as')
  unfolding atoms_bytes
  atoms_bytes_bytes {as'} h = let f = h.few in bytes_cons (omega arith) (bytes_collect (atom_bytes w) as' (λ a m. atom_bytes_bytes (h.each a m)))

  rule_bytes_bytes : {r : Rule} → WellFormedRule arities r → Bytes (rule_bytes w r)
  unfolding rule_bytes
  rule_bytes_bytes {r} h =
      let f = h.few in
      bytes_append (atoms_bytes w r.body) (length r.head ∷ collect (atoms_bytes w) r.head) (atoms_bytes_bytes h.body)
      (bytes_cons (omega arith) (bytes_collect (atoms_bytes w) r.head (λ d m. atoms_bytes_bytes (h.each d m))))

content_bytes : {b : RuleSet} → WellFormed b → Bytes (content b)
unfolding content most_predicates
content_bytes {b} formed =
    let w : Bool = wide b.version in
    let l = formed.last in
    let s = formed.short in
    bytes_cons (omega arith)
    (bytes_append (number_bytes w (length b.arities)) (b.arities ++ (length b.rules ∷ collect (rule_bytes w) b.rules)) (number_bytes_is w b.arities formed.few (omega arith))
    (bytes_append b.arities (length b.rules ∷ collect (rule_bytes w) b.rules) (λ n m. let h = formed.arities n m in omega arith)
    (bytes_cons (omega arith) (bytes_collect (rule_bytes w) b.rules (λ r m. rule_bytes_bytes w b.arities formed.few (formed.rules r m))))))

big_endian_bytes : (n : ℕ) → Bytes (big_endian n)
unfolding big_endian
big_endian_bytes n = bytes_cons (omega arith) (bytes_cons (omega arith) (bytes_cons (omega arith) (bytes_cons (omega arith) bytes_none)))

pub bytes_of_bytes : {b : RuleSet} → WellFormed b → Bytes (bytes_of b)
unfolding bytes_of
bytes_of_bytes {b} w = bytes_append (big_endian (length (content b))) (content b) (big_endian_bytes (length (content b))) (content_bytes w)

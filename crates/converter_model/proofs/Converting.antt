-- What a converter takes is a rule set that reading gives, of its version and with few predicates, and it is well-formed in the other version.
-- Assumes nothing.
use mathlib.Core.Path.{◌≡◌, refl, sym, ap, ◌∙◌, subst}
use mathlib.Core.Bool.{Bool, true, false}
use mathlib.Core.Logic.{◌⊎◌, inl, inr}
use mathlib.Core.List.{List, ◌++◌}
use Prim.Native.Nat.{ℕ, suc, ◌≤◌, ◌<◌}
use native.Mathlib.Omega.{arith}
use native.Mathlib.Decide.{dec_lt}
use lib.Dec.{eqb, ltb, leb}
use lib.ListN.{length, take, drop}
use lib.Seq.{take-append_seam}
use borrow.Author.Tests.{ltb-true, ltb-false, leb-true, leb-false, le-leb, lt-leb}
use Rattle.model.specs.Limits.{last_version, narrow_limit, predicate_limit, bytes_limit}
use Rattle.model.specs.Rules.{RuleSet, wide, most_predicates}
use Rattle.model.specs.WellFormed.{WellFormed}
use Rattle.model.specs.Format.{Parsed, good, bad, and_then, byte, number, many, rule, signed, rule_set, whole, read, bytes_of}
use Rattle.model.specs.Form.{done, refusal, Writing}
use Rattle.laws.proofs.Bools.{case}
use Rattle.parsing.proofs.Parsing.{bad_is_not_good, Within, byte_good, byte_within, byte_ended}
use Rattle.parsing.proofs.Numbers.{number_good, ranged_good, ranged_within, pair_ranged, pair_ended}
use Rattle.parsing.proofs.Many.{many_length}
use Rattle.converter_model.specs.Converter.{versioned, opening, convertible, converting}

-- a version that there is
pub record Version (v : ℕ) : Type 0 where
  pub first : 1 ≤ v
  pub last : v ≤ last_version

narrow_most : (version : ℕ) → narrow_limit ≤ most_predicates version
unfolding most_predicates
narrow_most version = go (wide version)
  where
    go : (w : Bool) → narrow_limit ≤ elim w [ true ↦ predicate_limit | false ↦ narrow_limit ]
    go true = omega arith
    go false = omega arith

-- few predicates are well-formed in every version
pub versioned_well_formed : {b : RuleSet} {version : ℕ} → WellFormed b → Version version → length b.arities ≤ narrow_limit → WellFormed (versioned version b)
versioned_well_formed {version = version} w v few =
    record {
      first = v.first;
      last = v.last;
      unnamed = w.unnamed;
      some = w.some;
      few = omega (arith, narrow_most version);
      arities = w.arities;
      short = w.short;
      rules = w.rules;
    }

-- parts of a parse that was good

good_parts : {A B : Type 0} (o : Parsed A) (k : A → ℕ → Parsed B) (y : B) (l : ℕ) → and_then o k ≡ good y l → (x : A) × (j : ℕ) × (o ≡ good x j) × (k x j ≡ good y l)
unfolding and_then
good_parts (good x j) k y l e = (x, j, refl, e)
good_parts (bad n p) k y l e = absurd (let z : ◌≡◌ {A = ℕ} 0 1 = cc in omega arith)

pub parts_good : {A B : Type 0} (o : Parsed A) (k : A → ℕ → Parsed B) (x : A) (j : ℕ) → o ≡ good x j → and_then o k ≡ k x j
unfolding and_then
parts_good o k x j e = rw e

pub parts_bad : {A B : Type 0} (o : Parsed A) (k : A → ℕ → Parsed B) (n p : ℕ) → o ≡ bad n p → and_then o k ≡ bad n p
unfolding and_then
parts_bad o k n p e = rw e

-- a number that was taken is taken by every range that has it

byte_again : (bs : List ℕ) (low high low' high' code i v j : ℕ) → byte bs low high code i ≡ good v j → low' ≤ v → v ≤ high' → byte bs low' high' code i ≡ good v j
byte_again bs low high low' high' code i v j e l m = go (dec_lt i (length bs))
  where
    h : Within bs low high i v j
    h = byte_good bs low high code i v j e

    go : Dec (i < length bs) → byte bs low' high' code i ≡ good v j
    go (yes k) =
        byte_within bs low' high' code i k (rw (← h.value) l) (rw (← h.value) m) ∙ (λ t. good (sym h.value t) (sym h.next t))
    go (no k) = bad_is_not_good _ 10 (length bs) v j (byte_ended bs low high code i (omega arith)) e

number_again : (w : Bool) (bs : List ℕ) (low high low' high' code i v j : ℕ) → number w bs low high code i ≡ good v j → low' ≤ v → v ≤ high'
    → number w bs low' high' code i ≡ good v j
unfolding number
number_again false bs low high low' high' code i v j e l m = byte_again bs low high low' high' code i v j e l m
number_again true bs low high low' high' code i v j e l m = go (case (ltb (suc i) (length bs)))
  where
    go : (ltb (suc i) (length bs) ≡ true) ⊎ (ltb (suc i) (length bs) ≡ false) → number true bs low' high' code i ≡ good v j
    go (inl f) =
        let k = ltb-true (suc i) (length bs) f in
        let t = ranged_good _ low high code i _ v j (sym (pair_ranged bs low high code i k) ∙ e) in
        pair_ranged bs low' high' code i k ∙ ranged_within _ low' high' code i _ (rw (← t.value) l) (rw (← t.value) m) ∙ (λ x. good (sym t.value x) (sym t.end x))
    go (inr f) = bad_is_not_good _ 10 (length bs) v j (pair_ended bs low high code i (ltb-false (suc i) (length bs) f)) e

-- what was read begins with its version and with the count of its predicates
pub record Opened (bs : List ℕ) (b : RuleSet) : Type 0 where
  pub place : ℕ
  pub behind : ℕ
  pub version : byte bs 1 last_version 3 4 ≡ good b.version place
  pub count : number (wide b.version) bs 1 (most_predicates b.version) 4 place ≡ good (length b.arities) behind

opened : (bs : List ℕ) (b : RuleSet) (i : ℕ) → rule_set bs ≡ good b i → Opened bs b
unfolding rule_set
opened bs b i e =
    let (v, j, first, e1) = good_parts (byte bs 1 last_version 3 4) _ b i e in
    let (n, k, second, e2) = good_parts (number (wide v) bs 1 (most_predicates v) 4 j) _ b i e1 in
    let (arities, l, third, e3) = good_parts (many n (byte bs 1 4 4) k) _ b i e2 in
    let (m, o, fourth, e4) = good_parts (byte bs 0 64 5 l) _ b i e3 in
    let (rs, q, fifth, e5) = good_parts (many m (rule bs (signed v arities)) o) _ b i e4 in
    let same : record { version = v; fixed = 0; arities = arities; rules = rs } ≡ b = ended q (length bs) _ b i e5 in
    let count : n ≡ length arities = sym (many_length n (byte bs 1 4 4) k arities l third) in
    subst (Opened bs) same (record { place = j; behind = k; version = first; count = second ∙ ap (λ (x : ℕ). good x k) count })
  where
    ended : (q size : ℕ) (x b : RuleSet) (i : ℕ) → elim (eqb q size) [ true ↦ good x q | false ↦ bad 10 q ] ≡ good b i → x ≡ b
    ended q size x b i f = go (eqb q size) f
      where
        go : (t : Bool) → elim t [ true ↦ good x q | false ↦ bad 10 q ] ≡ good b i → x ≡ b
        go true g = cc
        go false g = bad_is_not_good _ 10 q b i refl g

-- what is convertible, and what reading says of it
pub record Convertible (version : ℕ) (bs : List ℕ) (b : RuleSet) (i : ℕ) : Type 0 where
  pub whole : read bs ≡ good b i
  pub version_is : b.version ≡ version
  pub few : length b.arities ≤ narrow_limit

module _ (bs : List ℕ) where
  pub read_whole : whole bs ≡ true → read bs ≡ rule_set bs
  unfolding read
  read_whole e = rw (e, read)

  pub read_cut : whole bs ≡ false → read bs ≡ bad 2 0
  unfolding read
  read_cut e = rw (e, read)

  module _ (version : ℕ) where
    pub convertible_whole : whole bs ≡ true → convertible version bs ≡ and_then (opening version bs) (λ n i. rule_set bs)
    unfolding convertible
    convertible_whole e = rw (e, convertible)

    pub convertible_cut : whole bs ≡ false → convertible version bs ≡ bad 2 0
    unfolding convertible
    convertible_cut e = rw (e, convertible)

module _ (version : ℕ) (bs : List ℕ) (b : RuleSet) (i : ℕ) where
  pub convertible_read : convertible version bs ≡ good b i → Convertible version bs b i
  unfolding opening
  convertible_read e = go (case (whole bs))
    where
      go : (whole bs ≡ true) ⊎ (whole bs ≡ false) → Convertible version bs b i
      go (inr f) = bad_is_not_good (convertible version bs) 2 0 b i (convertible_cut bs version f) e
      go (inl f) =
          let (n, k, g, r) = good_parts (opening version bs) (λ n j. rule_set bs) b i (sym (convertible_whole bs version f) ∙ e) in
          let (v, j, first, second) = good_parts (byte bs version version 3 4) (λ v j. number (wide version) bs 1 narrow_limit 4 j) n k g in
          let o = opened bs b i r in
          let here = byte_good bs version version 3 4 v j first in
          let there = byte_good bs 1 last_version 3 4 b.version o.place o.version in
          let p : b.version ≡ version = omega (arith, here.value, here.least, here.most, there.value) in
          let q : j ≡ o.place = omega (arith, here.next, there.next) in
          let small = number_good (wide version) bs 1 narrow_limit 4 j n k second in
          let wide-count : number (wide b.version) bs 1 (most_predicates b.version) 4 o.place ≡ good n k =
          (λ t. number (wide (p t)) bs 1 (most_predicates (p t)) 4 (sym q t))
          ∙ number_again (wide version) bs 1 narrow_limit 1 (most_predicates version) 4 j n k second small.least (omega (arith, small.most, narrow_most version))
          in
          let same : good n k ≡ good (length b.arities) o.behind = sym wide-count ∙ o.count in
          let count : n ≡ length b.arities = cc in
          record { whole = read_whole bs f ∙ r; version_is = p; few = omega (arith, small.most) }

  pub read_convertible : Convertible version bs b i → convertible version bs ≡ good b i
  unfolding opening
  read_convertible h = go (case (whole bs))
    where
      go : (whole bs ≡ true) ⊎ (whole bs ≡ false) → convertible version bs ≡ good b i
      go (inr f) = bad_is_not_good (read bs) 2 0 b i (read_cut bs f) h.whole
      go (inl f) =
          let r : rule_set bs ≡ good b i = sym (read_whole bs f) ∙ h.whole in
          let o = opened bs b i r in
          let p : b.version ≡ version = h.version_is in
          let first : byte bs version version 3 4 ≡ good b.version o.place = byte_again bs 1 last_version version version 3 4 b.version o.place o.version (omega arith) (omega arith) in
          let found = number_good (wide b.version) bs 1 (most_predicates b.version) 4 o.place (length b.arities) o.behind o.count in
          let second : number (wide version) bs 1 narrow_limit 4 o.place ≡ good (length b.arities) o.behind =
          rw (← p) (number_again (wide b.version) bs 1 (most_predicates b.version) 1 narrow_limit 4 o.place (length b.arities) o.behind o.count found.least h.few)
          in
          let started : opening version bs ≡ good (length b.arities) o.behind =
          parts_good (byte bs version version 3 4) (λ v j. number (wide version) bs 1 narrow_limit 4 j) b.version o.place first ∙ second
          in
          convertible_whole bs version f ∙ parts_good (opening version bs) (λ n j. rule_set bs) (length b.arities) o.behind started ∙ r

-- `converting` by cases

module _ (from to : ℕ) (bytes out : List ℕ) where
  pub converting_short : length out < bytes_limit → converting from to bytes out ≡ record { answer = refusal 1 0; bytes = out }
  unfolding converting
  converting_short h = rw (lt-leb bytes_limit (length out) h, converting)

  pub converting_bad : bytes_limit ≤ length out → (n p : ℕ) → convertible from bytes ≡ bad n p → converting from to bytes out ≡ record { answer = refusal n p; bytes = out }
  unfolding converting
  converting_bad h n p e = rw (le-leb bytes_limit (length out) h, e, converting)

  pub converting_good : bytes_limit ≤ length out → (b : RuleSet) (i : ℕ) → convertible from bytes ≡ good b i
      → converting from to bytes out ≡ record { answer = done (length (bytes_of (versioned to b))); bytes = bytes_of (versioned to b) ++ drop (length (bytes_of (versioned to b))) out }
  unfolding converting
  converting_good h b i e = rw (le-leb bytes_limit (length out) h, e, converting)

  -- what was converted
  pub record Converted (n : ℕ) : Type 0 where
    pub book : RuleSet
    pub end : ℕ
    pub room : bytes_limit ≤ length out
    pub taken : Convertible from bytes book end
    pub count : n ≡ length (bytes_of (versioned to book))
    pub bytes_are : take n (converting from to bytes out).bytes ≡ bytes_of (versioned to book)

  pub converting_done : (n : ℕ) → (converting from to bytes out).answer ≡ done n → Converted n
  converting_done n e = go (case (leb bytes_limit (length out))) (convertible from bytes) refl
    where
      go : (leb bytes_limit (length out) ≡ true) ⊎ (leb bytes_limit (length out) ≡ false) → (o : Parsed RuleSet) → convertible from bytes ≡ o → Converted n
      go (inr l) o f =
          let k = ap (λ (x : Writing). x.answer) (converting_short (leb-false bytes_limit (length out) l)) in
          absurd (let z : ◌≡◌ {A = ℕ} 0 1 = cc in omega arith)
      go (inl l) (bad m p) f =
          let k = ap (λ (x : Writing). x.answer) (converting_bad (leb-true bytes_limit (length out) l) m p f) in
          absurd (let z : ◌≡◌ {A = ℕ} 0 1 = cc in omega arith)
      go (inl l) (good b i) f =
          let h = leb-true bytes_limit (length out) l in
          let new : List ℕ = bytes_of (versioned to b) in
          let w = converting_good h b i f in
          let k = ap (λ (x : Writing). x.answer) w in
          let c : n ≡ length new = cc in
          record {
            book = b;
            end = i;
            room = h;
            taken = convertible_read from bytes b i f;
            count = c;
            bytes_are = ap (λ (x : Writing). take n x.bytes) w ∙ rw c (take-append_seam new (drop (length new) out));
          }

-- The bytes of the rule set of a form, once they are all written. Assumes nothing.
use mathlib.Core.Path.{◌≡◌, refl, sym, ap, ◌∙◌}
use mathlib.Core.Bool.{true, false}
use mathlib.Core.Logic.{◌⊎◌, inl, inr}
use mathlib.Core.List.{List, ◌++◌}
use Prim.Native.Nat.{ℕ, ◌+◌, ◌-◌, ◌≤◌, ◌<◌}
use native.Mathlib.Omega.{arith}
use native.Mathlib.Decide.{dec_lt}
use lib.Dec.{eqb}
use lib.ListN.{length, get_or, take, drop, get_or-append, length-drop}
use lib.Seq.{get_or-append_right, length-take-le, get_or-take, get_or-drop, ext_get_or}
use borrow.Author.Tests.{eqb-true}
use Rattle.model.specs.Limits.{last_version}
use Rattle.model.specs.Rules.{RuleSet, Rule, wide, most_predicates}
use Rattle.model.specs.Format.{Parsed, good, bad, and_then, many, byte, number, signed, rule, rule_set, content, big_endian, bytes_of}
use Rattle.model.specs.Form.{decoded, writing, done}
use Rattle.laws.proofs.Bools.{case}
use Rattle.laws_format.proofs.Bytes.{bytes_of_length}
use Rattle.laws_format.proofs.RoundTrip.{decoded_fault, writing_good}
use Rattle.laws_format.proofs.Format.{and_then_assoc}
use Rattle.parsing.specs.Step.{parsed_rules}
use Rattle.writer.specs.Writes.{Agree, parsed_content, after_version, after_count}

-- the parse of all that follows the length, and the test that the bytes end there

module _ (bs : List ℕ) where
  abbrev tested : RuleSet → ℕ → Parsed RuleSet
  tested b e = elim (eqb e (length bs)) [ true ↦ good b e | false ↦ bad 10 e ]

  then_tested : {A : Type 0} (parsed : Parsed A) (f g : A → ℕ → Parsed RuleSet) → ((a : A) (i : ℕ) → f a i ≡ and_then (g a i) tested) → and_then parsed f ≡ and_then (and_then parsed g) tested
  unfolding and_then
  then_tested (good a i) f g h = h a i
  then_tested (bad n p) f g h = refl

  made_tested : {A : Type 0} (parsed : Parsed A) (f : A → RuleSet) → and_then parsed (λ a e. tested (f a) e) ≡ and_then (and_then parsed (λ a e. good (f a) e)) tested
  unfolding and_then
  made_tested (good a i) f = refl
  made_tested (bad n p) f = refl

  pub content_tested : rule_set bs ≡ and_then (parsed_content bs) tested
  unfolding rule_set parsed_content after_version after_count parsed_rules
  content_tested =
      then_tested (byte bs 1 last_version 3 4) _ _ (λ v i.
      then_tested (number (wide v) bs 1 (most_predicates v) 4 i) _ _ (λ n j.
      then_tested (many n (byte bs 1 4 4) j) _ _ (λ ar k.
      sym (and_then_assoc (byte bs 0 64 5 k) (λ m l. many m (rule bs (signed v ar)) l) (λ rs e. tested (record { version = v; fixed = 0; arities = ar; rules = rs }) e))
      ∙ made_tested (and_then (byte bs 0 64 5 k) (λ m l. many m (rule bs (signed v ar)) l)) (λ (rs : List Rule). record { version = v; fixed = 0; arities = ar; rules = rs }))))

module _ (form : List ℕ) where
  abbrev bytes : List ℕ
  bytes = bytes_of (decoded form)

  pub content_bad : (n p : ℕ) → parsed_content bytes ≡ bad n p → rule_set bytes ≡ bad n p
  unfolding and_then
  content_bad n p e = content_tested bytes ∙ rw e

  content_then : (b : RuleSet) (e : ℕ) → parsed_content bytes ≡ good b e → rule_set bytes ≡ tested bytes b e
  unfolding and_then
  content_then b e f = content_tested bytes ∙ rw f

  pub content_end : (b : RuleSet) (e : ℕ) → parsed_content bytes ≡ good b e → (rule_set bytes ≡ good b e) × (e ≡ length bytes)
  content_end b e f = go (case (eqb e (length bytes)))
    where
      go : (eqb e (length bytes) ≡ true) ⊎ (eqb e (length bytes) ≡ false) → (rule_set bytes ≡ good b e) × (e ≡ length bytes)
      go (inl t) = (content_then b e f ∙ rw (t, tested), eqb-true e (length bytes) t)
      go (inr t) = let h = (decoded_fault form 10 e (content_then b e f ∙ rw (t, tested))).2 in absurd (omega arith)

  -- the list with its length is the bytes

  module _ (local : List ℕ) (e : ℕ) (g : Agree bytes e local) (l : length local ≡ 9096) (m : e ≤ 9096) (s : e ≡ length bytes) where
    abbrev whole : List ℕ
    whole = big_endian (e - 4) ++ drop 4 local

    at_front : (k : ℕ) → k < 4 → get_or whole k 0 ≡ get_or bytes k 0
    unfolding bytes_of big_endian
    at_front k h =
        let n : e - 4 ≡ length (content (decoded form)) = let f = bytes_of_length (decoded form) in omega arith in
        get_or-append (big_endian (e - 4)) (drop 4 local) 0 k h
        ∙ ap (λ (m : ℕ). get_or (big_endian m) k 0) n
        ∙ sym (get_or-append (big_endian (length (content (decoded form)))) (content (decoded form)) 0 k h)

    later : (k : ℕ) → 4 ≤ k → k < e → get_or whole k 0 ≡ get_or bytes k 0
    unfolding big_endian
    later k h i =
        let n : 4 + (k - 4) ≡ k = omega arith in
        get_or-append_right (big_endian (e - 4)) (drop 4 local) k 0 h
        ∙ get_or-drop 4 local (k - 4) 0
        ∙ ap (λ (x : ℕ). get_or local x 0) n
        ∙ g.at k h i

    whole_length : length whole ≡ 9096
    unfolding big_endian
    whole_length = let n = length-drop 4 local in omega arith

    front_length : length (take e whole) ≡ e
    front_length = length-take-le e whole (let n = whole_length in omega arith)

    front_bytes : take e whole ≡ bytes
    front_bytes = ext_get_or 0 (take e whole) bytes (front_length ∙ s) (λ k h. let n = front_length in get_or-take e whole k 0 (omega arith) ∙ go k (omega arith) (dec_lt k 4))
      where
        go : (k : ℕ) → k < e → Dec (k < 4) → get_or whole k 0 ≡ get_or bytes k 0
        go k h (yes i) = at_front k i
        go k h (no i) = later k (omega arith) h

    pub write_whole : (b : RuleSet) (out part : List ℕ) → rule_set bytes ≡ good b e → e ≤ length out → part ≡ take e whole
        → writing form out ≡ record { answer = done e; bytes = part ++ drop e out }
    write_whole b out part p h c = let a : part ≡ bytes = c ∙ front_bytes in writing_good form out b e p (omega arith) ∙ rw (a, s)

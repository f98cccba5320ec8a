-- Laws of the grammar of rule sets: atoms, rules and what follows the length are read where they are spelled and well-formed, and only there.
-- Assumes nothing.
use mathlib.Core.Path.{◌≡◌, refl, sym, ap, ◌∙◌, fun_ext}
use mathlib.Core.Bool.{Bool, true, false}
use mathlib.Core.Logic.{◌⊎◌, inl, inr}
use mathlib.Core.List.{List, [], ◌∷◌, ◌++◌, append_assoc, append-nil, Memᴰ}
use Prim.Native.Nat.{ℕ, ◌+◌, ◌-◌, ◌≤◌, ◌<◌}
use native.Mathlib.Omega.{arith}
use lib.Dec.{eqb}
use lib.ListN.{length, get_or, drop, length-append, length-drop}
use borrow.Author.Tests.{eqb-true, eq-eqb}
use Rattle.model.specs.Lists.{any, collect}
use Rattle.model.specs.Limits.{last_version, rule_limit}
use Rattle.model.specs.Rules.{Atom, Rule, RuleSet, wide, most_predicates, repeated, detached}
use Rattle.model.specs.WellFormed.{WellFormedAtom, WellFormedAtoms, WellFormedRule, WellFormed}
use Rattle.model.specs.Format.{Parsed, good, bad, and_then, byte, number, many, Signature, signed, variable, atom, atoms, sound, rule, rule_set, number_bytes, atom_bytes, atoms_bytes, rule_bytes, content}
use Rattle.laws.proofs.Bools.{case, not_both}
use Rattle.laws_format.proofs.Parsers.{Yields, value, refused, Meets, taken, faulty, yields_then, meets_then, meets_end, Bytes, Spells, spells_then, spelled_all, drop_past, drop_place, Between, Codes, byte_codes, bytes_codes, number_codes, collect_alone, codes_map, listed, Listed, listed_codes}

-- as many variables as the predicate's arity says
abbrev pub ShapedAtom : List ℕ → Atom → Type 0
ShapedAtom arities a = length a.variables ≡ get_or arities a.predicate 0

abbrev pub ShapedAtoms : List ℕ → List Atom → Type 0
ShapedAtoms arities as' = (a : Atom) → Memᴰ a as' → ShapedAtom arities a

pub record ShapedRule (arities : List ℕ) (r : Rule) : Type 0 where
  pub body : ShapedAtoms arities r.body
  pub head : (d : List Atom) → Memᴰ d r.head → ShapedAtoms arities d

-- a rule set that states no rule constants, and whose atoms have as many variables as their predicates' arities say
pub record Shaped (b : RuleSet) : Type 0 where
  pub unnamed : b.fixed ≡ 0
  pub rules : (r : Rule) → Memᴰ r b.rules → ShapedRule b.arities r

pub well_formed_shaped : {b : RuleSet} → WellFormed b → Shaped b
well_formed_shaped w =
    record {
      unnamed = w.unnamed;
      rules = λ r m.
          record {
            body = λ a k. ((w.rules r m).body.each a k).arity;
            head = λ d n a k. (((w.rules r m).each d n).each a k).arity;
          };
    }

module _ (bs : List ℕ) (s : Signature) (some : 1 ≤ length s.arities) where
  abbrev arities : List ℕ
  arities = s.arities

  abbrev w : Bool
  w = wide s.version

  predicate_codes : Codes bs (number w bs 0 (length arities - 1) 7) (number_bytes w) (λ v. Unit {0}) (Between 0 (length arities - 1))
  predicate_codes = number_codes w bs 0 (length arities - 1) 7 (omega arith) (omega arith)

  atom_codes : Codes bs (atom bs s) (atom_bytes w) (ShapedAtom arities) (WellFormedAtom arities)
  unfolding atom atom_bytes variable
  atom_codes =
      record {
        sound = λ i.
            yields_then (predicate_codes.sound i)
            (λ p j h. yields_then ((bytes_codes bs 0 7 7 (omega arith) (omega arith) (get_or arities p 0)).sound j)
            (λ vs k g. value (record { declared = declared p h.0; arity = g.0.count; range = λ v m. (g.0.each v m).below }, spells_then h.1 g.1)));
        meets = λ a i rest shaped e.
            let first : List ℕ = number_bytes w a.predicate in
            let there : drop i bs ≡ first ++ (a.variables ++ rest) = e ∙ append_assoc first a.variables rest in
            meets_then _ (predicate_codes.meets a.predicate i (a.variables ++ rest) tt there)
            (λ u. record { above = omega arith; below = let h = u.declared in omega arith })
            (λ h. meets_then _ ((bytes_codes bs 0 7 7 (omega arith) (omega arith) (get_or arities a.predicate 0)).meets a.variables (i + length first) rest shaped (drop_past bs first (a.variables ++ rest) i there))
            (λ u. record { count = u.arity; each = λ v m. record { above = omega arith; below = u.range v m } })
            (λ g. meets_end (omega (arith, length-append first a.variables)) (taken (record { declared = declared a.predicate h; arity = g.count; range = λ v m. (g.each v m).below }))));
      }
    where
      declared : (p : ℕ) → Between 0 (length arities - 1) p → p < length arities
      declared p h = let k = h.below in omega arith

  atoms_codes : Codes bs (atoms bs s) (atoms_bytes w) (ShapedAtoms arities) (WellFormedAtoms arities)
  unfolding atoms atoms_bytes
  atoms_codes =
      codes_map (listed_codes (byte_codes bs 1 4 6 (omega arith) (omega arith)) atom_codes) (λ as'. refl) (λ as' h. h)
      (λ as' u. record { some = u.count.above; few = u.count.below; each = u.each })
      (λ as' u. record { count = record { above = u.some; below = u.few }; each = u.each })

  -- the disjuncts of a head
  disjuncts_codes : Codes bs (listed (byte bs 1 4 6) (atoms bs s)) (λ ds. length ds ∷ collect (atoms_bytes w) ds) (λ ds. (d : List Atom) → Memᴰ d ds → ShapedAtoms arities d)
      (Listed 1 4 (WellFormedAtoms arities))
  disjuncts_codes = listed_codes (byte_codes bs 1 4 6 (omega arith) (omega arith)) atoms_codes

-- the test of 8 and 9
module _ (r : Rule) (start i : ℕ) where
  sound_repeated : repeated r r.head ≡ true → sound r start i ≡ bad 8 start
  unfolding sound
  sound_repeated e = rw (e, sound)

  sound_detached : repeated r r.head ≡ false → any (detached r) r.head ≡ true → sound r start i ≡ bad 9 start
  unfolding sound
  sound_detached e f = rw (e, f, sound)

  sound_good : repeated r r.head ≡ false → any (detached r) r.head ≡ false → sound r start i ≡ good r i
  unfolding sound
  sound_good e f = rw (e, f, sound)

  sound_sound : {P : Rule → ℕ → Type 0} → (repeated r r.head ≡ false → any (detached r) r.head ≡ false → P r i) → Yields P (sound r start i)
  sound_sound {P} h = go (case (repeated r r.head)) (case (any (detached r) r.head))
    where
      go : (repeated r r.head ≡ true) ⊎ (repeated r r.head ≡ false) → (any (detached r) r.head ≡ true) ⊎ (any (detached r) r.head ≡ false)
          → Yields P (sound r start i)
      go (inl e) f = rw (sound_repeated e) refused
      go (inr e) (inl f) = rw (sound_detached e f) refused
      go (inr e) (inr f) = rw (sound_good e f) (value (h e f))

  sound_meets : {size : ℕ} {W : Type 0} → start < size → (repeated r r.head ≡ false → any (detached r) r.head ≡ false → W)
      → (W → repeated r r.head ≡ false) → (W → any (detached r) r.head ≡ false) → Meets size r i W (sound r start i)
  sound_meets {size} {W} l h s a = go (case (repeated r r.head)) (case (any (detached r) r.head))
    where
      go : (repeated r r.head ≡ true) ⊎ (repeated r r.head ≡ false) → (any (detached r) r.head ≡ true) ⊎ (any (detached r) r.head ≡ false)
          → Meets size r i W (sound r start i)
      go (inl e) f = rw (sound_repeated e) (faulty {n = 8} (λ w. not_both (repeated r r.head) e (s w)) (omega arith) (omega arith) l)
      go (inr e) (inl f) = rw (sound_detached e f) (faulty {n = 9} (λ w. not_both (any (detached r) r.head) f (a w)) (omega arith) (omega arith) l)
      go (inr e) (inr f) = rw (sound_good e f) (taken (h e f))

module _ {A B C : Type 0} where
  pub and_then_assoc : (o : Parsed A) (k : A → ℕ → Parsed B) (l : B → ℕ → Parsed C) → and_then (and_then o k) l ≡ and_then o (λ x j. and_then (k x j) l)
  unfolding and_then
  and_then_assoc (good x j) k l = refl
  and_then_assoc (bad n p) k l = refl

module _ (bs : List ℕ) (s : Signature) where
  rule_listed : (i : ℕ) → rule bs s i
      ≡ and_then (atoms bs s i) (λ b j. and_then (listed (byte bs 1 4 6) (atoms bs s) j) (λ h l. sound (record { body = b; head = h }) i l))
  unfolding rule
  rule_listed i =
      ap (and_then (atoms bs s i))
      (fun_ext (λ b. fun_ext (λ j. sym (and_then_assoc (byte bs 1 4 6 j) (λ n k. many n (atoms bs s) k) (λ h l. sound (record { body = b; head = h }) i l)))))

  module _ (some : 1 ≤ length s.arities) where
    abbrev spell : List Atom → List ℕ
    spell = atoms_bytes (wide s.version)

    rule_sound : (i : ℕ) → Yields (λ r j. WellFormedRule s.arities r × Spells bs i (rule_bytes (wide s.version) r) j) (rule bs s i)
    unfolding rule_bytes
    rule_sound i =
        rw (rule_listed i)
        (yields_then ((atoms_codes bs s some).sound i)
        (λ b j h. yields_then ((disjuncts_codes bs s some).sound j)
        (λ d k g. sound_sound (record { body = b; head = d }) i k
        (λ e f. (record { body = h.0; some = g.0.count.above; few = g.0.count.below; each = g.0.each; separate = e; attached = f }, spells_then h.1 g.1)))))

    rule_meets : (r : Rule) (i : ℕ) (rest : List ℕ) → ShapedRule s.arities r → drop i bs ≡ rule_bytes (wide s.version) r ++ rest
        → Meets (length bs) r (i + length (rule_bytes (wide s.version) r)) (WellFormedRule s.arities r) (rule bs s i)
    unfolding rule_bytes atoms_bytes
    rule_meets r i rest shaped e =
        let heads : List ℕ = length r.head ∷ collect spell r.head in
        let there : drop i bs ≡ spell r.body ++ (heads ++ rest) = e ∙ append_assoc (spell r.body) heads rest in
        rw (rule_listed i)
        (meets_then _ ((atoms_codes bs s some).meets r.body i (heads ++ rest) shaped.body there) (λ u. u.body)
        (λ h. meets_then _ ((disjuncts_codes bs s some).meets r.head (i + length (spell r.body)) rest shaped.head (drop_past bs (spell r.body) (heads ++ rest) i there))
        (λ u. record { count = record { above = u.some; below = u.few }; each = u.each })
        (λ g. meets_end (omega (arith, length-append (spell r.body) heads))
        (sound_meets r i (i + length (spell r.body) + length heads) (drop_place bs i (length r.body) (collect (atom_bytes (wide s.version)) r.body ++ (heads ++ rest)) there).0
        (λ e f. record { body = h; some = g.count.above; few = g.count.below; each = g.each; separate = e; attached = f })
        (λ u. u.separate) (λ u. u.attached)))))

    rule_codes : Codes bs (rule bs s) (rule_bytes (wide s.version)) (ShapedRule s.arities) (WellFormedRule s.arities)
    rule_codes = record { sound = rule_sound; meets = rule_meets }

-- the test of 10 after the last rule
ended : List ℕ → RuleSet → ℕ → Parsed RuleSet
ended bs b e = elim (eqb e (length bs)) [ true ↦ good b e | false ↦ bad 10 e ]

module _ (bs : List ℕ) where
  ended_good : (b : RuleSet) → ended bs b (length bs) ≡ good b (length bs)
  unfolding ended
  ended_good b = rw (eq-eqb (length bs) (length bs) refl, ended)

  ended_sound : (b : RuleSet) (e : ℕ) {P : RuleSet → ℕ → Type 0} → (e ≡ length bs → P b e) → Yields P (ended bs b e)
  unfolding ended
  ended_sound b e {P} h = go (case (eqb e (length bs)))
    where
      go : (eqb e (length bs) ≡ true) ⊎ (eqb e (length bs) ≡ false) → Yields P (ended bs b e)
      go (inl f) = rw (f, ended) (value (h (eqb-true e (length bs) f)))
      go (inr f) = rw (f, ended) refused

  arities_codes : (v : ℕ) → Codes bs (listed (number (wide v) bs 1 (most_predicates v) 4) (byte bs 1 4 4)) (λ vs. number_bytes (wide v) (length vs) ++ vs) (λ vs. Unit {0})
      (Listed 1 (most_predicates v) (Between 1 4))
  arities_codes v =
      codes_map (listed_codes (number_codes (wide v) bs 1 (most_predicates v) 4 (omega arith) (omega arith)) (byte_codes bs 1 4 4 (omega arith) (omega arith)))
      (λ vs. ap (λ (us : List ℕ). number_bytes (wide v) (length vs) ++ us) (collect_alone vs)) (λ vs s u m. tt) (λ vs u. u) (λ vs u. u)

  rules_codes : (s : Signature) → 1 ≤ length s.arities
      → Codes bs (listed (byte bs 0 rule_limit 5) (rule bs s)) (λ rs. length rs ∷ collect (rule_bytes (wide s.version)) rs) (λ rs. (r : Rule) → Memᴰ r rs → ShapedRule s.arities r)
      (Listed 0 rule_limit (WellFormedRule s.arities))
  rules_codes s some = listed_codes (byte_codes bs 0 rule_limit 5 (omega arith) (omega arith)) (rule_codes bs s some)

  version_codes : Codes bs (byte bs 1 last_version 3) (λ v. v ∷ []) (λ v. Unit {0}) (Between 1 last_version)
  version_codes = byte_codes bs 1 last_version 3 (omega arith) (omega arith)

  abbrev built : ℕ → List ℕ → List Rule → RuleSet
  built v arities rs = record { version = v; fixed = 0; arities = arities; rules = rs }

  built_whole : (b : RuleSet) → b.fixed ≡ 0 → built b.version b.arities b.rules ≡ b
  built_whole b e = λ i. record { version = b.version; fixed = sym e i; arities = b.arities; rules = b.rules }

  -- the arities and the rules, each as a counted list
  rules_of : ℕ → List ℕ → ℕ → Parsed RuleSet
  rules_of v arities k = and_then (listed (byte bs 0 rule_limit 5) (rule bs (signed v arities)) k) (λ rs e. ended bs (built v arities rs) e)

  arities_rules : ℕ → ℕ → Parsed RuleSet
  arities_rules v i = and_then (listed (number (wide v) bs 1 (most_predicates v) 4) (byte bs 1 4 4) i) (rules_of v)

  rule_set_listed : rule_set bs ≡ and_then (byte bs 1 last_version 3 4) arities_rules
  unfolding rule_set ended rules_of arities_rules
  rule_set_listed = ap (and_then (byte bs 1 last_version 3 4)) (fun_ext (λ v. fun_ext (λ i. whole v i)))
    where
      rules : (v : ℕ) (arities : List ℕ) (k : ℕ)
          → and_then (byte bs 0 rule_limit 5 k) (λ m l. and_then (many m (rule bs (signed v arities)) l) (λ rs e. ended bs (built v arities rs) e)) ≡ rules_of v arities k
      rules v arities k = sym (and_then_assoc (byte bs 0 rule_limit 5 k) (λ m l. many m (rule bs (signed v arities)) l) (λ rs e. ended bs (built v arities rs) e))

      whole : (v i : ℕ)
          → and_then (number (wide v) bs 1 (most_predicates v) 4 i)
          (λ n j. and_then (many n (byte bs 1 4 4) j)
          (λ arities k. and_then (byte bs 0 rule_limit 5 k) (λ m l. and_then (many m (rule bs (signed v arities)) l) (λ rs e. ended bs (built v arities rs) e))))
          ≡ arities_rules v i
      whole v i =
          ap (and_then (number (wide v) bs 1 (most_predicates v) 4 i)) (fun_ext (λ n. fun_ext (λ j. ap (and_then (many n (byte bs 1 4 4) j)) (fun_ext (λ arities. fun_ext (λ k. rules v arities k))))))
          ∙ sym (and_then_assoc (number (wide v) bs 1 (most_predicates v) 4 i) (λ n j. many n (byte bs 1 4 4) j) (rules_of v))

  -- what is read is well-formed, was spelled after the length, and leaves nothing over
  pub record Content (b : RuleSet) (j : ℕ) : Type 0 where
    pub well_formed : WellFormed b
    pub bytes : Bytes bs → drop 4 bs ≡ content b
    pub end : j ≡ length bs

  pub rule_set_sound : Yields Content (rule_set bs)
  unfolding content rules_of arities_rules
  rule_set_sound =
      rw rule_set_listed
      (yields_then (version_codes.sound 4)
      (λ v i g. yields_then ((arities_codes v).sound i)
      (λ arities k h. yields_then ((rules_codes (signed v arities) h.0.count.above).sound k)
      (λ rs e f. ended_sound (built v arities rs) e
      (λ p. record {
        well_formed =
            record {
              first = g.0.above;
              last = g.0.below;
              unnamed = refl;
              some = h.0.count.above;
              few = h.0.count.below;
              arities = λ n m. ((h.0.each n m).above, (h.0.each n m).below);
              short = f.0.count.below;
              rules = f.0.each;
            };
        bytes = λ u.
            spelled_all (spells_then g.1 (spells_then h.1 f.1) u) p
            ∙ ap (λ (xs : List ℕ). v ∷ xs) (append_assoc (number_bytes (wide v) (length arities)) arities (length rs ∷ collect (rule_bytes (wide v)) rs));
        end = p;
      })))))

  -- where the content of a rule set of the right shape follows the length, it is read or refused by 3 to 9
  pub rule_set_meets : (b : RuleSet) → Shaped b → drop 4 bs ≡ content b → Meets (length bs) b (length bs) (WellFormed b) (rule_set bs)
  unfolding content rules_of arities_rules
  rule_set_meets b s e =
      let w : Bool = wide b.version in
      let last : List ℕ = length b.rules ∷ collect (rule_bytes w) b.rules in
      let first : List ℕ = number_bytes w (length b.arities) in
      let rules : drop 5 bs ≡ (first ++ b.arities) ++ last = drop_past bs (b.version ∷ []) (first ++ (b.arities ++ last)) 4 e ∙ sym (append_assoc first b.arities last) in
      let place : ℕ = 5 + length (first ++ b.arities) in
      let end : place + length last ≡ length bs = omega (arith, length-drop 4 bs, ap length e, length-append first (b.arities ++ last), length-append b.arities last, length-append first b.arities) in
      rw rule_set_listed
      (meets_then _ (version_codes.meets b.version 4 (first ++ (b.arities ++ last)) tt e) (λ u. record { above = u.first; below = u.last })
      (λ v. meets_then _ ((arities_codes b.version).meets b.arities 5 last tt rules)
      (λ u. record { count = record { above = u.some; below = u.few }; each = λ n m. record { above = (u.arities n m).0; below = (u.arities n m).1 } })
      (λ h. meets_then _ ((rules_codes (signed b.version b.arities) h.count.above).meets b.rules place [] s.rules
      (drop_past bs (first ++ b.arities) last 5 rules ∙ sym (append-nil last)))
      (λ u. record { count = record { above = omega arith; below = u.short }; each = u.rules })
      (λ g. rw (end, built_whole b s.unnamed, ended_good b) (taken (record {
        first = v.above;
        last = v.below;
        unnamed = s.unnamed;
        some = h.count.above;
        few = h.count.below;
        arities = λ n m. ((h.each n m).above, (h.each n m).below);
        short = g.count.below;
        rules = g.each;
      }))))))

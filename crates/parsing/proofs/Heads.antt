-- A rule's variables as sets: which are existential, repeated in two disjuncts, or absent from one (document 01, `Repeated` and `Detached`).
-- Assumes nothing.
use mathlib.Core.Path.{◌≡◌, refl, sym, ap, ◌∙◌}
use mathlib.Core.Bool.{Bool, true, false, ◌&&◌, ◌||◌, not, or-false}
use mathlib.Core.List.{List, [], ◌∷◌, ◌++◌, append-nil}
use Prim.Native.Nat.{ℕ, ◌-◌, ◌≤◌, ◌<◌}
use native.Mathlib.Decide.{dec_lt}
use native.Mathlib.Omega.{arith}
use lib.Dec.{eqb}
use lib.Bits.{bit_or, bit_and, or_add_and, and_le_l, and_le_r}
use borrow.Author.Tests.{eq-eqb, ne_eqb, not-true}
use Rattle.model.specs.Lists.{any, member, collect}
use Rattle.model.specs.Rules.{Atom, Rule, variables_of, in_body, existential, repeated, detached}
use Rattle.model.specs.Format.{Parsed, good, bad, sound}
use Rattle.std.proofs.lemmas.Option.{none-some}
use Rattle.laws.proofs.Bools.{not_both, and_true, true_and, both_ways}
use Rattle.laws.proofs.Lists.{any_mem, mem_any, member_mem, mem_member, any_append, collect_append}
use Rattle.laws.proofs.Rules.{in_body_small, in_body_member, existential_mem, existential_small, mem_existential}
use Rattle.form_variables.specs.Sets.{has, set_of}
use Rattle.parsing.specs.Step.{atom_set, atoms_set}
use Rattle.std.specs.declared.option.Option.TheVariants.{Some, None}
use Rattle.refusal.specs.declared.Refusal.{Refusal}
use Rattle.refusal.specs.declared.Refusal.TheVariants.{Repeated, Detached}
use Rattle.refusal.specs.Numbers.{number_of}
use Rattle.parsing.specs.Heads.{others, fault_by, fault_of, fault}
use Rattle.parsing.specs.declared.faults.Disjuncts.{Disjuncts}
use Rattle.form_variables.proofs.Sets.{has_or, has_and, has_zero, has_set_of, empty_is, has_beyond, has_complement, set_of_append}

-- tests that hold together

pub any_snoc : {A : Type 0} (p : A → Bool) (xs : List A) (y : A) → any p (xs ++ (y ∷ [])) ≡ any p xs || p y
unfolding any
any_snoc p xs y = any_append p xs (y ∷ []) ∙ ap (λ (b : Bool). any p xs || b) (or-false (p y))

pub or_empty : (x y : ℕ) → eqb (bit_or x y) 0 ≡ eqb x 0 && eqb y 0
or_empty x y = go (dec_lt 0 x) (dec_lt 0 y)
  where
    go : Dec (0 < x) → Dec (0 < y) → eqb (bit_or x y) 0 ≡ eqb x 0 && eqb y 0
    go (yes h) k =
        let e : bit_or x y ≡ 0 → ⊥ = λ z. omega (arith, or_add_and x y, and_le_r x y) in
        ne_eqb (bit_or x y) 0 e ∙ sym (ap (λ (b : Bool). b && eqb y 0) (ne_eqb x 0 (omega arith)))
    go (no h) (yes k) =
        let e : bit_or x y ≡ 0 → ⊥ = λ z. omega (arith, or_add_and x y, and_le_l x y) in
        let f : x ≡ 0 = omega arith in
        ne_eqb (bit_or x y) 0 e ∙ sym (ap (λ (b : Bool). b && eqb y 0) (eq-eqb x 0 f) ∙ ne_eqb y 0 (omega arith))
    go (no h) (no k) =
        let e : bit_or x y ≡ 0 = omega (arith, or_add_and x y) in
        let f : x ≡ 0 = omega arith in
        eq-eqb (bit_or x y) 0 e ∙ sym (ap (λ (b : Bool). b && eqb y 0) (eq-eqb x 0 f) ∙ eq-eqb y 0 (omega arith))

-- the set of one atom more
pub atoms_set_more : (s v : ℕ) (a : Atom) → atom_set a ≡ v → (as' : List Atom) → atoms_set as' ≡ s → atoms_set (as' ++ (a ∷ [])) ≡ bit_or s v
unfolding variables_of collect
atoms_set_more s v a e as' f =
    ap set_of (collect_append (λ (x : Atom). x.variables) as' (a ∷ []))
    ∙ set_of_append (variables_of as') (a.variables ++ [])
    ∙ rw (append-nil, e, f)

-- a rule's body and a disjunct, by their sets

module _ (r : Rule) (body : ℕ) (b : body ≡ atoms_set r.body) where
  pub has_body : (v : ℕ) → v ≤ 7 → has body v ≡ in_body r v
  has_body v l = ap (λ (x : ℕ). has x v) b ∙ has_set_of (variables_of r.body) v ∙ sym (in_body_member r v l)

  module _ (d : List Atom) (set : ℕ) (s : atoms_set d ≡ set) where
    pub has_disjunct : (v : ℕ) → has set v ≡ member v (variables_of d)
    has_disjunct v = ap (λ (x : ℕ). has x v) (sym s) ∙ has_set_of (variables_of d) v

    pub has_existential : body < 256 → (v : ℕ) → has (bit_and set (255 - body)) v ≡ member v (existential r d)
    has_existential h v = both_ways _ _ there back
      where
        absent : v < 8 → has (255 - body) v ≡ true → in_body r v ≡ false
        absent l e = sym (has_body v (omega arith)) ∙ not-true (has body v) (sym (has_complement 8 body v h l) ∙ e)

        split : Dec (v < 8) → has set v ≡ true → has (255 - body) v ≡ true → member v (existential r d) ≡ true
        split (yes l) e f = mem_member (mem_existential r d (omega arith) (member_mem v (variables_of d) (sym (has_disjunct v) ∙ e)) (absent l f))
        split (no l) e f = not_both (has (255 - body) v) f (has_beyond 8 (255 - body) v (omega arith) (omega arith))

        there : has (bit_and set (255 - body)) v ≡ true → member v (existential r d) ≡ true
        there e = let (i, j) = and_true (has set v) (has (255 - body) v) (sym (has_and set (255 - body) v) ∙ e) in split (dec_lt v 8) i j

        back : member v (existential r d) ≡ true → has (bit_and set (255 - body)) v ≡ true
        back e =
            let m = member_mem v (existential r d) e in
            let (i, j) = existential_mem r d m in
            let l = existential_small r d m in
            has_and set (255 - body) v
            ∙ true_and (has set v) (has (255 - body) v) (has_disjunct v ∙ mem_member i)
            (has_complement 8 body v h (omega arith) ∙ ap not (has_body v l ∙ j))

    pub meets_empty : body < 256 → eqb (bit_and set body) 0 ≡ detached r d
    unfolding detached
    meets_empty h =
        empty_is (bit_and set body) (any (in_body r) (variables_of d))
        (λ v e.
        let (i, j) = and_true (has set v) (has body v) (sym (has_and set body v) ∙ e) in
        mem_any (in_body r) (member_mem v (variables_of d) (sym (has_disjunct v) ∙ i)) (sym (has_body v (inside v j (dec_lt v 8))) ∙ j))
        (λ e.
        let (v, m, i) = any_mem (in_body r) (variables_of d) e in
        (v, has_and set body v ∙ true_and (has set v) (has body v) (has_disjunct v ∙ mem_member m) (has_body v (in_body_small r v i) ∙ i)))
      where
        inside : (v : ℕ) → has body v ≡ true → Dec (v < 8) → v ≤ 7
        inside v e (yes l) = omega arith
        inside v e (no l) = not_both (has body v) e (has_beyond 8 body v (omega arith) (omega arith))

-- existential variables that two disjuncts share

module _ (r : Rule) where
  abbrev meets : List Atom → List Atom → Bool
  meets d e = any (λ (v : ℕ). member v (existential r e)) (existential r d)

  abbrev elsewhere : List (List Atom) → ℕ → Bool
  elsewhere ds v = any (λ (e : List Atom). member v (existential r e)) ds

  meets_back : (d e : List Atom) → meets d e ≡ true → meets e d ≡ true
  meets_back d e h =
      let (v, m, k) = any_mem (λ (v : ℕ). member v (existential r e)) (existential r d) h in
      mem_any (λ (v : ℕ). member v (existential r d)) (member_mem v (existential r e) k) (mem_member m)

  any_either : (p q : ℕ → Bool) (vs : List ℕ) → any (λ (v : ℕ). p v || q v) vs ≡ any p vs || any q vs
  unfolding any
  any_either p q [] = refl
  any_either p q (v ∷ vs) = go (p v) (q v) (any p vs) (any_either p q vs)
    where
      go : (a b c : Bool) → any (λ (v : ℕ). p v || q v) vs ≡ c || any q vs → (a || b) || any (λ (v : ℕ). p v || q v) vs ≡ (a || c) || (b || any q vs)
      go true b c e = refl
      go false true true e = refl
      go false true false e = refl
      go false false c e = e

  shuffle : (a s t b : Bool) → (a || s) || (t || b) ≡ (a || t) || (s || b)
  shuffle true s t b = refl
  shuffle false true true b = refl
  shuffle false true false b = refl
  shuffle false false t b = refl

  any_cong : {A : Type 0} (p q : A → Bool) (xs : List A) → ((x : A) → p x ≡ q x) → any p xs ≡ any q xs
  unfolding any
  any_cong p q [] h = refl
  any_cong p q (x ∷ xs) h = rw (h x, any_cong p q xs h)

  elsewhere_snoc : (ds : List (List Atom)) (d e : List Atom) → any (elsewhere (ds ++ (e ∷ []))) (existential r d) ≡ any (elsewhere ds) (existential r d) || meets d e
  elsewhere_snoc ds d e =
      any_cong (elsewhere (ds ++ (e ∷ []))) (λ (v : ℕ). elsewhere ds v || member v (existential r e)) (existential r d)
      (λ v. any_snoc (λ (x : List Atom). member v (existential r x)) ds e)
      ∙ any_either (elsewhere ds) (λ (v : ℕ). member v (existential r e)) (existential r d)

  elsewhere_cons : (ds : List (List Atom)) (d e : List Atom) → any (elsewhere (d ∷ ds)) (existential r e) ≡ meets e d || any (elsewhere ds) (existential r e)
  unfolding any
  elsewhere_cons ds d e = any_either (λ (v : ℕ). member v (existential r d)) (elsewhere ds) (existential r e)

  pub repeated_snoc : (ds : List (List Atom)) (e : List Atom) → repeated r (ds ++ (e ∷ [])) ≡ repeated r ds || any (elsewhere ds) (existential r e)
  unfolding repeated
  repeated_snoc [] e = or-false (any (elsewhere []) (existential r e))
  repeated_snoc (d ∷ ds) e =
      let symmetric : meets d e ≡ meets e d = both_ways (meets d e) (meets e d) (meets_back d e) (meets_back e d) in
      rw (elsewhere_snoc ds d e, repeated_snoc ds e, elsewhere_cons ds d e, symmetric)
      (shuffle (any (elsewhere ds) (existential r d)) (meets e d) (repeated r ds) (any (elsewhere ds) (existential r e)))

-- what a loop over the disjuncts keeps: their existential variables, those that stand in two of them, and whether one is detached

pub record Seen (r : Rule) (ds : List (List Atom)) (seen again : ℕ) (apart : Bool) : Type 0 where
  pub seen_is : (v : ℕ) → has seen v ≡ any (λ (d : List Atom). member v (existential r d)) ds
  pub again_is : eqb again 0 ≡ not (repeated r ds)
  pub apart_is : apart ≡ any (detached r) ds

pub seen_none : (r : Rule) → Seen r [] 0 0 false
unfolding any repeated
seen_none r = record { seen_is = has_zero; again_is = refl; apart_is = refl }

not_or : (a b : Bool) → not a && not b ≡ not (a || b)
not_or true b = refl
not_or false b = refl

not_not : (b : Bool) → not (not b) ≡ b
not_not true = refl
not_not false = refl

module _ (r : Rule) (body : ℕ) (b : body ≡ atoms_set r.body) (small : body < 256) (d : List Atom) (set : ℕ) (s : atoms_set d ≡ set) where
  abbrev new : ℕ
  new = bit_and set (255 - body)

  shared_empty : (ds : List (List Atom)) (seen : ℕ) → ((v : ℕ) → has seen v ≡ elsewhere r ds v) → eqb (bit_and seen new) 0 ≡ not (any (elsewhere r ds) (existential r d))
  shared_empty ds seen f =
      empty_is (bit_and seen new) (any (elsewhere r ds) (existential r d))
      (λ v e.
      let (i, j) = and_true (has seen v) (has new v) (sym (has_and seen new v) ∙ e) in
      mem_any (elsewhere r ds) (member_mem v (existential r d) (sym (has_existential r body b d set s small v) ∙ j)) (sym (f v) ∙ i))
      (λ e.
      let (v, m, i) = any_mem (elsewhere r ds) (existential r d) e in
      (v, has_and seen new v ∙ true_and (has seen v) (has new v) (f v ∙ i) (has_existential r body b d set s small v ∙ mem_member m)))

  pub seen_more : (ds : List (List Atom)) (seen again : ℕ) (apart : Bool) → Seen r ds seen again apart
      → Seen r (ds ++ (d ∷ [])) (bit_or seen new) (bit_or again (bit_and seen new)) (apart || eqb (bit_and set body) 0)
  seen_more ds seen again apart h =
      record {
        seen_is =
            λ v.
            has_or seen new v
            ∙ rw (h.seen_is v, has_existential r body b d set s small v, any_snoc (λ (e : List Atom). member v (existential r e)) ds d);
        again_is =
            or_empty again (bit_and seen new)
            ∙ rw (h.again_is, shared_empty ds seen h.seen_is, repeated_snoc r ds d)
            (not_or (repeated r ds) (any (elsewhere r ds) (existential r d)));
        apart_is =
            rw (h.apart_is, meets_empty r body b d set s small, any_snoc (detached r) ds d);
      }

-- the fault of the whole rule depends on the rule's body and the disjuncts alone

abbrev pub of : List Atom → List (List Atom) → Rule
of b ds = record { body = b; head = ds }

repeated_of : (b : List Atom) (hs hs' ds : List (List Atom)) → repeated (of b hs) ds ≡ repeated (of b hs') ds
unfolding repeated existential in_body
repeated_of b hs hs' [] = refl
repeated_of b hs hs' (d ∷ ds) = rw (repeated_of b hs hs' ds)

detached_of : (b : List Atom) (hs hs' ds : List (List Atom)) → any (detached (of b hs)) ds ≡ any (detached (of b hs')) ds
unfolding detached in_body
detached_of b hs hs' ds = refl

-- what a loop keeps, of whatever body has this set
abbrev pub Keeps : ℕ → List (List Atom) → Disjuncts → Type 0
Keeps body ds s = (b : List Atom) → body ≡ atoms_set b → Seen (of b []) ds s.seen s.again s.apart

pub keeps_none : (body : ℕ) (s : Disjuncts) → (s.seen ≡ 0) × (s.again ≡ 0) × (s.apart ≡ false) → Keeps body [] s
keeps_none body s (e, f, g) b h = rw (e, f, g) (seen_none (of b []))

pub keeps_more : (body set : ℕ) (s s' : Disjuncts) → body < 256
    → (s'.seen ≡ bit_or s.seen (others set body)) × (s'.again ≡ bit_or s.again (bit_and s.seen (others set body))) × (s'.apart ≡ (s.apart || eqb (bit_and set body) 0))
    → (d : List Atom) → atoms_set d ≡ set → (ds : List (List Atom)) → Keeps body ds s → Keeps body (ds ++ (d ∷ [])) s'
keeps_more body set s s' h (p, q, r) d e ds k b f = rw (p, q, r) (seen_more (of b []) body f h d set e ds s.seen s.again s.apart (k b f))

pub fault_is : (b : List Atom) (ds : List (List Atom)) (seen again : ℕ) (apart : Bool) → Seen (of b []) ds seen again apart → fault (of b ds) ≡ fault_of again apart
unfolding fault
fault_is b ds seen again apart h = rw (repeated_of b ds [] ds, detached_of b ds [] ds, h.again_is, h.apart_is, not_not (repeated (of b []) ds))

-- 8 and then 9, by the fault

module _ (r : Rule) (start i : ℕ) where
  abbrev sound_by : Bool → Bool → Parsed Rule
  sound_by true apart = bad 8 start
  sound_by false true = bad 9 start
  sound_by false false = good r i

  sound_by_is : (again apart : Bool) → repeated r r.head ≡ again → any (detached r) r.head ≡ apart → sound r start i ≡ sound_by again apart
  unfolding sound
  sound_by_is true apart e f = rw (e, sound)
  sound_by_is false true e f = rw (e, f, sound)
  sound_by_is false false e f = rw (e, f, sound)

  by_good : (again apart : Bool) → fault_by again apart ≡ None → sound_by again apart ≡ good r i
  by_good true apart e = absurd (none-some _ (sym e))
  by_good false true e = absurd (none-some _ (sym e))
  by_good false false e = refl

  by_bad : (again apart : Bool) (x : Refusal) → fault_by again apart ≡ Some x → sound_by again apart ≡ bad (number_of x) start
  by_bad true apart x e = let f : Repeated ≡ x = cc in ap (λ (y : Refusal). bad (number_of y) start) f
  by_bad false true x e = let f : Detached ≡ x = cc in ap (λ (y : Refusal). bad (number_of y) start) f
  by_bad false false x e = absurd (none-some x e)

  pub sound_good : fault r ≡ None → sound r start i ≡ good r i
  unfolding fault
  sound_good e = sound_by_is _ _ refl refl ∙ by_good (repeated r r.head) (any (detached r) r.head) e

  pub sound_bad : (x : Refusal) → fault r ≡ Some x → sound r start i ≡ bad (number_of x) start
  unfolding fault
  sound_bad x e = sound_by_is _ _ refl refl ∙ by_bad (repeated r r.head) (any (detached r) r.head) x e

-- A form is decided by its counted places: one that agrees with it there counts the same places, holds the same rule set and is written alike.
-- So numbers beyond the front do not matter. Assumes nothing.
use mathlib.Core.Path.{◌≡◌, refl, sym, ap, ap₂, ◌∙◌}
use mathlib.Core.Bool.{Bool, true, false, ◌&&◌, ◌||◌}
use mathlib.Core.Logic.{◌⊎◌, inl, inr}
use mathlib.Core.List.{List, ◌∷◌, ◌++◌}
use Prim.Native.Nat.{ℕ, zero, suc, ◌+◌, ◌-◌, ◌*◌, ◌/◌, ◌%◌, ◌≤◌, ◌<◌}
use native.Mathlib.Omega.{arith}
use native.Mathlib.Nat.{suc-mul}
use lib.Dec.{eqb, leb, ltb, leb-zero}
use lib.ListN.{length, get_or, take, drop}
use lib.Seq.{get_or-take}
use borrow.Author.Tests.{ltb-true, ltb-false, leb-true, lt-ltb, le-leb}
use Rattle.model.specs.Lists.{numbers_from}
use Rattle.model.specs.Rules.{RuleSet}
use Rattle.model.specs.WellFormed.{WellFormedAtom, WellFormedAtoms, WellFormedRule, WellFormed}
use Rattle.model.specs.Format.{good, bad, rule_set, bytes_of}
use Rattle.model.specs.Form.{form_length, arities_place, version_place, spaced, atom_at, group_at, rule_at, decoded, done, refusal, Writing, writing, counted_in_atom, counted_in_group, counted_in_rule, counted}
use Rattle.laws.proofs.Bools.{case, true_and, or_left, or_right}
use Rattle.laws.proofs.Places.{length_numbers_from}
use Rattle.laws_format.proofs.Places.{counted_rules, counted_behind, atoms_few, atom_well_formed, disjuncts_few, group_well_formed, arities_of, arities_few, rules_few, rule_well_formed, arities_same, arities_low}

-- the second of two tests matters only where the first passes
and_same : (t : Bool) {a b : Bool} → (t ≡ true → b ≡ a) → t && b ≡ t && a
and_same true h = h refl
and_same false h = refl

numbers_from_agree : (xs ys : List ℕ) (at n : ℕ) → ((k : ℕ) → k < n → get_or ys (at + k) 0 ≡ get_or xs (at + k) 0) → numbers_from ys at n ≡ numbers_from xs at n
unfolding numbers_from
numbers_from_agree xs ys at zero h = refl
numbers_from_agree xs ys at (suc n) h =
    let start : at + 0 ≡ at = omega arith in
    let next : (k : ℕ) → at + suc k ≡ suc at + k = λ k. omega arith in
    ap₂ (λ (z : ℕ) (zs : List ℕ). z ∷ zs) (rw start at (h 0 (omega arith))) (numbers_from_agree xs ys (suc at) n (λ k m. rw (next k) at (h (suc k) (omega arith))))

spaced_agree : {A : Type 0} (f g : ℕ → A) (width n at : ℕ) → ((k : ℕ) → k < n → g (at + k * width) ≡ f (at + k * width)) → spaced g width n at ≡ spaced f width n at
unfolding spaced
spaced_agree f g width zero at h = refl
spaced_agree {A} f g width (suc n) at h =
    let start : at + 0 * width ≡ at = omega arith in
    let next : (k : ℕ) → at + suc k * width ≡ at + width + k * width = λ k. omega (arith, suc-mul k width) in
    ap₂ (λ (z : A) (zs : List A). z ∷ zs) (rw start at (h 0 (omega arith))) (spaced_agree f g width n (at + width) (λ k m. rw (next k) at (h (suc k) (omega arith))))

-- what is written hangs on the rule set alone
writing_decoded : (form other : List ℕ) → decoded other ≡ decoded form → (out : List ℕ) → writing other out ≡ writing form out
unfolding writing
writing_decoded form other e out = ap written e
  where
    written : RuleSet → Writing
    written b =
        elim (rule_set (bytes_of b)) [
          | bad n p ↦ record { answer = refusal n p; bytes = out }
          | good x i ↦
              elim (leb (length (bytes_of b)) (length out)) [
                | false ↦ record { answer = refusal 1 0; bytes = out }
                | true ↦ record { answer = done (length (bytes_of b)); bytes = bytes_of b ++ drop (length (bytes_of b)) out }
              ]
        ]

module _ (form other : List ℕ) where
  -- the same numbers where a part of so many numbers counts them
  abbrev Agree : (ℕ → ℕ → Bool) → ℕ → ℕ → Type 0
  Agree inside width at = (p : ℕ) → p < width → inside at p ≡ true → get_or other (at + p) 0 ≡ get_or form (at + p) 0

  -- from a part to the rows in it

  atoms_agree : (at k : ℕ) → Agree (counted_in_group form) 21 at → k < get_or form at 0 → get_or form at 0 ≤ 4 → Agree (counted_in_atom form) 5 (suc at + k * 5)
  unfolding counted_in_group
  atoms_agree at k h m few p l c =
      let row : (k * 5 + p) / 5 ≡ k = omega arith in
      let rest : (k * 5 + p) % 5 ≡ p = omega arith in
      let place : at + suc (k * 5 + p) ≡ suc at + k * 5 + p = omega arith in
      rw place at (h (suc (k * 5 + p)) (omega arith) (rw (row, rest) (true_and (ltb k (get_or form at 0)) (counted_in_atom form (suc at + k * 5) p) (lt-ltb k (get_or form at 0) m) c)))

  groups_agree : (at k : ℕ) → Agree (counted_in_rule form) 106 at → k ≤ get_or form at 0 → get_or form at 0 ≤ 4 → Agree (counted_in_group form) 21 (suc at + k * 21)
  unfolding counted_in_rule
  groups_agree at k h m few p l c =
      let row : (k * 21 + p) / 21 ≡ k = omega arith in
      let rest : (k * 21 + p) % 21 ≡ p = omega arith in
      let place : at + suc (k * 21 + p) ≡ suc at + k * 21 + p = omega arith in
      rw place at (h (suc (k * 21 + p)) (omega arith) (rw (row, rest) (true_and (leb k (get_or form at 0)) (counted_in_group form (suc at + k * 21) p) (le-leb k (get_or form at 0) m) c)))

  first_agree : (inside : ℕ → ℕ → Bool) (width at : ℕ) → Agree inside width at → 0 < width → inside at 0 ≡ true → get_or other at 0 ≡ get_or form at 0
  first_agree inside width at h m c = let start : at + 0 ≡ at = omega arith in rw start at (h 0 m c)

  -- what is read at a place is the same, and so are the places that count in it
  module _ (arities : List ℕ) (same : (p : ℕ) → p < length arities → get_or arities p 0 ≡ get_or form (arities_place + p) 0)
      (low : (p : ℕ) → p < length arities → get_or arities p 0 ≤ 4)
      (alike : (p : ℕ) → p < length arities → get_or other (arities_place + p) 0 ≡ get_or form (arities_place + p) 0) where
    module _ (at : ℕ) (w : WellFormedAtom arities (atom_at form arities at)) (h : Agree (counted_in_atom form) 5 at) where
      predicate_agree : get_or other at 0 ≡ get_or form at 0
      unfolding counted_in_atom
      predicate_agree = first_agree (counted_in_atom form) 5 at h (omega arith) (leb-zero (get_or form (arities_place + get_or form at 0) 0))

      atom_at_agree : atom_at other arities at ≡ atom_at form arities at
      unfolding atom_at counted_in_atom
      atom_at_agree =
          let n : ℕ = get_or arities (get_or form at 0) 0 in
          let m : ℕ = get_or form (arities_place + get_or form at 0) 0 in
          let e : n ≡ m = same (get_or form at 0) w.declared in
          let l : n ≤ 4 = low (get_or form at 0) w.declared in
          let next : (k : ℕ) → at + suc k ≡ suc at + k = λ k. omega arith in
          let v : numbers_from other (suc at) (get_or arities (get_or other at 0) 0) ≡ numbers_from form (suc at) n =
          ap (λ (k : ℕ). numbers_from other (suc at) (get_or arities k 0)) predicate_agree ∙
          numbers_from_agree form other (suc at) n (λ k i. rw (next k) at (h (suc k) (omega arith) (lt-ltb k m (omega arith))))
          in
          λ i. record { predicate = predicate_agree i; variables = v i }

      counted_in_atom_agree : (p : ℕ) → counted_in_atom other at p ≡ counted_in_atom form at p
      unfolding atom_at counted_in_atom
      counted_in_atom_agree p =
          ap (λ (k : ℕ). leb p (get_or other (arities_place + k) 0)) predicate_agree ∙ ap (leb p) (alike (get_or form at 0) w.declared)

    module _ (at : ℕ) (w : WellFormedAtoms arities (group_at form arities at)) (h : Agree (counted_in_group form) 21 at) where
      atoms_count : get_or other at 0 ≡ get_or form at 0
      unfolding counted_in_group
      atoms_count = first_agree (counted_in_group form) 21 at h (omega arith) refl

      atom_agree : (k : ℕ) → k < get_or form at 0 → Agree (counted_in_atom form) 5 (suc at + k * 5)
      atom_agree k m = atoms_agree at k h m (atoms_few form arities at w)

      group_at_agree : group_at other arities at ≡ group_at form arities at
      unfolding group_at
      group_at_agree =
          ap (λ (k : ℕ). spaced (atom_at other arities) 5 k (suc at)) atoms_count ∙
          spaced_agree (atom_at form arities) (atom_at other arities) 5 (get_or form at 0) (suc at) (λ k m. atom_at_agree (suc at + k * 5) (atom_well_formed form arities at w k m) (atom_agree k m))

      counted_in_group_agree : (p : ℕ) → counted_in_group other at p ≡ counted_in_group form at p
      unfolding counted_in_group
      counted_in_group_agree zero = refl
      counted_in_group_agree (suc p) =
          ap (λ (n : ℕ). ltb (p / 5) n && counted_in_atom other (suc at + (p / 5) * 5) (p % 5)) atoms_count ∙
          and_same (ltb (p / 5) (get_or form at 0)) (λ e.
          let m = ltb-true (p / 5) (get_or form at 0) e in
          counted_in_atom_agree (suc at + (p / 5) * 5) (atom_well_formed form arities at w (p / 5) m) (atom_agree (p / 5) m) (p % 5))

    module _ (at : ℕ) (w : WellFormedRule arities (rule_at form arities at)) (h : Agree (counted_in_rule form) 106 at) where
      disjuncts_count : get_or other at 0 ≡ get_or form at 0
      unfolding counted_in_rule
      disjuncts_count = first_agree (counted_in_rule form) 106 at h (omega arith) refl

      group_agree : (k : ℕ) → k ≤ get_or form at 0 → Agree (counted_in_group form) 21 (suc at + k * 21)
      group_agree k m = groups_agree at k h m (disjuncts_few form arities at w)

      groups_same : (k : ℕ) → k ≤ get_or form at 0 → group_at other arities (suc at + k * 21) ≡ group_at form arities (suc at + k * 21)
      groups_same k m = group_at_agree (suc at + k * 21) (group_well_formed form arities at w k m) (group_agree k m)

      rule_at_agree : rule_at other arities at ≡ rule_at form arities at
      unfolding rule_at
      rule_at_agree =
          let start : suc at + 0 * 21 ≡ suc at = omega arith in
          let next : (k : ℕ) → suc at + suc k * 21 ≡ at + 22 + k * 21 = λ k. omega arith in
          let q : group_at other arities (suc at) ≡ group_at form arities (suc at) = rw start at (groups_same 0 (omega arith)) in
          let d : spaced (group_at other arities) 21 (get_or other at 0) (at + 22) ≡ spaced (group_at form arities) 21 (get_or form at 0) (at + 22) =
          ap (λ (k : ℕ). spaced (group_at other arities) 21 k (at + 22)) disjuncts_count ∙
          spaced_agree (group_at form arities) (group_at other arities) 21 (get_or form at 0) (at + 22) (λ k m. rw (next k) at (groups_same (suc k) m))
          in
          λ i. record { body = q i; head = d i }

      counted_in_rule_agree : (p : ℕ) → counted_in_rule other at p ≡ counted_in_rule form at p
      unfolding counted_in_rule
      counted_in_rule_agree zero = refl
      counted_in_rule_agree (suc p) =
          ap (λ (n : ℕ). leb (p / 21) n && counted_in_group other (suc at + (p / 21) * 21) (p % 21)) disjuncts_count ∙
          and_same (leb (p / 21) (get_or form at 0)) (λ e.
          let m = leb-true (p / 21) (get_or form at 0) e in
          counted_in_group_agree (suc at + (p / 21) * 21) (group_well_formed form arities at w (p / 21) m) (group_agree (p / 21) m) (p % 21))

  module _ (w : WellFormed (decoded form)) (agree : (p : ℕ) → p < form_length → counted form p ≡ true → get_or other p 0 ≡ get_or form p 0) where
    rules_count : get_or other 1 0 ≡ get_or form 1 0
    unfolding counted
    rules_count = agree 1 (omega arith) refl

    arities_count : get_or other 0 0 ≡ get_or form 0 0
    unfolding counted
    arities_count = agree 0 (omega arith) refl

    arities_alike : (p : ℕ) → p < length (arities_of form) → get_or other (arities_place + p) 0 ≡ get_or form (arities_place + p) 0
    arities_alike p m =
        let few = arities_few form w in
        let count = length_numbers_from form arities_place (get_or form 0 0) in
        let here : 6784 + p - 6784 ≡ p = omega arith in
        let place : suc (suc (6784 + p)) ≡ 6786 + p = omega arith in
        rw place at (agree (suc (suc (6784 + p))) (omega arith) (counted_behind form (6784 + p) (omega arith) ∙ rw here (or_left (ltb p (get_or form 0 0)) (eqb p 1024) (lt-ltb p (get_or form 0 0) (omega arith)))))

    version_agree : get_or other version_place 0 ≡ get_or form version_place 0
    version_agree = agree 7810 (omega arith) (counted_behind form 7808 (omega arith) ∙ or_right (ltb 1024 (get_or form 0 0)) (eqb 1024 1024) refl)

    rule_agree : (k : ℕ) → k < get_or form 1 0 → Agree (counted_in_rule form) 106 (2 + k * 106)
    rule_agree k m p l c =
        let few = rules_few form w in
        let row : (k * 106 + p) / 106 ≡ k = omega arith in
        let rest : (k * 106 + p) % 106 ≡ p = omega arith in
        let place : suc (suc (k * 106 + p)) ≡ 2 + k * 106 + p = omega arith in
        rw place at
        (agree (suc (suc (k * 106 + p))) (omega arith)
        (counted_rules form (k * 106 + p) (omega arith) ∙
        rw (row, rest) (true_and (ltb k (get_or form 1 0)) (counted_in_rule form (2 + k * 106) p) (lt-ltb k (get_or form 1 0) m) c)))

    -- the same rule set
    pub decoded_agree : decoded other ≡ decoded form
    unfolding decoded
    decoded_agree =
        let arities : List ℕ = arities_of form in
        let count = length_numbers_from form arities_place (get_or form 0 0) in
        let p : arities_of other ≡ arities =
        ap (numbers_from other arities_place) arities_count ∙ numbers_from_agree form other arities_place (get_or form 0 0) (λ k m. arities_alike k (omega arith))
        in
        let q : spaced (rule_at other arities) 106 (get_or other 1 0) 2 ≡ spaced (rule_at form arities) 106 (get_or form 1 0) 2 =
        ap (λ (k : ℕ). spaced (rule_at other arities) 106 k 2) rules_count ∙
        spaced_agree (rule_at form arities) (rule_at other arities) 106 (get_or form 1 0) 2
        (λ k m. rule_at_agree arities (arities_same form w) (arities_low form w) arities_alike (2 + k * 106) (rule_well_formed form w k m) (rule_agree k m))
        in
        let r : spaced (rule_at other (arities_of other)) 106 (get_or other 1 0) 2 ≡ spaced (rule_at form arities) 106 (get_or form 1 0) 2 =
        ap (λ (xs : List ℕ). spaced (rule_at other xs) 106 (get_or other 1 0) 2) p ∙ q
        in
        λ i. record { version = version_agree i; fixed = 0; arities = p i; rules = r i }

    -- the same counted places
    pub counted_agree : (p : ℕ) → counted other p ≡ counted form p
    unfolding counted
    counted_agree zero = refl
    counted_agree (suc zero) = refl
    counted_agree (suc (suc p)) = go (case (ltb p 6784))
      where
        go : (ltb p 6784 ≡ true) ⊎ (ltb p 6784 ≡ false) → counted other (suc (suc p)) ≡ counted form (suc (suc p))
        go (inl e) =
            let l = ltb-true p 6784 e in
            counted_rules other p l ∙ ap (λ (n : ℕ). ltb (p / 106) n && counted_in_rule other (2 + (p / 106) * 106) (p % 106)) rules_count ∙
            and_same (ltb (p / 106) (get_or form 1 0)) (λ f.
            let m = ltb-true (p / 106) (get_or form 1 0) f in
            counted_in_rule_agree (arities_of form) (arities_same form w) (arities_low form w) arities_alike (2 + (p / 106) * 106) (rule_well_formed form w (p / 106) m)
            (rule_agree (p / 106) m) (p % 106)) ∙
            sym (counted_rules form p l)
        go (inr e) =
            let l = ltb-false p 6784 e in
            counted_behind other p l ∙ ap (λ (n : ℕ). ltb (p - 6784) n || eqb (p - 6784) 1024) arities_count ∙ sym (counted_behind form p l)

    -- the same bytes
    pub writing_agree : (out : List ℕ) → writing other out ≡ writing form out
    writing_agree out = writing_decoded form other decoded_agree out

-- Numbers beyond the front do not matter.
module _ (form : List ℕ) (w : WellFormed (decoded form)) where
  pub decoded_front : decoded (take form_length form) ≡ decoded form
  decoded_front = decoded_agree form (take form_length form) w (λ p l c. get_or-take form_length form p 0 l)

  pub writing_front : (out : List ℕ) → writing (take form_length form) out ≡ writing form out
  writing_front = writing_agree form (take form_length form) w (λ p l c. get_or-take form_length form p 0 l)

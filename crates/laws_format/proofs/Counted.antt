-- The form of what a form holds has its numbers in the counted places and 0 in every other, and so has a form that was written and read again.
-- Assumes nothing.
use mathlib.Core.Path.{◌≡◌, sym, ap, ap₂, ◌∙◌, subst}
use mathlib.Core.Bool.{Bool, true, false, ◌&&◌, ◌||◌}
use mathlib.Core.Logic.{◌⊎◌, inl, inr}
use mathlib.Core.List.{List, [], ◌∷◌, ◌++◌}
use Prim.Native.Nat.{ℕ, zero, suc, ◌+◌, ◌-◌, ◌*◌, ◌/◌, ◌%◌, ◌≤◌, ◌<◌}
use native.Mathlib.Omega.{arith}
use native.Mathlib.Nat.{zero-mul, suc-mul}
use lib.Dec.{eqb, leb, ltb, leb-zero, leb-suc-zero, leb-suc-suc}
use lib.ListN.{length, get_or, take, drop, length-append, length-drop, get_or-append}
use lib.Seq.{get_or-append-add, drop_at}
use borrow.Author.Tests.{ltb-true, ltb-false, le-ltb, ne_eqb}
use Rattle.model.specs.Lists.{collect, padded, numbers_from}
use Rattle.model.specs.Rules.{Atom, RuleSet}
use Rattle.model.specs.WellFormed.{WellFormedAtom, WellFormedAtoms, WellFormedRule, WellFormed}
use Rattle.model.specs.Format.{good, read}
use Rattle.model.specs.Form.{form_length, arities_place, version_place, atom_row, group, rule_row, encoded, spaced, atom_at, group_at, rule_at, decoded, done, Reading, reading, writing, counted_in_atom, counted_in_group, counted_in_rule, counted}
use Rattle.laws.proofs.Bools.{case, or_none}
use Rattle.laws.proofs.Places.{get_or_padded, length_padded, length_numbers_from, length_spaced}
use Rattle.laws_format.proofs.Bytes.{read_well_formed}
use Rattle.laws_format.proofs.Form.{encoded_length, decoded_encoded}
use Rattle.laws_format.proofs.RoundTrip.{writing_done, written_read, reading_done, reading_good}
use Rattle.laws_format.proofs.Places.{only, numbers_from_place, counted_rules, counted_behind, atoms_few, atom_well_formed, disjuncts_few, group_well_formed, arities_of, arities_few, rules_few, rule_well_formed, arities_same, arities_low}
use Rattle.laws_format.proofs.Agreement.{counted_agree}

-- the row of what is read at a place has the numbers that stand there, where they count, and 0 elsewhere
record Laid {A : Type 0} (form : List ℕ) (row : A → List ℕ) (f : ℕ → A) (width : ℕ) (inside : ℕ → ℕ → Bool) (at : ℕ) : Type 0 where
  wide : length (row (f at)) ≡ width
  place : (p : ℕ) → get_or (row (f at)) p 0 ≡ only (inside at p) (get_or form (at + p) 0)

module _ {A : Type 0} (form : List ℕ) (row : A → List ℕ) (f : ℕ → A) (width : ℕ) (inside : ℕ → ℕ → Bool) where
  rows_length : (n at : ℕ) → ((k : ℕ) → k < n → Laid form row f width inside (at + k * width)) → length (collect row (spaced f width n at)) ≡ n * width
  unfolding spaced collect
  rows_length zero at l = sym (zero-mul width)
  rows_length (suc n) at l =
      let next : (k : ℕ) → at + suc k * width ≡ at + width + k * width = λ k. omega (arith, suc-mul k width) in
      let first : length (row (f at)) ≡ width = ap (λ (k : ℕ). length (row (f k))) (omega arith) ∙ (l 0 (omega arith)).wide in
      let others = rows_length n (at + width) (λ k m. rw (next k) at (l (suc k) (omega arith))) in
      omega (arith, length-append (row (f at)) (collect row (spaced f width n (at + width))), suc-mul n width)

  -- place j of row i, where n rows stand behind each other
  rows_place : (n at i j : ℕ) → ((k : ℕ) → k < n → Laid form row f width inside (at + k * width)) → j < width
      → get_or (collect row (spaced f width n at)) (i * width + j) 0 ≡ only (ltb i n && inside (at + i * width) j) (get_or form (at + (i * width + j)) 0)
  unfolding spaced collect
  rows_place zero at i j l h = rw (leb-suc-zero i)
  rows_place (suc n) at zero j l h =
      let start : at + 0 * width ≡ at = omega arith in
      let here : 0 * width + j ≡ j = omega arith in
      let first : Laid form row f width inside at = rw start at (l 0 (omega arith)) in
      let wide = first.wide in
      rw (start, here, leb-suc-suc 0 n, leb-zero n)
      (get_or-append (row (f at)) (collect row (spaced f width n (at + width))) 0 j (omega arith) ∙ first.place j)
  rows_place (suc n) at (suc i) j l h =
      let next : (k : ℕ) → at + suc k * width ≡ at + width + k * width = λ k. omega (arith, suc-mul k width) in
      let first : length (row (f at)) ≡ width = ap (λ (k : ℕ). length (row (f k))) (omega arith) ∙ (l 0 (omega arith)).wide in
      let there : suc i * width + j ≡ length (row (f at)) + (i * width + j) = omega (arith, suc-mul i width) in
      let place : at + (suc i * width + j) ≡ at + width + (i * width + j) = omega (arith, suc-mul i width) in
      rw (place, there, get_or-append-add (row (f at)) (collect row (spaced f width n (at + width))) (i * width + j) 0, leb-suc-suc (suc i) n, next i)
      (rows_place n (at + width) i j (λ k m. rw (next k) at (l (suc k) (omega arith))) h)

module _ (form arities : List ℕ) (same : (p : ℕ) → p < length arities → get_or arities p 0 ≡ get_or form (arities_place + p) 0)
    (low : (p : ℕ) → p < length arities → get_or arities p 0 ≤ 4) where
  atom_laid : (at : ℕ) → WellFormedAtom arities (atom_at form arities at) → Laid form atom_row (atom_at form arities) 5 (counted_in_atom form) at
  unfolding atom_at atom_row counted_in_atom
  atom_laid at h =
      let n : ℕ = get_or arities (get_or form at 0) 0 in
      let l : n ≤ 4 = low (get_or form at 0) h.declared in
      let xs : List ℕ = get_or form at 0 ∷ numbers_from form (suc at) n in
      record {
        wide = length_padded 5 xs (omega (arith, length_numbers_from form (suc at) n));
        place = λ p. get_or_padded 5 xs p ∙ rw (← same (get_or form at 0) h.declared) (go n p);
      }
    where
      go : (n p : ℕ) → get_or (get_or form at 0 ∷ numbers_from form (suc at) n) p 0 ≡ only (leb p n) (get_or form (at + p) 0)
      go n zero = rw (leb-zero n) (ap (λ (k : ℕ). get_or form k 0) (omega arith))
      go n (suc p) = numbers_from_place form (suc at) n p ∙ ap (λ (k : ℕ). only (ltb p n) (get_or form k 0)) (omega arith)

  group_laid : (at : ℕ) → WellFormedAtoms arities (group_at form arities at) → Laid form group (group_at form arities) 21 (counted_in_group form) at
  unfolding group_at group counted_in_group
  group_laid at h =
      record {
        wide =
            let few = atoms_few form arities at h in
            let l = rows_length form atom_row (atom_at form arities) 5 (counted_in_atom form) (get_or form at 0) (suc at) each in
            length_padded 21 (length atoms ∷ collect atom_row atoms) (omega arith);
        place = λ p. get_or_padded 21 (length atoms ∷ collect atom_row atoms) p ∙ go p;
      }
    where
      atoms : List Atom
      atoms = spaced (atom_at form arities) 5 (get_or form at 0) (suc at)

      each : (k : ℕ) → k < get_or form at 0 → Laid form atom_row (atom_at form arities) 5 (counted_in_atom form) (suc at + k * 5)
      each k m = atom_laid (suc at + k * 5) (atom_well_formed form arities at h k m)

      go : (p : ℕ) → get_or (length atoms ∷ collect atom_row atoms) p 0 ≡ only (counted_in_group form at p) (get_or form (at + p) 0)
      go zero = length_spaced (atom_at form arities) 5 (get_or form at 0) (suc at) ∙ ap (λ (k : ℕ). get_or form k 0) (omega arith)
      go (suc p) =
          let split : p ≡ (p / 5) * 5 + p % 5 = omega arith in
          let place : suc at + ((p / 5) * 5 + p % 5) ≡ at + suc p = omega arith in
          ap (λ (k : ℕ). get_or (collect atom_row atoms) k 0) split ∙
          rows_place form atom_row (atom_at form arities) 5 (counted_in_atom form) (get_or form at 0) (suc at) (p / 5) (p % 5) each (omega arith) ∙
          ap (λ (k : ℕ). only (counted_in_group form at (suc p)) (get_or form k 0)) place

  -- the body and the disjuncts, one group behind the other
  groups_behind : (at n : ℕ) → group (group_at form arities (suc at)) ++ collect group (spaced (group_at form arities) 21 n (at + 22))
      ≡ collect group (spaced (group_at form arities) 21 (suc n) (suc at))
  unfolding spaced collect
  groups_behind at n =
      let place : at + 22 ≡ suc at + 21 = omega arith in
      ap (λ (k : ℕ). group (group_at form arities (suc at)) ++ collect group (spaced (group_at form arities) 21 n k)) place

  groups_laid : (at : ℕ) → WellFormedRule arities (rule_at form arities at) → (k : ℕ) → k < suc (get_or form at 0)
      → Laid form group (group_at form arities) 21 (counted_in_group form) (suc at + k * 21)
  groups_laid at h k m = group_laid (suc at + k * 21) (group_well_formed form arities at h k (omega arith))

  rule_laid : (at : ℕ) → WellFormedRule arities (rule_at form arities at) → Laid form rule_row (rule_at form arities) 106 (counted_in_rule form) at
  unfolding rule_at rule_row counted_in_rule
  rule_laid at h =
      record {
        wide =
            let few = disjuncts_few form arities at h in
            let l = rows_length form group (group_at form arities) 21 (counted_in_group form) (suc (get_or form at 0)) (suc at) (groups_laid at h) in
            length_padded 106 (length head ∷ groups) (omega (arith, ap length (groups_behind at (get_or form at 0))));
        place = λ p. get_or_padded 106 (length head ∷ groups) p ∙ go p;
      }
    where
      head : List (List Atom)
      head = spaced (group_at form arities) 21 (get_or form at 0) (at + 22)

      groups : List ℕ
      groups = group (group_at form arities (suc at)) ++ collect group head

      go : (p : ℕ) → get_or (length head ∷ groups) p 0 ≡ only (counted_in_rule form at p) (get_or form (at + p) 0)
      go zero = length_spaced (group_at form arities) 21 (get_or form at 0) (at + 22) ∙ ap (λ (k : ℕ). get_or form k 0) (omega arith)
      go (suc p) =
          let split : p ≡ (p / 21) * 21 + p % 21 = omega arith in
          let place : suc at + ((p / 21) * 21 + p % 21) ≡ at + suc p = omega arith in
          ap₂ (λ (xs : List ℕ) (k : ℕ). get_or xs k 0) (groups_behind at (get_or form at 0)) split ∙
          rows_place form group (group_at form arities) 21 (counted_in_group form) (suc (get_or form at 0)) (suc at) (p / 21) (p % 21) (groups_laid at h) (omega arith) ∙
          ap₂ (λ (t : Bool) (k : ℕ). only (t && counted_in_group form (suc at + (p / 21) * 21) (p % 21)) (get_or form k 0)) (leb-suc-suc (p / 21) (get_or form at 0)) place

module _ (form : List ℕ) (w : WellFormed (decoded form)) where
  rules_laid : (k : ℕ) → k < get_or form 1 0 → Laid form rule_row (rule_at form (arities_of form)) 106 (counted_in_rule form) (2 + k * 106)
  rules_laid k m = rule_laid form (arities_of form) (arities_same form w) (arities_low form w) (2 + k * 106) (rule_well_formed form w k m)

  rules : List ℕ
  rules = padded 6784 (collect rule_row (spaced (rule_at form (arities_of form)) 106 (get_or form 1 0) 2))

  rules_length_is : length rules ≡ 6784
  unfolding rules
  rules_length_is =
      let few = rules_few form w in
      let l = rows_length form rule_row (rule_at form (arities_of form)) 106 (counted_in_rule form) (get_or form 1 0) 2 rules_laid in
      length_padded 6784 (collect rule_row (spaced (rule_at form (arities_of form)) 106 (get_or form 1 0) 2)) (omega arith)

  rules_place : (p : ℕ) → get_or rules p 0 ≡ only (ltb (p / 106) (get_or form 1 0) && counted_in_rule form (2 + (p / 106) * 106) (p % 106)) (get_or form (suc (suc p)) 0)
  unfolding rules
  rules_place p =
      let rows : List ℕ = collect rule_row (spaced (rule_at form (arities_of form)) 106 (get_or form 1 0) 2) in
      let split : p ≡ (p / 106) * 106 + p % 106 = omega arith in
      let place : 2 + ((p / 106) * 106 + p % 106) ≡ suc (suc p) = omega arith in
      get_or_padded 6784 rows p ∙ ap (λ (k : ℕ). get_or rows k 0) split ∙
      rows_place form rule_row (rule_at form (arities_of form)) 106 (counted_in_rule form) (get_or form 1 0) 2 (p / 106) (p % 106) rules_laid (omega arith) ∙
      ap (λ (k : ℕ). only (ltb (p / 106) (get_or form 1 0) && counted_in_rule form (2 + (p / 106) * 106) (p % 106)) (get_or form k 0)) place

  behind : List ℕ
  behind = get_or form version_place 0 ∷ 0 ∷ []

  arities_length : length (padded 1024 (arities_of form)) ≡ 1024
  arities_length = let few = arities_few form w in length_padded 1024 (arities_of form) (omega (arith, length_numbers_from form arities_place (get_or form 0 0)))

  -- behind the rules: the arities, the version and 0
  others_place : (q : ℕ) → get_or (padded 1024 (arities_of form) ++ behind) q 0 ≡ only (ltb q (get_or form 0 0) || eqb q 1024) (get_or form (arities_place + q) 0)
  unfolding behind
  others_place q = go (case (ltb q 1024))
    where
      few : get_or form 0 0 ≤ 1024
      few = arities_few form w

      -- no arity and not the version
      uncounted : (k : ℕ) → 1024 < k → 0 ≡ only (ltb k (get_or form 0 0) || eqb k 1024) (get_or form (arities_place + k) 0)
      uncounted k h = rw (le-ltb k (get_or form 0 0) (omega (arith, few)), ne_eqb k 1024 (λ (e : k ≡ 1024). omega arith))

      last : (k : ℕ) → get_or (get_or form version_place 0 ∷ 0 ∷ []) k 0 ≡ only (ltb (1024 + k) (get_or form 0 0) || eqb (1024 + k) 1024) (get_or form (arities_place + (1024 + k)) 0)
      last zero = rw (le-ltb 1024 (get_or form 0 0) few)
      last (suc zero) = uncounted 1025 (omega arith)
      last (suc (suc k)) = uncounted (1024 + suc (suc k)) (omega arith)

      go : (ltb q 1024 ≡ true) ⊎ (ltb q 1024 ≡ false)
          → get_or (padded 1024 (arities_of form) ++ behind) q 0 ≡ only (ltb q (get_or form 0 0) || eqb q 1024) (get_or form (arities_place + q) 0)
      go (inl e) =
          let h = ltb-true q 1024 e in
          get_or-append (padded 1024 (arities_of form)) behind 0 q (omega (arith, arities_length)) ∙ get_or_padded 1024 (arities_of form) q ∙
          numbers_from_place form arities_place (get_or form 0 0) q ∙
          ap (λ (t : Bool). only t (get_or form (arities_place + q) 0)) (sym (or_none (ltb q (get_or form 0 0)) (eqb q 1024) (ne_eqb q 1024 (λ (k : q ≡ 1024). omega arith))))
      go (inr e) =
          let h = ltb-false q 1024 e in
          let split : q ≡ length (padded 1024 (arities_of form)) + (q - 1024) = omega (arith, arities_length) in
          let back : 1024 + (q - 1024) ≡ q = omega arith in
          ap (λ (k : ℕ). get_or (padded 1024 (arities_of form) ++ behind) k 0) split ∙ get_or-append-add (padded 1024 (arities_of form)) behind (q - 1024) 0 ∙ last (q - 1024) ∙
          ap (λ (k : ℕ). only (ltb k (get_or form 0 0) || eqb k 1024) (get_or form (arities_place + k) 0)) back

  -- The form of what a form holds, place by place (document 01: the same book in its counted places, the others 0).
  pub counted_places : (p : ℕ) → get_or (encoded (decoded form)) p 0 ≡ elim (counted form p) [ true ↦ get_or form p 0 | false ↦ 0 ]
  unfolding decoded encoded counted rules behind
  counted_places zero = length_numbers_from form arities_place (get_or form 0 0)
  counted_places (suc zero) = length_spaced (rule_at form (arities_of form)) 106 (get_or form 1 0) 2
  counted_places (suc (suc p)) = go (case (ltb p 6784))
    where
      go : (ltb p 6784 ≡ true) ⊎ (ltb p 6784 ≡ false) → get_or (encoded (decoded form)) (suc (suc p)) 0 ≡ only (counted form (suc (suc p))) (get_or form (suc (suc p)) 0)
      go (inl e) =
          let h = ltb-true p 6784 e in
          get_or-append rules (padded 1024 (arities_of form) ++ behind) 0 p (omega (arith, rules_length_is)) ∙ rules_place p ∙
          ap (λ (t : Bool). only t (get_or form (suc (suc p)) 0)) (sym (counted_rules form p h))
      go (inr e) =
          let h = ltb-false p 6784 e in
          let split : p ≡ length rules + (p - 6784) = omega (arith, rules_length_is) in
          let place : 6786 + (p - 6784) ≡ suc (suc p) = omega arith in
          ap (λ (k : ℕ). get_or (rules ++ (padded 1024 (arities_of form) ++ behind)) k 0) split ∙ get_or-append-add rules (padded 1024 (arities_of form) ++ behind) (p - 6784) 0 ∙
          others_place (p - 6784) ∙
          ap₂ (λ (t : Bool) (k : ℕ). only t (get_or form k 0)) (sym (counted_behind form p h)) place

-- the counted numbers of one form, 0 in the other places of the front, and beyond the front what stood there
pub record Restored (form other left : List ℕ) : Type 0 where
  pub front : (p : ℕ) → p < form_length → get_or left p 0 ≡ elim (counted form p) [ true ↦ get_or form p 0 | false ↦ 0 ]
  pub beyond : drop form_length left ≡ drop form_length other
  pub size : length left ≡ length other
  -- what counts is the same by either form
  pub places : (p : ℕ) → counted left p ≡ counted form p

encoded_restored : (form other : List ℕ) → WellFormed (decoded form) → form_length ≤ length other
    → Restored form other (encoded (decoded form) ++ drop form_length other)
encoded_restored form other w h =
    record {
      front = front;
      beyond = drop_at (encoded (decoded form)) (drop form_length other) form_length (encoded_length w);
      size = omega (arith, encoded_length w, length-append (encoded (decoded form)) (drop form_length other), length-drop form_length other);
      places = counted_agree form (encoded (decoded form) ++ drop form_length other) w (λ p l c. front p l ∙ ap (λ (t : Bool). only t (get_or form p 0)) c);
    }
  where
    front : (p : ℕ) → p < form_length → get_or (encoded (decoded form) ++ drop form_length other) p 0 ≡ only (counted form p) (get_or form p 0)
    front p l = get_or-append (encoded (decoded form)) (drop form_length other) 0 p (omega (arith, encoded_length w)) ∙ counted_places form w p

-- Written, then read: the same numbers in the counted places, the others 0.
pub written_read_places : (form out other : List ℕ) (n : ℕ) → (writing form out).answer ≡ done n → form_length ≤ length other
    → ((reading (take n (writing form out).bytes) other).answer ≡ done n) × Restored form other (reading (take n (writing form out).bytes) other).form
written_read_places form out other n e h =
    let again = written_read form out other n e h in
    let left : (reading (take n (writing form out).bytes) other).form ≡ encoded (decoded form) ++ drop form_length other = ap (λ (x : Reading). x.form) again in
    (ap (λ (x : Reading). x.answer) again, rw left (encoded_restored form other (writing_done form out n e).well_formed h))

-- Whatever was read: 0 in every place of the front that is not counted.
pub read_others_zero : (bytes form : List ℕ) (n : ℕ) → (reading bytes form).answer ≡ done n
    → (p : ℕ) → p < form_length → counted (reading bytes form).form p ≡ false → get_or (reading bytes form).form p 0 ≡ 0
read_others_zero bytes form n e p h c = go (reading_done bytes form n e)
  where
    go : (b : RuleSet) × (read bytes ≡ good b n) × (form_length ≤ length form) → get_or (reading bytes form).form p 0 ≡ 0
    go (b, r, l) =
        let w = read_well_formed bytes b n r in
        let left : (reading bytes form).form ≡ encoded b ++ drop form_length form = ap (λ (x : Reading). x.form) (reading_good bytes form b n l r) in
        let holds : decoded (reading bytes form).form ≡ b = ap decoded left ∙ decoded_encoded w (drop form_length form) in
        ap (λ (xs : List ℕ). get_or xs p 0) left ∙ get_or-append (encoded b) (drop form_length form) 0 p (omega (arith, encoded_length w)) ∙
        ap (λ (x : RuleSet). get_or (encoded x) p 0) (sym holds) ∙ counted_places (reading bytes form).form (subst WellFormed (sym holds) w) p ∙
        ap (λ (t : Bool). only t (get_or (reading bytes form).form p 0)) c

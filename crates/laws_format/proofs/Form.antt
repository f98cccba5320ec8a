-- The form of a well-formed rule set has 7,812 numbers and holds that rule set again; whatever a form holds has as many variables in each atom
-- as the arity says. Assumes nothing.
use mathlib.Core.Path.{◌≡◌, refl, sym, ap, ap₂, ◌∙◌, subst}
use mathlib.Core.List.Memᴰ
use mathlib.Core.List.{List, [], ◌∷◌, ◌++◌, append_assoc, Memᴰ}
use mathlib.Core.Logic.{⊎_elim}
use Prim.Native.Nat.{ℕ, zero, suc, ◌+◌, ◌-◌}
use native.Mathlib.Omega.{arith}
use native.Mathlib.Numerals.{add-one}
use lib.ListN.{length, get_or, drop, replicate, length-append}
use lib.Seq.{drop_at}
use Rattle.model.specs.Lists.{collect, padded, numbers_from}
use Rattle.model.specs.Rules.{Atom, Rule, RuleSet}
use Rattle.model.specs.WellFormed.{WellFormedAtom, WellFormedAtoms, WellFormedRule, WellFormed}
use Rattle.model.specs.Form.{form_length, arities_place, atom_row, group, rule_row, encoded, spaced, atom_at, group_at, rule_at, decoded}
use Rattle.laws.proofs.WellFormed.{predicates_few}
use Rattle.laws.proofs.Places.{length_padded, length_numbers_from}
use Rattle.laws_format.proofs.Lists.{length_collect}
use Rattle.laws_format.proofs.Parsers.{drop_past, drop_place}
use Rattle.laws_format.proofs.Format.{ShapedAtom, ShapedAtoms, ShapedRule, Shaped}
use Rattle.laws_format.proofs.Bytes.{arity_at_most}

-- what is padded stands in front
padded_front : (n : ℕ) (xs rest : List ℕ) {ys : List ℕ} → ys ≡ padded n xs ++ rest → ys ≡ xs ++ (replicate (n - length xs) 0 ++ rest)
unfolding padded
padded_front n xs rest e = e ∙ append_assoc xs (replicate (n - length xs) 0) rest

drop_suc : (form : List ℕ) (at v : ℕ) (rest : List ℕ) → drop at form ≡ v ∷ rest → drop (suc at) form ≡ rest
drop_suc form at v rest e = rw (← add-one at) (drop_past form (v ∷ []) rest at e)

numbers_from_spelled : (form : List ℕ) (at : ℕ) (xs rest : List ℕ) → drop at form ≡ xs ++ rest → numbers_from form at (length xs) ≡ xs
unfolding numbers_from
numbers_from_spelled form at [] rest e = refl
numbers_from_spelled form at (x ∷ xs) rest e =
    ap₂ (λ (y : ℕ) (ys : List ℕ). y ∷ ys) (drop_place form at x (xs ++ rest) e).1 (numbers_from_spelled form (suc at) xs rest (drop_suc form at x (xs ++ rest) e))

-- rows of one width, each read at its place
spaced_rows : {A : Type 0} (form : List ℕ) (row : A → List ℕ) (f : ℕ → A) (width : ℕ) (xs : List A) (at : ℕ) (rest : List ℕ)
    → ((x : A) → Memᴰ x xs → length (row x) ≡ width)
    → ((x : A) (at : ℕ) (rest : List ℕ) → Memᴰ x xs → drop at form ≡ row x ++ rest → f at ≡ x)
    → drop at form ≡ collect row xs ++ rest → spaced f width (length xs) at ≡ xs
unfolding spaced collect
spaced_rows form row f width [] at rest l r e = refl
spaced_rows {A} form row f width (x ∷ xs) at rest l r e =
    let there : drop at form ≡ row x ++ (collect row xs ++ rest) = e ∙ append_assoc (row x) (collect row xs) rest in
    let next : drop (at + width) form ≡ collect row xs ++ rest = rw (← l x (Memᴰ.head refl)) (drop_past form (row x) (collect row xs ++ rest) at there) in
    ap₂ (λ (y : A) (ys : List A). y ∷ ys) (r x at (collect row xs ++ rest) (Memᴰ.head refl) there)
    (spaced_rows form row f width xs (at + width) rest (λ y m. l y (Memᴰ.tail m)) (λ y a s m. r y a s (Memᴰ.tail m)) next)

module _ {b : RuleSet} (w : WellFormed b) where
  -- widths

  atom_row_length : {a : Atom} → WellFormedAtom b.arities a → length (atom_row a) ≡ 5
  unfolding atom_row
  atom_row_length {a} h =
      let l = arity_at_most w a.predicate h.declared in
      let e = h.arity in
      length_padded 5 (a.predicate ∷ a.variables) (omega arith)

  group_length : {as' : List Atom} → WellFormedAtoms b.arities as' → length (group as') ≡ 21
  unfolding group
  group_length {as'} h =
      let l = length_collect atom_row 5 as' (λ a m. atom_row_length (h.each a m)) in
      let f = h.few in
      length_padded 21 (length as' ∷ collect atom_row as') (omega arith)

  rule_row_length : {r : Rule} → WellFormedRule b.arities r → length (rule_row r) ≡ 106
  unfolding rule_row
  rule_row_length {r} h =
      let l = length_collect group 21 r.head (λ d m. group_length (h.each d m)) in
      let k = group_length h.body in
      let f = h.few in
      length_padded 106 (length r.head ∷ (group r.body ++ collect group r.head)) (omega (arith, length-append (group r.body) (collect group r.head)))

  rules_length_is : length (padded 6784 (collect rule_row b.rules)) ≡ 6784
  rules_length_is =
      let l = length_collect rule_row 106 b.rules (λ r m. rule_row_length (w.rules r m)) in
      let s = w.short in
      length_padded 6784 (collect rule_row b.rules) (omega arith)

  arities_length : length (padded 1024 b.arities) ≡ 1024
  arities_length = length_padded 1024 b.arities (predicates_few w)

  pub encoded_length : length (encoded b) ≡ form_length
  unfolding encoded
  encoded_length =
      let behind : List ℕ = b.version ∷ 0 ∷ [] in
      omega (arith, rules_length_is, arities_length, length-append (padded 6784 (collect rule_row b.rules)) (padded 1024 b.arities ++ behind), length-append (padded 1024 b.arities) behind)

  -- each part is read at its place

  module _ (form : List ℕ) where
    atom_at_row : {a : Atom} → WellFormedAtom b.arities a → (at : ℕ) (rest : List ℕ) → drop at form ≡ atom_row a ++ rest → atom_at form b.arities at ≡ a
    unfolding atom_row atom_at
    atom_at_row {a} h at rest e =
        let zeros : List ℕ = replicate (5 - length (a.predicate ∷ a.variables)) 0 ++ rest in
        let there : drop at form ≡ a.predicate ∷ (a.variables ++ zeros) = padded_front 5 (a.predicate ∷ a.variables) rest e in
        let p : get_or form at 0 ≡ a.predicate = (drop_place form at a.predicate (a.variables ++ zeros) there).1 in
        let v : numbers_from form (suc at) (get_or b.arities (get_or form at 0) 0) ≡ a.variables =
        rw (p, ← h.arity) (numbers_from_spelled form (suc at) a.variables zeros (drop_suc form at a.predicate (a.variables ++ zeros) there))
        in
        λ i. record { predicate = p i; variables = v i }

    group_at_row : {as' : List Atom} → WellFormedAtoms b.arities as' → (at : ℕ) (rest : List ℕ) → drop at form ≡ group as' ++ rest → group_at form b.arities at ≡ as'
    unfolding group group_at
    group_at_row {as'} h at rest e =
        let zeros : List ℕ = replicate (21 - length (length as' ∷ collect atom_row as')) 0 ++ rest in
        let there : drop at form ≡ length as' ∷ (collect atom_row as' ++ zeros) = padded_front 21 (length as' ∷ collect atom_row as') rest e in
        let n : get_or form at 0 ≡ length as' = (drop_place form at (length as') (collect atom_row as' ++ zeros) there).1 in
        rw n
        (spaced_rows form atom_row (atom_at form b.arities) 5 as' (suc at) zeros (λ a m. atom_row_length (h.each a m)) (λ a k s m. atom_at_row (h.each a m) k s)
        (drop_suc form at (length as') (collect atom_row as' ++ zeros) there))

    rule_at_row : {r : Rule} → WellFormedRule b.arities r → (at : ℕ) (rest : List ℕ) → drop at form ≡ rule_row r ++ rest → rule_at form b.arities at ≡ r
    unfolding rule_row rule_at
    rule_at_row {r} h at rest e =
        let heads : List ℕ = collect group r.head in
        let zeros : List ℕ = replicate (106 - length (length r.head ∷ (group r.body ++ heads))) 0 ++ rest in
        let there : drop at form ≡ length r.head ∷ ((group r.body ++ heads) ++ zeros) = padded_front 106 (length r.head ∷ (group r.body ++ heads)) rest e in
        let n : get_or form at 0 ≡ length r.head = (drop_place form at (length r.head) ((group r.body ++ heads) ++ zeros) there).1 in
        let groups : drop (suc at) form ≡ group r.body ++ (heads ++ zeros) =
        drop_suc form at (length r.head) ((group r.body ++ heads) ++ zeros) there ∙ append_assoc (group r.body) heads zeros
        in
        let place : suc at + length (group r.body) ≡ at + 22 = omega (arith, group_length h.body) in
        let next : drop (at + 22) form ≡ heads ++ zeros = rw place at (drop_past form (group r.body) (heads ++ zeros) (suc at) groups) in
        let q : group_at form b.arities (suc at) ≡ r.body = group_at_row h.body (suc at) (heads ++ zeros) groups in
        let d : spaced (group_at form b.arities) 21 (get_or form at 0) (at + 22) ≡ r.head =
        rw n
        (spaced_rows form group (group_at form b.arities) 21 r.head (at + 22) zeros (λ d m. group_length (h.each d m)) (λ d k s m. group_at_row (h.each d m) k s)
        next)
        in
        λ i. record { body = q i; head = d i }

  -- a form that starts with the form of a rule set holds it
  pub decoded_encoded : (rest : List ℕ) → decoded (encoded b ++ rest) ≡ b
  unfolding encoded decoded
  decoded_encoded rest =
      let rows : List ℕ = collect rule_row b.rules in
      let form : List ℕ = encoded b ++ rest in
      let front : List ℕ = length b.arities ∷ length b.rules ∷ padded 6784 rows in
      let behind : List ℕ = b.version ∷ 0 ∷ rest in
      let others : List ℕ = padded 1024 b.arities ++ behind in
      let joined : (padded 1024 b.arities ++ (b.version ∷ 0 ∷ [])) ++ rest ≡ others = append_assoc (padded 1024 b.arities) (b.version ∷ 0 ∷ []) rest in
      let whole : form ≡ front ++ others = append_assoc front (padded 1024 b.arities ++ (b.version ∷ 0 ∷ [])) rest ∙ ap (λ (xs : List ℕ). front ++ xs) joined in
      let last : drop 6786 form ≡ others = ap (drop 6786) whole ∙ drop_at front others 6786 (omega (arith, rules_length_is)) in
      let p : numbers_from form 6786 (length b.arities) ≡ b.arities =
      numbers_from_spelled form 6786 b.arities (replicate (1024 - length b.arities) 0 ++ behind) (padded_front 1024 b.arities behind last)
      in
      let place : 6786 + length (padded 1024 b.arities) ≡ 7810 = omega (arith, arities_length) in
      let v : get_or form 7810 0 ≡ b.version =
      (drop_place form 7810 b.version (0 ∷ rest) (rw place at (drop_past form (padded 1024 b.arities) behind 6786 last))).1
      in
      let first : drop 2 form ≡ rows ++ (replicate (6784 - length rows) 0 ++ others) = padded_front 6784 rows others (ap (drop 2) whole) in
      let q : spaced (rule_at form b.arities) 106 (length b.rules) 2 ≡ b.rules =
      spaced_rows form rule_row (rule_at form b.arities) 106 b.rules 2 (replicate (6784 - length rows) 0 ++ others)
      (λ r m. rule_row_length (w.rules r m)) (λ r k s m. rule_at_row form (w.rules r m) k s) first
      in
      let c : spaced (rule_at form (numbers_from form 6786 (length b.arities))) 106 (length b.rules) 2 ≡ b.rules =
      ap (λ (ar : List ℕ). spaced (rule_at form ar) 106 (length b.rules) 2) p ∙ q
      in
      λ i. record { version = v i; fixed = sym w.unnamed i; arities = p i; rules = c i }

-- the shape of what a form holds

spaced_each : {A : Type 0} (P : A → Type 0) (f : ℕ → A) (width n at : ℕ) → ((at : ℕ) → P (f at)) → (x : A) → Memᴰ x (spaced f width n at) → P x
unfolding spaced
spaced_each P f width zero at h x m = absurd (Memᴰ.not-nil m)
spaced_each P f width (suc n) at h x m =
    ⊎_elim (λ (e : x ≡ f at). subst P (sym e) (h at)) (λ (k : Memᴰ x (spaced f width n (at + width))). spaced_each P f width n (at + width) h x k)
    (Memᴰ.cases_cons m)

module _ (form arities : List ℕ) where
  atom_at_shaped : (at : ℕ) → ShapedAtom arities (atom_at form arities at)
  unfolding atom_at
  atom_at_shaped at = length_numbers_from form (suc at) (get_or arities (get_or form at 0) 0)

  group_at_shaped : (at : ℕ) → ShapedAtoms arities (group_at form arities at)
  unfolding group_at
  group_at_shaped at = spaced_each (ShapedAtom arities) (atom_at form arities) 5 (get_or form at 0) (suc at) atom_at_shaped

  rule_at_shaped : (at : ℕ) → ShapedRule arities (rule_at form arities at)
  unfolding rule_at
  rule_at_shaped at =
      record {
        body = group_at_shaped (suc at);
        head = spaced_each (ShapedAtoms arities) (group_at form arities) 21 (get_or form at 0) (at + 22) group_at_shaped;
      }

pub decoded_shaped : (form : List ℕ) → Shaped (decoded form)
unfolding decoded
decoded_shaped form =
    let arities : List ℕ = numbers_from form arities_place (get_or form 0 0) in
    record { unnamed = refl; rules = spaced_each (ShapedRule arities) (rule_at form arities) 106 (get_or form 1 0) 2 (rule_at_shaped form arities) }

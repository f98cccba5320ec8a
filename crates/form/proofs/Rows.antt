-- Arrays of four as the code fills them, one atom or one disjunct after the other, and the row of an atom. Assumes nothing.
use mathlib.Core.Path.{◌≡◌, refl, sym, ap, ap₂, ◌∙◌}
use mathlib.Core.Logic.{inl, inr}
use mathlib.Core.List.{List, [], ◌∷◌, map}
use Prim.Native.Nat.{ℕ, ◌+◌, ◌-◌, ◌≤◌, ◌<◌}
use native.Mathlib.Omega.{arith}
use native.Mathlib.Numerals.{add-one}
use lib.ListN.{length-append, get_or-eq_default, length, get_or, set, replicate, length-map, get_or-append}
use Rattle.std.proofs.lemmas.Bool.{cases_lt}
use Rattle.std.proofs.lemmas.List.{get_or-replicate, length-replicate}
use lib.Seq.{ext_get_or, get_or-append_right}
use Rattle.model.specs.Lists.{numbers_from, padded}
use Rattle.model.specs.Rules.{Atom}
use Rattle.model.specs.Limits.{fact_width}
use Rattle.model.specs.Form.{atom_row}
use Rattle.laws.proofs.Lists.{get_d_map}
use Rattle.laws.proofs.Places.{length_numbers_from, numbers_from_more}
use Rattle.std.specs.Borrow.{Bor}
use Rattle.form.specs.declared.atoms.Atoms.{Atoms}
use Rattle.form.specs.declared.atoms.Sizes.{Sizes}
use Rattle.form.specs.Places.{atom_place, disjunct_place, Returned, Each, Held, AtomAt, GroupAt, arities_of, rules_of, rule_of, disjunct_of, atom_of, group_of, filled, no_row, atom_rows, atom_arities, atom_predicates, head_rows, head_arities, head_counts, atoms_of, sizes_of, disjunct_at}
use Rattle.form.proofs.Lists.{filled_more, padded_filled}
use Rattle.form.proofs.Places.{variables_place, predicate_place, few_disjuncts, no_atom, atom_stands, atom_read, disjunct_stands_is}

-- a loop has gone through k of the n elements of a list, at most four
pub record Turn {A : Type 0} (ys : List A) (n k : ℕ) : Type 0 where
  pub count : n ≡ length ys
  pub few : n ≤ 4
  pub within : k ≤ n

pub next_turn : {A : Type 0} {ys : List A} {n k : ℕ} → Turn ys n k → k < n → Turn ys n (k + 1)
next_turn t h = record { count = t.count; few = t.few; within = omega arith }

-- what stands at a place of what is filled
pub filled_at_lem : {A B : Type 0} (g : A → B) (z : B) (ys : List A) (d : ℕ) (y : A) (w : B) → d < length ys → get_or (filled 4 z (map g ys)) d w ≡ g (get_or ys d y)
unfolding filled
filled_at_lem g z ys d y w h = get_or-append (map g ys) (replicate (4 - length (map g ys)) z) w d (omega (arith, length-map ys g)) ∙ get_d_map g ys d w y h

get_or_same : {A : Type 0} (n : ℕ) (z : A) (k : ℕ) → get_or (replicate n z) k z ≡ z
get_or_same n z k = elim (cases_lt k n) [ inl h ↦ get_or-replicate n k z z h | inr h ↦ get_or-eq_default (replicate n z) z (omega (arith, length-replicate n z)) ]

-- four values are those of a list and then z
pub each_filled : {A B : Type 0} (g : A → B) (z : B) (ys : List A) (d : A) {xs : List B} → length ys ≤ 4
    → Each (λ k x. x ≡ g (get_or ys k d)) (length ys) z xs → xs ≡ filled 4 z (map g ys)
unfolding filled
each_filled g z ys d {xs} few e =
    let many = length-map ys g in
    let four = e.four in
    let rest : ℕ = 4 - length (map g ys) in
    let long : length (filled 4 z (map g ys)) ≡ 4 = omega (arith, length-append (map g ys) (replicate rest z), length-replicate rest z) in
    ext_get_or z xs (filled 4 z (map g ys)) (four ∙ sym long)
    (λ i l.
    elim (cases_lt i (length ys)) [
      | inl h ↦ e.each i h ∙ sym (filled_at_lem g z ys i d z h)
      | inr h ↦ e.rest i h ∙ sym (get_or-append_right (map g ys) (replicate rest z) i z (omega arith) ∙ get_or_same rest z (i - length (map g ys)))
    ])

-- what was returned at the places of the atoms of a group, or of the disjuncts of a rule, where it is what g gives of them
pub atoms_returned : {B : Type 0} (g : Atom → B) (z : B) {post : Bor (List ℕ) → ℕ → B → Type 0} {form : List ℕ} {at : ℕ} {xs : List B} → GroupAt form at
    → Each (λ k. Returned post form (atom_place at k)) (length (group_of form at)) z xs
    → ((lent : Bor (List ℕ)) (p : ℕ) (x : B) → post lent p x → x ≡ g (atom_of lent.now p)) → xs ≡ filled 4 z (map g (group_of form at))
atoms_returned g z {form = form} {at = at} r e says =
    let few = r.atoms.few in
    each_filled g z (group_of form at) no_atom few
    (record {
      four = e.four;
      each = λ k h. let x = e.each k h in atom_read r k h refl g (says x.lent (atom_place at k) _ x.by ∙ ap (λ (f : List ℕ). g (atom_of f (atom_place at k))) x.same);
      rest = e.rest;
    })

pub disjuncts_returned : {B : Type 0} (g : List Atom → B) (z : B) {post : Bor (List ℕ) → ℕ → B → Type 0} {form : List ℕ} {i : ℕ} {xs : List B}
    → Held form × (i < length (rules_of form))
    → Each (λ d. Returned post form (disjunct_place i d)) (length (rule_of form i).head) z xs
    → ((lent : Bor (List ℕ)) (p : ℕ) (x : B) → post lent p x → x ≡ g (group_of lent.now p)) → xs ≡ filled 4 z (map g (rule_of form i).head)
unfolding disjunct_of
disjuncts_returned g z {form = form} {i = i} r e says =
    each_filled g z (rule_of form i).head [] (few_disjuncts form r.0 i r.1)
    (record {
      four = e.four;
      each = λ d h. let x = e.each d h in says x.lent (disjunct_place i d) _ x.by ∙ ap (λ (f : List ℕ). g (group_of f (disjunct_place i d))) x.same ∙ ap g (disjunct_stands_is (r.0, r.1, h) refl).1;
      rest = e.rest;
    })

-- the turns of a loop over the atoms of a group, and of one over the disjuncts of a rule

module _ {form : List ℕ} {at : ℕ} (r : GroupAt form at) {n : ℕ} where
  pub first_atom : n ≡ length (group_of form at) → Turn (group_of form at) n 0
  first_atom e = record { count = e; few = omega (arith, r.atoms.few); within = omega arith }

  pub atom_turn : {k p : ℕ} → Turn (group_of form at) n k → k < n → p ≡ atom_place at k → AtomAt form p
  atom_turn {k} t h e = atom_stands r k (omega arith) e

pub first_disjunct : {form : List ℕ} {i n : ℕ} → Held form × (i < length (rules_of form)) → n ≡ length (rule_of form i).head → Turn (rule_of form i).head n 0
first_disjunct {form} {i} r e = record { count = e; few = omega (arith, few_disjuncts form r.0 i r.1); within = omega arith }

-- structs are alike part by part

ap₃ : {A B C D : Type 0} (f : A → B → C → D) {a a' : A} {b b' : B} {c c' : C} → a ≡ a' → b ≡ b' → c ≡ c' → f a b c ≡ f a' b' c'
ap₃ {A} {B} f {a' = a'} {b' = b'} {c = c} p q r = ap₂ (λ (x : A) (y : B). f x y c) p q ∙ ap (f a' b') r

abbrev atoms : List (List ℕ) → List ℕ → ℕ → Atoms
atoms rows arities count = record { rows = rows; arities = arities; count = count }

abbrev sizes : List (List ℕ) → List ℕ → ℕ → Sizes
sizes arities counts count = record { arities = arities; counts = counts; count = count }

pub atoms_are : {rows rows' : List (List ℕ)} {arities arities' : List ℕ} {count count' : ℕ} → rows ≡ rows' → arities ≡ arities' → count ≡ count'
    → atoms rows arities count ≡ atoms rows' arities' count'
atoms_are p q r = ap₃ atoms p q r

pub sizes_are : {arities arities' : List (List ℕ)} {counts counts' : List ℕ} {count count' : ℕ} → arities ≡ arities' → counts ≡ counts' → count ≡ count'
    → sizes arities counts count ≡ sizes arities' counts' count'
sizes_are p q r = ap₃ sizes p q r

-- a rule's head by disjuncts: at d stand the rows, the arities and the count of atoms of disjunct d

module _ (form : List ℕ) (i d : ℕ) (h : d < length (rule_of form i).head) where
  pub head_rows_is : {xs : List (List (List ℕ))} → xs ≡ head_rows (rule_of form i).head → (w : List (List ℕ)) → get_or xs d w ≡ atom_rows (disjunct_of form i d)
  unfolding head_rows disjunct_of
  head_rows_is e w = ap (λ (ys : List (List (List ℕ))). get_or ys d w) e ∙ filled_at_lem atom_rows (replicate 4 no_row) (rule_of form i).head d [] w h

  pub head_arities_is : {xs : List (List ℕ)} → xs ≡ head_arities (rule_of form i).head → (w : List ℕ) → get_or xs d w ≡ atom_arities (disjunct_of form i d)
  unfolding head_arities disjunct_of
  head_arities_is e w = ap (λ (ys : List (List ℕ)). get_or ys d w) e ∙ filled_at_lem atom_arities (replicate 4 0) (rule_of form i).head d [] w h

  pub head_count : {xs : List ℕ} → xs ≡ head_counts (rule_of form i).head → (w : ℕ) → get_or xs d w ≡ length (disjunct_of form i d)
  unfolding head_counts disjunct_of
  head_count e w = ap (λ (ys : List ℕ). get_or ys d w) e ∙ filled_at_lem length 0 (rule_of form i).head d [] w h

  -- as the code takes them together
  pub head_disjunct_is : {head : List (List (List ℕ))} {sizes : Sizes} → head ≡ head_rows (rule_of form i).head → sizes ≡ sizes_of (rule_of form i).head
      → disjunct_at head sizes d ≡ atoms_of (disjunct_of form i d)
  head_disjunct_is e f = atoms_are (head_rows_is e []) (head_arities_is (ap (λ (s : Sizes). s.arities) f) []) (head_count (ap (λ (s : Sizes). s.counts) f) 0)

-- the predicate of an atom is the first number of its row
pub predicates_rows : (as' : List Atom) (d : ℕ) → d < length as' → get_or (get_or (atom_rows as') d []) 0 0 ≡ get_or (atom_predicates as') d 0
unfolding atom_rows atom_predicates atom_row padded
predicates_rows as' d h =
    ap (λ (row : List ℕ). get_or row 0 0) (filled_at_lem atom_row no_row as' d no_atom [] h) ∙ sym (filled_at_lem (λ (a : Atom). a.predicate) 0 as' d no_atom 0 h)

-- the row of an atom, number by number

pub row_first : (form : List ℕ) (at p : ℕ) → p ∷ 0 ∷ 0 ∷ 0 ∷ 0 ∷ [] ≡ filled fact_width 0 (p ∷ numbers_from form at 0)
unfolding filled numbers_from
row_first form at p = refl

pub row_more : (form : List ℕ) (at k p : ℕ) → k < 4
    → set (filled fact_width 0 (p ∷ numbers_from form at k)) (k + 1) (get_or form (at + k) 0) ≡ filled fact_width 0 (p ∷ numbers_from form at (k + 1))
row_more form at k p h =
    filled_more fact_width 0 (p ∷ numbers_from form at k) (k + 1) (get_or form (at + k) 0) (omega (arith, length_numbers_from form at k)) (omega arith)
    ∙ ap (λ (vs : List ℕ). filled fact_width 0 (p ∷ vs)) (sym (numbers_from_more form at k) ∙ ap (numbers_from form at) (sym (add-one k)))

pub row_last : (form : List ℕ) (at k : ℕ) → k ≡ get_or (arities_of form) (get_or form at 0) 0
    → filled fact_width 0 (get_or form at 0 ∷ numbers_from form (at + 1) k) ≡ atom_row (atom_of form at)
unfolding atom_row
row_last form at k e =
    ap₂ (λ (p : ℕ) (vs : List ℕ). filled fact_width 0 (p ∷ vs)) (sym (predicate_place form at))
    (ap₂ (numbers_from form) (add-one at) e ∙ sym (variables_place form at))
    ∙ sym (padded_filled fact_width ((atom_of form at).predicate ∷ (atom_of form at).variables))

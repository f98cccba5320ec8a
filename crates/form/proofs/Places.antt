-- Where a form has its counts, arities, rules, disjuncts and atoms; a well-formed form has well-formed ones there. Assumes nothing.
use mathlib.Core.Path.{◌≡◌, refl, sym, ap, ◌∙◌, subst}
use mathlib.Core.List.{List, []}
use Prim.Native.Nat.{ℕ, suc, ◌+◌, ◌*◌, ◌≤◌, ◌<◌}
use native.Mathlib.Omega.{arith}
use lib.ListN.{length, get_or}
use Rattle.model.specs.Lists.{numbers_from}
use Rattle.model.specs.Rules.{Atom, Rule}
use Rattle.model.specs.WellFormed.{WellFormedAtom, WellFormedAtoms, WellFormedRule}
use Rattle.model.specs.Limits.{predicate_limit, rule_limit, fact_width}
use Rattle.model.specs.Form.{group_width, rule_width, arities_place, spaced, decoded, atom_at, group_at, rule_at}
use Rattle.laws.proofs.WellFormed.{predicates_few}
use Rattle.laws.proofs.Lists.{get_or_mem}
use Rattle.laws.proofs.Places.{length_numbers_from, get_or_numbers_from, length_spaced}
use Rattle.form.specs.Places.{rule_place, body_place, disjunct_place, atom_place, arity_place, Held, arities_of, rules_of, rule_of, disjunct_of, atom_of, group_of, AtomAt, GroupAt}
use Rattle.form.proofs.Lists.{get_or_spaced}

abbrev pub no_atom : Atom
no_atom = record { predicate = 0; variables = [] }

module _ (form : List ℕ) where
  pub count_predicates : length (arities_of form) ≡ get_or form 0 0
  unfolding arities_of decoded
  count_predicates = length_numbers_from form arities_place (get_or form 0 0)

  pub arity_place_is : (p : ℕ) → p < length (arities_of form) → get_or (arities_of form) p 0 ≡ get_or form (arity_place p) 0
  unfolding arities_of decoded
  arity_place_is p h = get_or_numbers_from form arities_place (get_or form 0 0) p (omega (arith, length_numbers_from form arities_place (get_or form 0 0)))

  pub count_rules : length (rules_of form) ≡ get_or form 1 0
  unfolding rules_of decoded
  count_rules = length_spaced (rule_at form (numbers_from form arities_place (get_or form 0 0))) rule_width (get_or form 1 0) 2

  pub rule_place_is : (i : ℕ) → i < length (rules_of form) → rule_of form i ≡ rule_at form (arities_of form) (rule_place i)
  unfolding rule_of rules_of arities_of decoded
  rule_place_is i h =
      get_or_spaced (rule_at form (numbers_from form arities_place (get_or form 0 0))) rule_width (get_or form 1 0) 2 i (record { body = []; head = [] }) (omega (arith, count_rules))

  pub body_place_is : (i : ℕ) → i < length (rules_of form) → (rule_of form i).body ≡ group_of form (body_place i)
  unfolding rule_at group_of
  body_place_is i h =
      let e : suc (rule_place i) ≡ body_place i = omega arith in
      ap (λ (r : Rule). r.body) (rule_place_is i h) ∙ ap (group_at form (arities_of form)) e

  pub head_place : (i : ℕ) → i < length (rules_of form) → (rule_of form i).head ≡ spaced (group_of form) group_width (get_or form (rule_place i) 0) (rule_place i + 22)
  unfolding rule_at group_of
  head_place i h = ap (λ (r : Rule). r.head) (rule_place_is i h)

  pub count_disjuncts : (i : ℕ) → i < length (rules_of form) → length (rule_of form i).head ≡ get_or form (rule_place i) 0
  count_disjuncts i h = ap length (head_place i h) ∙ length_spaced (group_of form) group_width (get_or form (rule_place i) 0) (rule_place i + 22)

  pub disjunct_place_is : (i d : ℕ) → i < length (rules_of form) → d < length (rule_of form i).head → disjunct_of form i d ≡ group_of form (disjunct_place i d)
  unfolding disjunct_of
  disjunct_place_is i d h k =
      let e : rule_place i + 22 + d * group_width ≡ disjunct_place i d = omega arith in
      ap (λ (ds : List (List Atom)). get_or ds d []) (head_place i h)
      ∙ get_or_spaced (group_of form) group_width (get_or form (rule_place i) 0) (rule_place i + 22) d [] (omega (arith, count_disjuncts i h))
      ∙ ap (group_of form) e

  pub atoms_place : (at : ℕ) → group_of form at ≡ spaced (atom_of form) fact_width (get_or form at 0) (suc at)
  unfolding group_of group_at atom_of
  atoms_place at = refl

  pub count_atoms : (at : ℕ) → length (group_of form at) ≡ get_or form at 0
  count_atoms at = ap length (atoms_place at) ∙ length_spaced (atom_of form) fact_width (get_or form at 0) (suc at)

  pub variables_place : (at : ℕ) → (atom_of form at).variables ≡ numbers_from form (suc at) (get_or (arities_of form) (get_or form at 0) 0)
  unfolding atom_of atom_at
  variables_place at = refl

  pub predicate_place : (at : ℕ) → (atom_of form at).predicate ≡ get_or form at 0
  unfolding atom_of atom_at
  predicate_place at = refl

  pub count_variables : (at : ℕ) → length (atom_of form at).variables ≡ get_or (arities_of form) (get_or form at 0) 0
  count_variables at = ap length (variables_place at) ∙ length_numbers_from form (suc at) (get_or (arities_of form) (get_or form at 0) 0)

  -- the parts of a well-formed form

  module _ (h : Held form) where
    pub arity_range : (p : ℕ) → p < length (arities_of form) → (1 ≤ get_or (arities_of form) p 0) × (get_or (arities_of form) p 0 ≤ 4)
    unfolding arities_of
    arity_range p l = h.sound.arities (get_or (arities_of form) p 0) (get_or_mem (arities_of form) p 0 l)

    pub few_predicates : length (arities_of form) ≤ predicate_limit
    unfolding arities_of
    few_predicates = predicates_few h.sound

    pub few_rules : length (rules_of form) ≤ rule_limit
    unfolding rules_of
    few_rules = h.sound.short

    pub rule_well_formed : (i : ℕ) → i < length (rules_of form) → WellFormedRule (arities_of form) (rule_of form i)
    unfolding arities_of rules_of rule_of
    rule_well_formed i l = h.sound.rules (rule_of form i) (get_or_mem (rules_of form) i (record { body = []; head = [] }) l)

    pub few_disjuncts : (i : ℕ) → i < length (rules_of form) → length (rule_of form i).head ≤ 4
    few_disjuncts i l = (rule_well_formed i l).few

    pub disjunct_well_formed : (i d : ℕ) → i < length (rules_of form) → d < length (rule_of form i).head → WellFormedAtoms (arities_of form) (disjunct_of form i d)
    unfolding disjunct_of
    disjunct_well_formed i d l m = (rule_well_formed i l).each (disjunct_of form i d) (get_or_mem (rule_of form i).head d [] m)

    pub body_group : (i : ℕ) → i < length (rules_of form) → GroupAt form (body_place i)
    body_group i l =
        record {
          held = h;
          room = omega (arith, h.room, few_rules);
          atoms = subst (WellFormedAtoms (arities_of form)) (body_place_is i l) (rule_well_formed i l).body;
        }

    pub disjunct_group : (i d : ℕ) → i < length (rules_of form) → d < length (rule_of form i).head → GroupAt form (disjunct_place i d)
    disjunct_group i d l m =
        record {
          held = h;
          room = omega (arith, h.room, few_rules, few_disjuncts i l);
          atoms = subst (WellFormedAtoms (arities_of form)) (disjunct_place_is i d l m) (disjunct_well_formed i d l m);
        }

  -- the parts of a well-formed group and atom

  pub few_atoms : (at : ℕ) → GroupAt form at → get_or form at 0 ≤ 4
  few_atoms at g = let l = g.atoms.few in omega (arith, count_atoms at)

  pub atom_place_is : (at k : ℕ) → k < length (group_of form at) → get_or (group_of form at) k no_atom ≡ atom_of form (atom_place at k)
  atom_place_is at k l =
      let e : suc at + k * fact_width ≡ atom_place at k = omega arith in
      ap (λ (as' : List Atom). get_or as' k no_atom) (atoms_place at)
      ∙ get_or_spaced (atom_of form) fact_width (get_or form at 0) (suc at) k no_atom (omega (arith, count_atoms at))
      ∙ ap (atom_of form) e

  module _ (at : ℕ) (g : AtomAt form at) where
    pub atom_declared : get_or form at 0 < length (arities_of form)
    unfolding atom_of atom_at
    atom_declared = g.atom.declared

    pub few_variables : length (atom_of form at).variables ≤ 4
    few_variables = omega (arith, count_variables at, (arity_range g.held (get_or form at 0) atom_declared).1)

    pub variable_range : (k : ℕ) → k < length (atom_of form at).variables → get_or form (at + 1 + k) 0 ≤ 7
    variable_range k l =
        let n : ℕ = get_or (arities_of form) (get_or form at 0) 0 in
        let e : suc at + k ≡ at + 1 + k = omega arith in
        let p : get_or (atom_of form at).variables k 0 ≡ get_or form (at + 1 + k) 0 =
        ap (λ (vs : List ℕ). get_or vs k 0) (variables_place at) ∙ get_or_numbers_from form (suc at) n k (omega (arith, count_variables at))
        ∙ ap (λ (q : ℕ). get_or form q 0) e
        in
        let h = g.atom.range (get_or (atom_of form at).variables k 0) (get_or_mem (atom_of form at).variables k 0 l) in
        omega arith

-- The laws that the functions cite, over a place that the code has computed, and over what is read there: the body and a disjunct of a rule,
-- and an atom of a group.

module _ {form : List ℕ} {i : ℕ} (r : Held form × (i < length (rules_of form))) where
  pub rule_below : i < rule_limit
  rule_below = omega (arith, few_rules form r.0)

  pub body_stands : {at : ℕ} → at ≡ body_place i → GroupAt form at × (group_of form at ≡ (rule_of form i).body)
  body_stands e = rw e (body_group form r.0 i r.1, sym (body_place_is form i r.1))

module _ {form : List ℕ} {i d : ℕ} (r : Held form × (i < length (rules_of form)) × (d < length (rule_of form i).head)) where
  pub disjunct_below : (i < rule_limit) × (d < 4)
  disjunct_below = (omega (arith, few_rules form r.0), omega (arith, few_disjuncts form r.0 i r.1))

  pub disjunct_stands_is : {at : ℕ} → at ≡ disjunct_place i d → GroupAt form at × (group_of form at ≡ disjunct_of form i d)
  disjunct_stands_is e = rw e (disjunct_group form r.0 i d r.1 r.2, sym (disjunct_place_is form i d r.1 r.2))

module _ {form : List ℕ} {at : ℕ} (r : GroupAt form at) (k : ℕ) (l : k < length (group_of form at)) {p : ℕ} (e : p ≡ atom_place at k) where
  atom_same : get_or (group_of form at) k no_atom ≡ atom_of form p
  atom_same = atom_place_is form at k l ∙ ap (atom_of form) (sym e)

  pub atom_stands : AtomAt form p
  atom_stands =
      let few = few_atoms form at r in
      let room = r.room in
      record {
        held = r.held;
        room = omega (arith, count_atoms form at);
        atom = subst (WellFormedAtom (arities_of form)) atom_same (r.atoms.each (get_or (group_of form at) k no_atom) (get_or_mem (group_of form at) k no_atom l));
      }

  pub atom_read : {A : Type 0} (g : Atom → A) {x : A} → x ≡ g (atom_of form p) → x ≡ g (get_or (group_of form at) k no_atom)
  atom_read g x = x ∙ ap g (sym atom_same)

-- What the search asks of a body and the facts holds of a case. Assumes nothing.
use mathlib.Core.Path.{◌≡◌, refl, ap}
use mathlib.Core.Bool.{Bool, true, ◌&&◌}
use mathlib.Core.List.{List}
use Prim.Native.Nat.{ℕ, zero, suc, ◌<◌}
use lib.Dec.{leb, ltb}
use borrow.Author.Tests.{leb-true, ltb-true}
use Rattle.laws.proofs.Bools.{and_true}
use Rattle.laws_triggers.specs.Match.{all_below, Body, atom_of, arity_of, variable_of, Small, Searchable}
use Rattle.laws_triggers.proofs.Below.{all_below_lem}
use Rattle.test_triggers.specs.Cases.{every, right_atom, is_small, Case}

every_all : (n : ℕ) (q : ℕ → Bool) → all_below n q ≡ every n q
unfolding all_below
every_all zero q = refl
every_all (suc n) q = ap (λ (b : Bool). b && q n) (every_all n q)

every_below : (n : ℕ) (q : ℕ → Bool) → every n q ≡ true → (i : ℕ) → i < n → q i ≡ true
every_below n q h = all_below_lem n q (cc (every_all n q))

small : (b : Body) → is_small b ≡ true → Small b
small b h =
    let (few, atoms) = and_true (leb b.count 4) (every b.count (right_atom b)) h in
    let right = every_below b.count (right_atom b) atoms in
    record {
      few = leb-true b.count 4 few;
      arity = λ i l. let (x, y) = and_true (leb 1 (arity_of b i)) (leb (arity_of b i) 4) (parts i (right i l)).0 in (leb-true 1 (arity_of b i) x, leb-true (arity_of b i) 4 y);
      variables = λ i p l m. ltb-true (variable_of (atom_of b i) p) 8 (every_below (arity_of b i) (λ (p : ℕ). ltb (variable_of (atom_of b i) p) 8) (parts i (right i l)).1 p m);
    }
  where
    parts : (i : ℕ) → right_atom b i ≡ true → (leb 1 (arity_of b i) && leb (arity_of b i) 4 ≡ true) × (every (arity_of b i) (λ (p : ℕ). ltb (variable_of (atom_of b i) p) 8) ≡ true)
    parts i e = and_true (leb 1 (arity_of b i) && leb (arity_of b i) 4) (every (arity_of b i) (λ (p : ℕ). ltb (variable_of (atom_of b i) p) 8)) e

pub case_searchable : {b : Body} {facts : List ℕ} {n terms : ℕ} → Case b facts n terms → Searchable b facts n terms
case_searchable {b} c = record { body = small b c.body; room = c.room; some = c.some }

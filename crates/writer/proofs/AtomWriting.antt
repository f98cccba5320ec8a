-- Atoms, as they are written. Assumes nothing.
use mathlib.Core.Path.{◌≡◌, refl, sym, ap, ◌∙◌, subst}
use mathlib.Core.Bool.{Bool}
use mathlib.Core.List.{List, [], ◌∷◌, ◌++◌}
use Prim.Native.Nat.{ℕ, suc, ◌+◌, ◌-◌, ◌<◌}
use native.Mathlib.Omega.{arith}
use lib.ListN.{length, get_or}
use Rattle.model.specs.Lists.{numbers_from, collect}
use Rattle.model.specs.Rules.{wide}
use Rattle.model.specs.Format.{Parsed, and_then, many, byte, number, variable, signed, atom, atoms, number_bytes, atom_bytes, atoms_bytes}
use Rattle.model.specs.Form.{spaced, atom_at, group_at}
use Rattle.laws.proofs.Places.{get_or_numbers_from, length_numbers_from, length_spaced}
use Rattle.form_variables.specs.Sets.{set_of}
use Rattle.std.specs.Prelude.{Result, Ok, Err, ⊤}
use Rattle.refusal.specs.declared.Refused.{Refused}
use Rattle.parsing.specs.Step.{none, atom_set, atoms_set}
use Rattle.parsing.specs.declared.Parsed.{Parsed as Read}
use Rattle.writer.specs.Writes.{value, Writes}
use Rattle.writer.proofs.Writing.{writes_refused, writes_then, writes_exact, writes_map, writes_as}
use Rattle.writer.proofs.Numbers.{number_value}

module _ (form : List ℕ) (version n at i v : ℕ) (before mid : List ℕ) where
  abbrev arities : List ℕ
  arities = numbers_from form 6786 n

  abbrev w : Bool
  w = wide version

  module _ (here : v ≡ get_or form at 0) where
    abbrev arity : ℕ
    arity = get_or arities v 0

    atom_spelled : number_bytes w v ++ numbers_from form (at + 1) arity ≡ atom_bytes w (atom_at form arities at)
    unfolding atom_bytes atom_at
    atom_spelled = let o : at + 1 ≡ suc at = omega arith in rw (o, here)

    -- the predicate, among those that are declared
    first : (r : Result (Read ⊤) Refused) → Writes none (λ bs. number w bs 0 (n - 1) 7 i) i (number_bytes w v) before r mid
        → Writes none (λ bs. number w bs 0 (length arities - 1) 7 i) i (number_bytes w v) before r mid
    first r h = rw (length_numbers_from form 6786 n) h

    pub atom_refused : (e : Refused) (after : List ℕ) → Writes none (λ bs. number w bs 0 (n - 1) 7 i) i (number_bytes w v) before (Err e) mid
        → Writes atom_set (λ bs. atom bs (signed version arities) i) i (atom_bytes w (atom_at form arities at)) before (Err e) after
    unfolding atom
    atom_refused e after h =
        writes_as atom_set _ i _ _ before _ after atom_spelled
        (writes_refused none atom_set (λ bs. number w bs 0 (length arities - 1) 7 i) _ i (number_bytes w v) (numbers_from form (at + 1) arity) before mid e after (first _ h))

    pub atom_written : (x : Read ⊤) (size : ℕ) (s : Result (Read ℕ) Refused) (after : List ℕ) → Writes none (λ bs. number w bs 0 (n - 1) 7 i) i (number_bytes w v) before (Ok x) mid
        → v < n → size ≡ get_or form (6786 + v) 0 → Writes set_of (λ bs. many size (variable bs) x.next) x.next (numbers_from form (at + 1) size) mid s after
        → Writes atom_set (λ bs. atom bs (signed version arities) i) i (atom_bytes w (atom_at form arities at)) before s after
    unfolding atom
    atom_written x size s after h l z f =
        writes_as atom_set _ i _ _ before s after atom_spelled
        (writes_exact none atom_set (λ bs. number w bs 0 (length arities - 1) 7 i) _ i (number_bytes w v) (numbers_from form (at + 1) arity) before mid x s after (first _ h) v
        (λ bs rest a d p. number_value v i w bs rest 0 (length arities - 1) 7 a x.next d p)
        (writes_map (λ (vs : List ℕ). record { predicate = v; variables = vs }) set_of atom_set (λ bs. many arity (variable bs) x.next) x.next _ mid s after (λ vs. refl)
        (subst (λ (k : ℕ). Writes set_of (λ bs. many k (variable bs) x.next) x.next (numbers_from form (at + 1) k) mid s after) fits f)))
      where
        fits : size ≡ arity
        fits = z ∙ sym (get_or_numbers_from form 6786 n v l)

-- a count, and so many values after it

module _ {A V : Type 0} (keep : List A → V) (p : List ℕ → ℕ → Parsed A) (at : ℕ → A) (spell : A → List ℕ) (w place low high refusal i v : ℕ) (before mid : List ℕ) where
  abbrev counted : List ℕ → Parsed (List A)
  counted bs = and_then (byte bs low high refusal i) (λ n j. many n (p bs) j)

  abbrev values : ℕ → List ℕ
  values n = collect spell (spaced at w n place)

  counted_spelled : (v ∷ []) ++ values v ≡ length (spaced at w v place) ∷ values v
  counted_spelled = ap (λ (x : ℕ). x ∷ values v) (sym (length_spaced at w v place))

  pub counted_refused : (e : Refused) (after : List ℕ) → Writes value (λ bs. byte bs low high refusal i) i (v ∷ []) before (Err e) mid
      → Writes keep counted i (length (spaced at w v place) ∷ values v) before (Err e) after
  counted_refused e after h = writes_as keep _ i _ _ before _ after counted_spelled (writes_refused value keep _ _ i (v ∷ []) _ before mid e after h)

  pub counted_written : (x : Read ℕ) (s : Result (Read V) Refused) (after : List ℕ) → Writes value (λ bs. byte bs low high refusal i) i (v ∷ []) before (Ok x) mid → x.value ≡ v
      → Writes keep (λ bs. many x.value (p bs) x.next) x.next (values x.value) mid s after → Writes keep counted i (length (spaced at w v place) ∷ values v) before s after
  counted_written x s after h same f =
      writes_as keep _ i _ _ before s after counted_spelled
      (writes_then value keep _ _ i (v ∷ []) _ before mid x s after h
      (λ a k.
      subst (λ (n : ℕ). Writes keep (λ bs. many n (p bs) x.next) x.next (values v) mid s after) (sym k)
      (subst (λ (n : ℕ). Writes keep (λ bs. many x.value (p bs) x.next) x.next (values n) mid s after) same f)))

module _ (form : List ℕ) (version : ℕ) (arities : List ℕ) (at i v : ℕ) (before mid : List ℕ) (here : v ≡ get_or form at 0) where
  group_spelled : length (spaced (atom_at form arities) 5 v (at + 1)) ∷ collect (atom_bytes (wide version)) (spaced (atom_at form arities) 5 v (at + 1)) ≡ atoms_bytes (wide version) (group_at form arities at)
  unfolding atoms_bytes group_at
  group_spelled = let o : at + 1 ≡ suc at = omega arith in rw (o, here)

  pub atoms_refused : (e : Refused) (after : List ℕ) → Writes value (λ bs. byte bs 1 4 6 i) i (v ∷ []) before (Err e) mid
      → Writes atoms_set (λ bs. atoms bs (signed version arities) i) i (atoms_bytes (wide version) (group_at form arities at)) before (Err e) after
  unfolding atoms
  atoms_refused e after h =
      writes_as atoms_set _ i _ _ before _ after group_spelled (counted_refused atoms_set (λ bs. atom bs (signed version arities)) (atom_at form arities) (atom_bytes (wide version)) 5 (at + 1) 1 4 6 i v before mid e after h)

  pub atoms_written : (x : Read ℕ) (s : Result (Read ℕ) Refused) (after : List ℕ) → Writes value (λ bs. byte bs 1 4 6 i) i (v ∷ []) before (Ok x) mid → x.value ≡ v
      → Writes atoms_set (λ bs. many x.value (atom bs (signed version arities)) x.next) x.next (collect (atom_bytes (wide version)) (spaced (atom_at form arities) 5 x.value (at + 1))) mid s after
      → Writes atoms_set (λ bs. atoms bs (signed version arities) i) i (atoms_bytes (wide version) (group_at form arities at)) before s after
  unfolding atoms
  atoms_written x s after h same f =
      writes_as atoms_set _ i _ _ before s after group_spelled
      (counted_written atoms_set (λ bs. atom bs (signed version arities)) (atom_at form arities) (atom_bytes (wide version)) 5 (at + 1) 1 4 6 i v before mid x s after h same f)

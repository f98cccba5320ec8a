-- The order of records inside a stage (document 02, C-11): what the next stage adds, each fact with the key that it is put in order by.
-- Assumes nothing.
use Rattle.std.specs.Prelude.{◌≡◌, true, false, ℕ, suc, ◌<◌}
use mathlib.Core.List.{List, [], ◌∷◌, ◌++◌, map, Memᴰ}
use Rattle.model.specs.Lists.{collect}
use Rattle.model.specs.Term.{Term}
use Rattle.model.specs.Rules.{Atom, Disjunct, Entry, universal}
use Rattle.model.specs.Triggers.{Fact, present, assign, instantiate, head_term}
use Rattle.model.specs.Blocking.{blocked}
use Rattle.model.specs.Stages.{Stage, triggers_in}
use Rattle.model.specs.Tables.{number}

-- one atom of one disjunct of one rule, for one trigger; the trigger as its term numbers in rising variable number
pub record Derivation : Type 0 where
  pub rule : ℕ
  pub trigger : List ℕ
  pub disjunct : ℕ
  pub atom : ℕ

-- a derivation, and the fact that it gives
pub record Derived : Type 0 where
  pub by : Derivation
  pub fact : Fact

-- rule, then trigger, then disjunct, then atom
unfoldable pub key : Derivation → List ℕ
key d = d.rule ∷ (d.trigger ++ (d.disjunct ∷ d.atom ∷ []))

-- the first numbers that differ decide
pub data Less : List ℕ → List ℕ → Type 0 where
  at_first : {x y : ℕ} {xs ys : List ℕ} → x < y → Less (x ∷ xs) (y ∷ ys)
  later : {x : ℕ} {xs ys : List ℕ} → Less xs ys → Less (x ∷ xs) (x ∷ ys)

abbrev pub Before : Derived → Derived → Type 0
Before x y = Less (key x.by) (key y.by)

-- element i of a list is x
pub data At {A : Type 0} : List A → ℕ → A → Type 0 where
  here : {x : A} {xs : List A} → At (x ∷ xs) 0 x
  there : {x y : A} {xs : List A} {i : ℕ} → At xs i x → At (y ∷ xs) (suc i) x

-- x is a derivation in the next stage, of a trigger that is not blocked
pub record IsDerivation (es : List Entry) (s : Stage) (x : Derived) : Type 0 where
  pub entry : Entry
  pub terms : List Term
  pub disjunct : Disjunct
  pub atom : Atom
  pub rule_at_is : At es x.by.rule entry
  pub known : Memᴰ terms (triggers_in s entry)
  pub free : blocked es entry terms ≡ false
  pub trigger_is : x.by.trigger ≡ map (number s.terms) terms
  pub disjunct_at : At entry.disjuncts x.by.disjunct disjunct
  pub atom_at_is : At disjunct.atoms x.by.atom atom
  pub gives : x.fact ≡ instantiate (head_term disjunct (assign (universal entry.rule) terms)) atom

-- what each element gives with its number, numbers from n on
module _ {A B : Type 0} where
  unfoldable pub numbered : (ℕ → A → List B) → ℕ → List A → List B
  numbered f n [] = []
  numbered f n (x ∷ xs) = f n x ++ numbered f (suc n) xs

-- the derivations of one trigger
unfoldable pub derived_by : ℕ → Entry → List ℕ → (ℕ → Term) → List Derived
derived_by i e m σ =
    numbered (λ j (d : Disjunct).
    numbered (λ k (a : Atom). record { by = record { rule = i; trigger = m; disjunct = j; atom = k }; fact = instantiate (head_term d σ) a } ∷ [])
    0 d.atoms) 0 e.disjuncts

-- all derivations
unfoldable pub derived : List Entry → Stage → List Derived
derived es s =
    numbered (λ i (e : Entry).
    collect (λ (m : List Term).
    elim (blocked es e m) [ true ↦ [] | false ↦ derived_by i e (map (number s.terms) m) (assign (universal e.rule) m) ]) (triggers_in s e)) 0 es

-- of each fact that is not among the given ones, the first derivation
unfoldable pub firsts : List Fact → List Derived → List Derived
firsts fs [] = []
firsts fs (x ∷ xs) = elim (present fs x.fact) [ true ↦ firsts fs xs | false ↦ x ∷ firsts (fs ++ (x.fact ∷ [])) xs ]

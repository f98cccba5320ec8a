-- Laws of terms: the test of equality is one, and lists of terms in their two forms agree, and numbers stay. Assumes nothing.
use mathlib.Core.Path.{◌≡◌, refl, sym, ap, ◌∙◌}
use mathlib.Core.Bool.{Bool, true, false}
use mathlib.Core.List.{List, [], ◌∷◌, Memᴰ, ◌++◌}
use Prim.Native.Nat.{ℕ, ◌<◌}
use native.Mathlib.Decide.{ℕ_discrete}
use native.Mathlib.Omega.{arith}
use lib.ListN.{length, get_or}
use lib.Seq.{ext_get_or}
use Rattle.model.specs.Term.{Position-discrete, Term, Terms, star, none, more, Term-discrete, same, list, terms}
use Rattle.model.specs.Tables.{number}
use Rattle.laws.proofs.Bools.{not_both}
use Rattle.laws.proofs.Lists.{Decides, index_append}

pub same_decides : Decides same
unfolding same
same_decides =
    record {
      sound = λ s t h. sound s t (Term-discrete ℕ_discrete (Position-discrete ℕ_discrete) s t) h;
      complete = λ t. complete t (Term-discrete ℕ_discrete (Position-discrete ℕ_discrete) t t);
    }
  where
    sound : (s t : Term) (d : Dec (s ≡ t)) → ◌≡◌ {A = Bool} (elim d [ yes e ↦ true | no e ↦ false ]) true → s ≡ t
    sound s t (yes e) h = e
    sound s t (no e) h = not_both false h refl

    complete : (t : Term) (d : Dec (t ≡ t)) → ◌≡◌ {A = Bool} (elim d [ yes e ↦ true | no e ↦ false ]) true
    complete t (yes e) = refl
    complete t (no e) = absurd (e refl)

pub list_terms : (ts : List Term) → list (terms ts) ≡ ts
unfolding list terms
list_terms [] = refl
list_terms (t ∷ ts) = ap (λ (us : List Term). t ∷ us) (list_terms ts)

pub terms_list : (ts : Terms) → terms (list ts) ≡ ts
unfolding list terms
terms_list none = refl
terms_list (more t ts) = ap (more t) (terms_list ts)

pub terms_injective : (us vs : Terms) → list us ≡ list vs → us ≡ vs
terms_injective us vs e = sym (terms_list us) ∙ ap terms e ∙ terms_list vs

-- terms that are the same place by place
pub ext_terms : (ts us : Terms) → length (list ts) ≡ length (list us)
    → ((k : ℕ) → k < length (list us) → get_or (list ts) k star ≡ get_or (list us) k star) → ts ≡ us
ext_terms ts us e h = terms_injective ts us (ext_get_or star (list ts) (list us) e (λ k l. h k (omega arith)))

-- further terms leave the numbers of the first as they are
pub number_append : (t : Term) (ts us : List Term) → Memᴰ t ts → number (ts ++ us) t ≡ number ts t
unfolding number
number_append t ts us m = index_append same same_decides t ts us m

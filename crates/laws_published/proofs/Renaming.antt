-- What `rename` and `renamed` compute is the published renaming. Assumes nothing.
use mathlib.Core.Path.{◌≡◌, refl, sym, ap, ◌∙◌, subst}
use mathlib.Core.Bool.{true, false}
use mathlib.Core.Logic.{◌↔◌, ◌⊎◌, inl, inr}
use mathlib.Core.List.Memᴰ
use mathlib.Core.List.{List, [], ◌∷◌, Memᴰ}
use Prim.Native.Nat.{ℕ, zero, suc, ◌+◌, ◌≤◌, ◌<◌}
use native.Mathlib.Nat.{add-zero, zero-add}
use native.Mathlib.Omega.{arith}
use lib.Dec.{eqb}
use lib.ListN.{length, get_or}
use borrow.Author.Tests.{eqb-true, eqb-false}
use Rattle.model.specs.Term.{Position, root, child, Term, Terms, star, constant, fixed, apart, fresh, skolem, none, more, list, functions, is_fixed}
use Rattle.model.specs.Rules.{Rule, universal}
use Rattle.model.specs.Triggers.{assign}
use Rattle.model.specs.Blocking.{rename, rename_all, renamed}
use Rattle.model.specs.Published.{Substitution, Renamed, renamed_constant, renamed_fixed, renamed_skolem, Apart}
use Rattle.laws.proofs.Bools.{case, not_both}
use Rattle.laws.proofs.Lists.{mem_get_or, get_or_mem}
use Rattle.laws.proofs.Terms.{ext_terms}
use Rattle.laws.proofs.Rules.{universal_distinct}
use Rattle.laws.proofs.Triggers.{map_agree, assign_here, assign_there, assign_all}

-- `rename_all`, place by place

pub rename_all_length : (ts : Terms) (p : Position) (k : ℕ) → length (list (rename_all ts p k)) ≡ length (list ts)
unfolding rename_all list
rename_all_length none p k = refl
rename_all_length (more t ts) p k = ap suc (rename_all_length ts p (suc k))

rename_all_at : (ts : Terms) (p : Position) (k i : ℕ) → i < length (list ts) → get_or (list (rename_all ts p k)) i star ≡ rename (get_or (list ts) i star) (child p (k + i))
unfolding rename_all list
rename_all_at none p k i h = absurd (omega arith)
rename_all_at (more t ts) p k zero h = ap (λ (j : ℕ). rename t (child p j)) (sym (add-zero k))
rename_all_at (more t ts) p k (suc i) h =
    rename_all_at ts p (suc k) i (omega arith) ∙ ap (λ (j : ℕ). rename (get_or (list ts) i star) (child p j)) (omega arith)

pub rename_all_mem : (ts : Terms) (p : Position) (k : ℕ) {x : Term} → Memᴰ x (list (rename_all ts p k))
    → (t : Term) × Memᴰ t (list ts) × ((j : ℕ) × (k ≤ j) × (x ≡ rename t (child p j)))
rename_all_mem ts p k m =
    let (i, l, e) = mem_get_or star m in
    let n = rename_all_length ts p k in
    let h : i < length (list ts) = omega arith in
    (get_or (list ts) i star, get_or_mem (list ts) i star h, (k + i, omega arith, sym e ∙ rename_all_at ts p k i h))

-- τ_v

rename_constant : (t : Term) (p : Position) → functions t ≡ [] → is_fixed t ≡ false → apart p ≡ rename t p
unfolding rename functions is_fixed
rename_constant star p e h = refl
rename_constant (constant c) p e h = refl
rename_constant (fixed c) p e h = not_both true refl h
rename_constant (apart q) p e h = refl
rename_constant (fresh t v) p e h = refl
rename_constant (skolem f ts) p e h = cc

renamed_unique : {t s : Term} {p : Position} → Renamed t p s → s ≡ rename t p
unfolding rename
renamed_unique {t} {p = p} (renamed_constant n h) = rename_constant t p n h
renamed_unique renamed_fixed = refl
renamed_unique (renamed_skolem {f} {ts} {us} {p} l h) = go (λ k i. renamed_unique (h k i))
  where
    go : ((k : ℕ) → k < length (list ts) → get_or (list us) k star ≡ rename (get_or (list ts) k star) (child p k)) → skolem f us ≡ skolem f (rename_all ts p 0)
    go below =
        ap (skolem f)
        (ext_terms us (rename_all ts p 0) (l ∙ sym (rename_all_length ts p 0))
        (λ k i.
        let n = rename_all_length ts p 0 in
        below k (omega arith) ∙ sym (rename_all_at ts p 0 k (omega arith) ∙ ap (λ (j : ℕ). rename (get_or (list ts) k star) (child p j)) (zero-add k))))

mutual
  unfolding rename rename_all list functions is_fixed

  rename_renamed : (t : Term) (p : Position) → Renamed t p (rename t p)
  rename_renamed star p = renamed_constant refl refl
  rename_renamed (constant c) p = renamed_constant refl refl
  rename_renamed (fixed c) p = renamed_fixed
  rename_renamed (apart q) p = renamed_constant refl refl
  rename_renamed (fresh t v) p = renamed_constant refl refl
  rename_renamed (skolem f ts) p =
      renamed_skolem (rename_all_length ts p 0)
      (λ k h. subst (λ (j : ℕ). Renamed (get_or (list ts) k star) (child p j) (get_or (list (rename_all ts p 0)) k star)) (zero-add k) (rename_all_renamed ts p 0 k h))

  rename_all_renamed : (ts : Terms) (p : Position) (k i : ℕ) → i < length (list ts)
      → Renamed (get_or (list ts) i star) (child p (k + i)) (get_or (list (rename_all ts p k)) i star)
  rename_all_renamed none p k i h = absurd (omega arith)
  rename_all_renamed (more t ts) p k zero h = subst (λ (j : ℕ). Renamed t (child p j) (rename t (child p k))) (sym (add-zero k)) (rename_renamed t (child p k))
  rename_all_renamed (more t ts) p k (suc i) h =
      subst (λ (j : ℕ). Renamed (get_or (list ts) i star) (child p j) (get_or (list (rename_all ts p (suc k))) i star)) (omega arith) (rename_all_renamed ts p (suc k) i (omega arith))

pub rename_is_published : (t : Term) (p : Position) (s : Term) → (rename t p ≡ s) ↔ Renamed t p s
rename_is_published t p s = (λ e. subst (Renamed t p) e (rename_renamed t p), λ h. sym (renamed_unique h))

-- θ_u

pub renamed_length : (vs : List ℕ) (m : List Term) → length m ≡ length vs → length (renamed vs m) ≡ length vs
unfolding renamed
renamed_length [] m e = refl
renamed_length (v ∷ vs) [] e = absurd (omega arith)
renamed_length (v ∷ vs) (t ∷ m) e = ap suc (renamed_length vs m (omega arith))

renamed_value : (vs : List ℕ) (m : List Term) {v : ℕ} → length m ≡ length vs → Memᴰ v vs → assign vs (renamed vs m) v ≡ rename (assign vs m v) (root v)
unfolding renamed
renamed_value [] m e k = absurd (Memᴰ.not-nil k)
renamed_value (u ∷ us) [] e k = absurd (omega arith)
renamed_value (u ∷ us) (t ∷ m) {v} e k = go (λ i. renamed_value us m (omega arith) i) (case (eqb u v)) (Memᴰ.cases_cons k)
  where
    go : (Memᴰ v us → assign us (renamed us m) v ≡ rename (assign us m v) (root v)) → (eqb u v ≡ true) ⊎ (eqb u v ≡ false) → (v ≡ u) ⊎ Memᴰ v us
        → assign (u ∷ us) (rename t (root u) ∷ renamed us m) v ≡ rename (assign (u ∷ us) (t ∷ m) v) (root v)
    go below (inl i) j =
        assign_here u v us (rename t (root u)) (renamed us m) (eqb-true u v i) ∙ ap (λ (x : ℕ). rename t (root x)) (eqb-true u v i)
        ∙ ap (λ (x : Term). rename x (root v)) (sym (assign_here u v us t m (eqb-true u v i)))
    go below (inr i) (inl j) = absurd (eqb-false u v i (sym j))
    go below (inr i) (inr j) =
        assign_there u v us (rename t (root u)) (renamed us m) (eqb-false u v i) ∙ below j
        ∙ ap (λ (x : Term). rename x (root v)) (sym (assign_there u v us t m (eqb-false u v i)))

module _ (r : Rule) (m : List Term) (sub : Substitution r m) where
  renamed_apart : Apart r m (renamed (universal r) m)
  renamed_apart =
      record {
        total = renamed_length (universal r) m sub;
        each = λ v k. (rename_is_published (assign (universal r) m v) (root v) (assign (universal r) (renamed (universal r) m) v)).0 (sym (renamed_value (universal r) m sub k));
      }

  apart_unique : (u : List Term) → Apart r m u → renamed (universal r) m ≡ u
  apart_unique u a =
      sym (assign_all (universal_distinct r) (renamed (universal r) m) (renamed_length (universal r) m sub))
      ∙ map_agree (assign (universal r) (renamed (universal r) m)) (assign (universal r) u) (universal r)
      (λ v k. renamed_value (universal r) m sub k ∙ (rename_is_published (assign (universal r) m v) (root v) (assign (universal r) u v)).1 (a.each v k))
      ∙ assign_all (universal_distinct r) u a.total

  pub renamed_is_published : (u : List Term) → (renamed (universal r) m ≡ u) ↔ Apart r m u
  renamed_is_published u = (λ e. subst (Apart r m) e renamed_apart, apart_unique u)

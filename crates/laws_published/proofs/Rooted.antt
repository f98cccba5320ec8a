-- Terms all of whose leaves are occurrences in one variable's term: renaming gives such terms. Assumes nothing.
use mathlib.Core.Path.{◌≡◌, sym, ◌∙◌, subst}
use mathlib.Core.Logic.{◌⊎◌, inl, inr}
use mathlib.Core.List.Memᴰ
use mathlib.Core.List.{Memᴰ}
use Prim.Native.Nat.{ℕ, ◌≤◌, ◌<◌}
use native.Mathlib.Omega.{arith}
use lib.ListN.{length, get_or}
use Rattle.model.specs.Lists.{collect}
use Rattle.model.specs.Term.{Position, root, child, Term, Terms, star, constant, apart, fresh, skolem, list}
use Rattle.model.specs.Published.{Renamed, renamed_constant, renamed_fixed, renamed_skolem}
use Rattle.laws.proofs.Lists.{mem_get_or, get_or_mem, collect_mem}
use Rattle.laws_published.proofs.Subterms.{subterms, skolem_cases, Inside, inside_subterm}

-- a position's variable
unfoldable pub root_of : Position → ℕ
root_of (root v) = v
root_of (child p k) = root_of p

-- every leaf is an occurrence in the term of variable w, and there is one below every Skolem function
pub data Rooted (w : ℕ) : Term → Type 0 where
  leaf : (p : Position) → root_of p ≡ w → Rooted w (apart p)
  node : {f : ℕ} {ts : Terms} → ((t : Term) → Memᴰ t (list ts) → Rooted w t) → (t : Term) → Memᴰ t (list ts) → Rooted w (skolem f ts)

rooted_subterms : {w : ℕ} {x t : Term} → Rooted w t → Memᴰ x (subterms t) → Rooted w x
unfolding subterms
rooted_subterms {w} (leaf p e) m = subst (Rooted w) (sym (Memᴰ.eq_of_singleton m)) (leaf p e)
rooted_subterms {w} {x} (node {f = f} {ts = ts} h t k) m = go (λ s i j. rooted_subterms (h s i) j) (skolem_cases f ts m)
  where
    go : ((s : Term) → Memᴰ s (list ts) → Memᴰ x (subterms s) → Rooted w x) → Memᴰ x (collect subterms (list ts)) ⊎ (x ≡ skolem f ts) → Rooted w x
    go below (inl i) = let (s, j, q) = collect_mem subterms (list ts) i in below s j q
    go below (inr e) = subst (Rooted w) (sym e) (node h t k)

pub rooted_inside : {w : ℕ} {x : Term} (t : Term) → Inside x t → Rooted w t → Rooted w x
rooted_inside t m r = rooted_subterms r (inside_subterm t m)

pub rooted_unique : {v w : ℕ} {t : Term} → Rooted v t → Rooted w t → v ≡ w
rooted_unique (leaf p e) (leaf q h) = sym e ∙ h
rooted_unique (node h t k) (node i s j) = rooted_unique (h t k) (i t k)

pub rooted_not_star : {w : ℕ} {t : Term} → Rooted w t → t ≡ star → ⊥
rooted_not_star (leaf p e) h = let z : ◌≡◌ {A = ℕ} 0 1 = cc in omega arith
rooted_not_star (node i t k) h = let z : ◌≡◌ {A = ℕ} 0 1 = cc in omega arith

pub rooted_not_fresh : {w : ℕ} {t s : Term} {v : ℕ} → Rooted w t → t ≡ fresh s v → ⊥
rooted_not_fresh (leaf p e) h = let z : ◌≡◌ {A = ℕ} 0 1 = cc in omega arith
rooted_not_fresh (node i t k) h = let z : ◌≡◌ {A = ℕ} 0 1 = cc in omega arith

-- every Skolem function has an argument, and no rule constant stands in the term
pub data Grounded : Term → Type 0 where
  grounded_star : Grounded star
  grounded_constant : {c : ℕ} → Grounded (constant c)
  grounded_apart : {p : Position} → Grounded (apart p)
  grounded_fresh : {t : Term} {v : ℕ} → Grounded (fresh t v)
  grounded_skolem : {f : ℕ} {ts : Terms} → 1 ≤ length (list ts) → ((t : Term) → Memᴰ t (list ts) → Grounded t) → Grounded (skolem f ts)

pub renamed_rooted : {t s : Term} {p : Position} {w : ℕ} → Grounded t → Renamed t p s → root_of p ≡ w → Rooted w s
unfolding root_of
renamed_rooted g (renamed_constant {p = p} n h) e = leaf p e
renamed_rooted {w = w} g (renamed_fixed {c = c} {p = p}) e = elim g [ ]
renamed_rooted {w = w} (grounded_skolem some h) (renamed_skolem {f} {ts} {us} {p} l k) e =
    go (λ i j. renamed_rooted (h (get_or (list ts) i star) (get_or_mem (list ts) i star j)) (k i j) e)
  where
    go : ((i : ℕ) → i < length (list ts) → Rooted w (get_or (list us) i star)) → Rooted w (skolem f us)
    go below =
        node (λ y m. let (i, j, q) = mem_get_or star m in subst (Rooted w) q (below i (omega arith))) (get_or (list us) 0 star) (get_or_mem (list us) 0 star (omega arith))

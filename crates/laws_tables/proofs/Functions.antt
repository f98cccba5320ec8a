-- How many Skolem functions a well-formed rule set has at most: 2,048. Assumes nothing.
use mathlib.Core.Path.{◌≡◌, refl, sym, subst}
use mathlib.Core.Logic.{◌⊎◌, inl, inr}
use mathlib.Core.List.Memᴰ
use mathlib.Core.List.{List, [], ◌∷◌, Memᴰ}
use Prim.Native.Nat.{ℕ, suc, ◌+◌, ◌*◌, ◌≤◌}
use native.Mathlib.Omega.{arith}
use lib.ListN.{length}
use Rattle.model.specs.Rules.{Atom, Rule, RuleSet, Disjunct, Entry, existential, disjuncts_from, count_skolem, entries_from, entries}
use Rattle.model.specs.WellFormed.{WellFormed}
use Rattle.laws.proofs.Rules.{existential_few}

count_skolem_few : (r : Rule) (ds : List (List Atom)) → count_skolem r ds ≤ length ds * 8
unfolding count_skolem
count_skolem_few r [] = omega arith
count_skolem_few r (d ∷ ds) = let h = count_skolem_few r ds in let k = existential_few r d in omega arith

-- the last of a disjunct's Skolem functions
abbrev pub last_function : Disjunct → ℕ
last_function d = d.before + length (existential d.rule d.atoms)

disjuncts_from_last : (n : ℕ) (r : Rule) (ds : List (List Atom)) {d : Disjunct} → Memᴰ d (disjuncts_from n r ds) → last_function d ≤ n + count_skolem r ds
unfolding disjuncts_from count_skolem
disjuncts_from_last n r [] m = absurd (Memᴰ.not-nil m)
disjuncts_from_last n r (a ∷ as') {d} m = go (λ k. disjuncts_from_last (n + length (existential r a)) r as' k) (Memᴰ.cases_cons m)
  where
    first : Disjunct
    first = record { rule = r; atoms = a; before = n }

    go : (Memᴰ d (disjuncts_from (n + length (existential r a)) r as') → last_function d ≤ n + length (existential r a) + count_skolem r as')
        → (d ≡ first) ⊎ Memᴰ d (disjuncts_from (n + length (existential r a)) r as') → last_function d ≤ n + (length (existential r a) + count_skolem r as')
    go below (inl e) = subst (λ (x : Disjunct). last_function x ≤ n + (length (existential r a) + count_skolem r as')) (sym e) (omega arith)
    go below (inr k) = let h = below k in omega arith

entries_from_last : (n : ℕ) (rs : List Rule) → ((r : Rule) → Memᴰ r rs → length r.head ≤ 4) → {e : Entry} → Memᴰ e (entries_from n rs) → {d : Disjunct}
    → Memᴰ d e.disjuncts → last_function d ≤ n + length rs * 32
unfolding entries_from
entries_from_last n [] h m k = absurd (Memᴰ.not-nil m)
entries_from_last n (r ∷ rs) h {e} m {d} k =
    go (λ i. entries_from_last (n + count_skolem r r.head) rs (λ s j. h s (Memᴰ.tail j)) i k) (h r (Memᴰ.head refl)) (count_skolem_few r r.head) (Memᴰ.cases_cons m)
  where
    first : Entry
    first = record { rule = r; disjuncts = disjuncts_from n r r.head }

    go : (Memᴰ e (entries_from (n + count_skolem r r.head) rs) → last_function d ≤ n + count_skolem r r.head + length rs * 32) → length r.head ≤ 4
        → count_skolem r r.head ≤ length r.head * 8 → (e ≡ first) ⊎ Memᴰ e (entries_from (n + count_skolem r r.head) rs)
        → last_function d ≤ n + suc (length rs) * 32
    go below l c (inl p) = let i = disjuncts_from_last n r r.head (subst (λ (x : Entry). Memᴰ d x.disjuncts) p k) in omega arith
    go below l c (inr i) = let j = below i in omega arith

pub last_function_bounded : (b : RuleSet) → WellFormed b → {e : Entry} → Memᴰ e (entries b) → {d : Disjunct} → Memᴰ d e.disjuncts → last_function d ≤ 2048
unfolding entries
last_function_bounded b w m k =
    let h = entries_from_last 0 b.rules (λ r i. (w.rules r i).few) m k in
    let s = w.short in
    omega arith

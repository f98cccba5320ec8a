-- Terms and facts as rows: a number finds its term again, and rows are equal where terms or facts are. Assumes nothing.
use mathlib.Core.Path.{◌≡◌, refl, sym, ap, ap₂, ◌∙◌, subst}
use mathlib.Core.Bool.{true, false}
use mathlib.Core.List.{List, [], ◌∷◌, ◌++◌, map, Memᴰ}
use Prim.Native.Nat.{ℕ, suc, ◌-◌, ◌≤◌, ◌<◌}
use native.Mathlib.Omega.{arith}
use lib.Dec.{eqb}
use lib.ListN.{length, get_or, take, replicate, length-map}
use lib.Seq.{take-append_seam}
use borrow.Author.Tests.{eqb-true, eq-eqb}
use Rattle.model.specs.Lists.{padded}
use Rattle.model.specs.Term.{Position, Term, Terms, star, constant, apart, fresh, skolem, list, same}
use Rattle.model.specs.Triggers.{Fact, same_fact}
use Rattle.model.specs.Tables.{number, term_row, fact_row}
use Rattle.laws.proofs.Bools.{not_both, and_true, true_and, both_ways}
use Rattle.laws.proofs.Lists.{Decides, index_mem, get_d_map}
use Rattle.laws.proofs.Terms.{same_decides, terms_injective, number_append}
use Rattle.laws.proofs.Facts.{fact_path, same_fact_decides}
use Rattle.laws.proofs.Distinct.{Within}
use Rattle.rows.specs.Tables.{same_row}

pub same_row_decides : Decides same_row
unfolding same_row
same_row_decides = record { sound = sound; complete = complete }
  where
    sound : (xs ys : List ℕ) → same_row xs ys ≡ true → xs ≡ ys
    sound [] [] h = refl
    sound [] (y ∷ ys) h = not_both false h refl
    sound (x ∷ xs) [] h = not_both false h refl
    sound (x ∷ xs) (y ∷ ys) h =
        let k = and_true (eqb x y) (same_row xs ys) h in
        ap₂ (λ (z : ℕ) (zs : List ℕ). z ∷ zs) (eqb-true x y k.0) (sound xs ys k.1)

    complete : (xs : List ℕ) → same_row xs xs ≡ true
    complete [] = refl
    complete (x ∷ xs) = true_and (eqb x x) (same_row xs xs) (eq-eqb x x refl) (complete xs)

-- numbers

pub number_mem : {t : Term} {ts : List Term} → Memᴰ t ts → (number ts t < length ts) × (get_or ts (number ts t) star ≡ t)
unfolding number
number_mem {t} {ts} m = index_mem same same_decides t ts star m

pub number_injective : {s t : Term} {ts : List Term} → Memᴰ s ts → Memᴰ t ts → number ts s ≡ number ts t → s ≡ t
number_injective {s} {t} {ts} m n e = sym (number_mem m).1 ∙ ap (λ (i : ℕ). get_or ts i star) e ∙ (number_mem n).1

pub numbers_injective : {ts : List Term} (us vs : List Term) → Within us ts → Within vs ts → map (number ts) us ≡ map (number ts) vs → us ≡ vs
numbers_injective [] [] m n e = refl
numbers_injective [] (v ∷ vs) m n e = absurd (let h = ap length e in omega arith)
numbers_injective (u ∷ us) [] m n e = absurd (let h = ap length e in omega arith)
numbers_injective {ts} (u ∷ us) (v ∷ vs) m n e =
    ap₂ (λ (t : Term) (l : List Term). t ∷ l)
    (number_injective (m u (Memᴰ.head refl)) (n v (Memᴰ.head refl)) (ap (λ (l : List ℕ). get_or l 0 0) e))
    (numbers_injective us vs (λ x k. m x (Memᴰ.tail k)) (λ x k. n x (Memᴰ.tail k)) (ap (λ (l : List ℕ). lib.ListN.drop 1 l) e))

pub padded_injective : (n : ℕ) (xs ys : List ℕ) → length xs ≡ length ys → padded n xs ≡ padded n ys → xs ≡ ys
unfolding padded
padded_injective n xs ys l e =
    sym (take-append_seam xs (replicate (n - length xs) 0))
    ∙ ap (take (length xs)) e
    ∙ ap (λ (k : ℕ). take k (ys ++ replicate (n - length ys) 0)) l
    ∙ take-append_seam ys (replicate (n - length ys) 0)

-- rows of terms

pub data Shape (ts : List Term) : Term → Type 0 where
  is_star : Shape ts star
  is_constant : {c : ℕ} → Shape ts (constant c)
  is_apart : {p : Position} → Shape ts (apart p)
  is_fresh : {t : Term} {v : ℕ} → Shape ts (fresh t v)
  is_skolem : {f : ℕ} {us : Terms} → 1 ≤ f → length (list us) ≤ 8 → Within (list us) ts → Shape ts (skolem f us)

cons_head : {x y : ℕ} {xs ys : List ℕ} → ◌≡◌ {A = List ℕ} (x ∷ xs) (y ∷ ys) → x ≡ y
cons_head e = ap (λ (l : List ℕ). get_or l 0 0) e

cons_tail : {x y : ℕ} {xs ys : List ℕ} → ◌≡◌ {A = List ℕ} (x ∷ xs) (y ∷ ys) → xs ≡ ys
cons_tail e = ap (λ (l : List ℕ). lib.ListN.drop 1 l) e

skolem_rows_is : (ts : List Term) (f g : ℕ) (us vs : Terms) → Within (list us) ts → Within (list vs) ts
    → term_row ts (skolem f us) ≡ term_row ts (skolem g vs) → skolem f us ≡ skolem g vs
unfolding term_row padded
skolem_rows_is ts f g us vs m n e =
    let rest : length (list us) ∷ (map (number ts) (list us) ++ replicate (10 - suc (suc (length (map (number ts) (list us))))) 0)
    ≡ length (list vs) ∷ (map (number ts) (list vs) ++ replicate (10 - suc (suc (length (map (number ts) (list vs))))) 0) = cons_tail e in
    let long : length (list us) ≡ length (list vs) = cons_head rest in
    let len : length (map (number ts) (list us)) ≡ length (map (number ts) (list vs)) =
    length-map (list us) (number ts) ∙ long ∙ sym (length-map (list vs) (number ts)) in
    let numbers : map (number ts) (list us) ≡ map (number ts) (list vs) =
    sym (take-append_seam (map (number ts) (list us)) (replicate (10 - suc (suc (length (map (number ts) (list us))))) 0))
    ∙ ap (take (length (map (number ts) (list us)))) (cons_tail rest)
    ∙ ap (λ (k : ℕ). take k (map (number ts) (list vs) ++ replicate (10 - suc (suc (length (map (number ts) (list vs))))) 0)) len
    ∙ take-append_seam (map (number ts) (list vs)) (replicate (10 - suc (suc (length (map (number ts) (list vs))))) 0) in
    ap₂ (λ (h : ℕ) (ws : Terms). skolem h ws) (cons_head e) (terms_injective us vs (numbers_injective (list us) (list vs) m n numbers))

row_headed : (ts : List Term) (f : ℕ) (us : Terms) → 1 ≤ f → term_row ts (skolem f us) ≡ replicate 10 0 → ⊥
unfolding term_row padded
row_headed ts f us h e = let z : f ≡ 0 = cons_head e in omega arith

row_found : (ts : List Term) (f : ℕ) (us : Terms) (t : Term) → 1 ≤ f → Within (list us) ts → Shape ts t → term_row ts (skolem f us) ≡ term_row ts t
    → skolem f us ≡ t
unfolding term_row
row_found ts f us t h m is_star e = absurd (row_headed ts f us h e)
row_found ts f us t h m is_constant e = absurd (row_headed ts f us h e)
row_found ts f us t h m is_apart e = absurd (row_headed ts f us h e)
row_found ts f us t h m is_fresh e = absurd (row_headed ts f us h e)
row_found ts f us t h m (is_skolem {f = g} {us = vs} i j k) e = skolem_rows_is ts f g us vs m k e

-- a row with a Skolem function is equal to no other term's
pub term_rows : (ts : List Term) (f : ℕ) (us : Terms) (t : Term) → 1 ≤ f → Within (list us) ts → Shape ts t
    → same_row (term_row ts (skolem f us)) (term_row ts t) ≡ same (skolem f us) t
term_rows ts f us t h m s =
    both_ways (same_row (term_row ts (skolem f us)) (term_row ts t)) (same (skolem f us) t)
    (λ e. subst (λ (w : Term). same (skolem f us) w ≡ true) (row_found ts f us t h m s (same_row_decides.sound (term_row ts (skolem f us)) (term_row ts t) e)) (same_decides.complete (skolem f us)))
    (λ e. subst (λ (w : Term). same_row (term_row ts (skolem f us)) (term_row ts w) ≡ true) (same_decides.sound (skolem f us) t e) (same_row_decides.complete (term_row ts (skolem f us))))

-- the row of a term of the list stands at its number
pub row_at : (ts : List Term) {t : Term} → Memᴰ t ts → get_or (map (term_row ts) ts) (number ts t) [] ≡ term_row ts t
row_at ts {t} m = let (l, e) = number_mem m in get_d_map (term_row ts) ts (number ts t) [] star l ∙ ap (term_row ts) e

-- further terms leave the rows of the first as they are
pub term_row_append : (ts us : List Term) {t : Term} → Shape ts t → term_row (ts ++ us) t ≡ term_row ts t
unfolding term_row
term_row_append ts us is_star = refl
term_row_append ts us is_constant = refl
term_row_append ts us is_apart = refl
term_row_append ts us is_fresh = refl
term_row_append ts us (is_skolem {f = f} {us = vs} i j k) =
    ap (λ (ns : List ℕ). padded 10 (f ∷ length (list vs) ∷ ns))
    (Rattle.laws.proofs.Triggers.map_agree (number (ts ++ us)) (number ts) (list vs) (λ t m. number_append t ts us (k t m)))

-- rows of facts: the predicate says how many arguments there are

pub record Over (arities : List ℕ) (ts : List Term) (f : Fact) : Type 0 where
  pub arity : length f.arguments ≡ get_or arities f.predicate 0
  pub few : length f.arguments ≤ 4
  pub terms : Within f.arguments ts

row_predicate : (ts : List Term) (f g : Fact) → fact_row ts f ≡ fact_row ts g → f.predicate ≡ g.predicate
unfolding fact_row padded
row_predicate ts f g e = cons_head e

row_fact : (arities : List ℕ) (ts : List Term) (f g : Fact) → Over arities ts f → Over arities ts g → fact_row ts f ≡ fact_row ts g → f ≡ g
unfolding fact_row
row_fact arities ts f g h k e =
    let p : f.predicate ≡ g.predicate = row_predicate ts f g e in
    let len : length f.arguments ≡ length g.arguments = h.arity ∙ ap (λ (n : ℕ). get_or arities n 0) p ∙ sym k.arity in
    let long : suc (length (map (number ts) f.arguments)) ≡ suc (length (map (number ts) g.arguments)) =
    ap suc (length-map f.arguments (number ts) ∙ len ∙ sym (length-map g.arguments (number ts))) in
    fact_path p
    (numbers_injective f.arguments g.arguments h.terms k.terms
    (cons_tail (padded_injective 5 (f.predicate ∷ map (number ts) f.arguments) (g.predicate ∷ map (number ts) g.arguments) long e)))

pub fact_rows : (arities : List ℕ) (ts : List Term) (f g : Fact) → Over arities ts f → Over arities ts g
    → same_row (fact_row ts f) (fact_row ts g) ≡ same_fact f g
fact_rows arities ts f g h k =
    both_ways (same_row (fact_row ts f) (fact_row ts g)) (same_fact f g)
    (λ e. subst (λ (w : Fact). same_fact f w ≡ true) (row_fact arities ts f g h k (same_row_decides.sound (fact_row ts f) (fact_row ts g) e)) (same_fact_decides.complete f))
    (λ e. subst (λ (w : Fact). same_row (fact_row ts f) (fact_row ts w) ≡ true) (same_fact_decides.sound f g e) (same_row_decides.complete (fact_row ts f)))

pub fact_row_append : (ts us : List Term) (f : Fact) → Within f.arguments ts → fact_row (ts ++ us) f ≡ fact_row ts f
unfolding fact_row
fact_row_append ts us f h =
    ap (λ (ns : List ℕ). padded 5 (f.predicate ∷ ns))
    (Rattle.laws.proofs.Triggers.map_agree (number (ts ++ us)) (number ts) f.arguments (λ t m. number_append t ts us (h t m)))

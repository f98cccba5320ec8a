-- Laws of sets of variables taken in rising order, and of Skolem rows filled so. Assumes nothing.
use mathlib.Core.Path.{◌≡◌, refl, sym, ap, ◌∙◌}
use mathlib.Core.Bool.{Bool, true, false}
use mathlib.Core.List.Memᴰ
use mathlib.Core.List.{List, [], ◌∷◌, ◌++◌, map, map-append, append-nil, Memᴰ}
use mathlib.Core.Logic.{◌⊎◌, inl, inr, ⊎_elim}
use Prim.Native.Nat.{ℕ, zero, suc, ◌+◌, ◌-◌, ◌≤◌, ◌<◌}
use native.Mathlib.Nat.{zero-add}
use native.Mathlib.Omega.{arith}
use lib.Dec.{eqb}
use lib.ListN.{length, get_or, set, replicate, length-append, length-set, length-replicate}
use lib.Seq.{get_or-set_other}
use borrow.Author.Count.{below_more}
use borrow.Author.Tests.{eq-eqb, ne_eqb}
use Rattle.model.specs.Lists.{keep, index, padded}
use Rattle.laws.proofs.Bools.{case}
use Rattle.laws.proofs.Lists.{keep_yes, keep_no, keep_mem, index_here, index_there, eqb_decides}
use Rattle.laws.specs.Lists.{rising}
use Rattle.laws.proofs.Rising.{rising_length, rising_append}
use Rattle.form_variables.specs.Sets.{has, elements}
use Rattle.outputs.specs.Skolem.{function_with, template_with}
use Rattle.facts.proofs.Rows.{padded_more, set_below}

-- numbers in rising order

rising_mem : (k n : ℕ) {x : ℕ} → Memᴰ x (rising k n) → (k ≤ x) × (x < k + n)
unfolding rising
rising_mem k zero m = absurd (Memᴰ.not-nil m)
rising_mem k (suc n) {x} m = ⊎_elim (λ (e : x ≡ k). (omega arith, omega arith)) (λ (j : Memᴰ x (rising (suc k) n)). let b = rising_mem (suc k) n j in (omega arith, omega arith)) (Memᴰ.cases_cons m)

module _ (p : ℕ → Bool) where
  keep_append : (xs ys : List ℕ) → keep p (xs ++ ys) ≡ keep p xs ++ keep p ys
  unfolding keep
  keep_append [] ys = refl
  keep_append (x ∷ xs) ys = go (case (p x)) (keep_append xs ys)
    where
      go : (p x ≡ true) ⊎ (p x ≡ false) → keep p (xs ++ ys) ≡ keep p xs ++ keep p ys → keep p (x ∷ (xs ++ ys)) ≡ keep p (x ∷ xs) ++ keep p ys
      go (inl e) below = rw (keep_yes p x (xs ++ ys) e, keep_yes p x xs e) (ap (λ (zs : List ℕ). x ∷ zs) below)
      go (inr e) below = rw (keep_no p x (xs ++ ys) e, keep_no p x xs e) below

-- the variables of a set below v
pub below : ℕ → ℕ → List ℕ
below s v = keep (has s) (rising 0 v)

pub below_none : (s : ℕ) → below s 0 ≡ []
unfolding below rising keep
below_none s = refl

pub below_all : (s : ℕ) → below s 8 ≡ elements s
unfolding below rising elements
below_all s = refl

below_snoc : (s v : ℕ) → below s (v + 1) ≡ below s v ++ keep (has s) (v ∷ [])
unfolding below rising
below_snoc s v =
    ap (keep (has s)) (rising_append 0 v 1 ∙ ap (λ (k : ℕ). rising 0 v ++ (k ∷ [])) (zero-add v)) ∙ keep_append (has s) (rising 0 v) (v ∷ [])

pub below_yes : (s v : ℕ) → has s v ≡ true → below s (v + 1) ≡ below s v ++ (v ∷ [])
unfolding keep
below_yes s v e = below_snoc s v ∙ ap (λ (xs : List ℕ). below s v ++ xs) (keep_yes (has s) v [] e)

pub below_no : (s v : ℕ) → has s v ≡ false → below s (v + 1) ≡ below s v
unfolding keep
below_no s v e = below_snoc s v ∙ ap (λ (xs : List ℕ). below s v ++ xs) (keep_no (has s) v [] e) ∙ append-nil (below s v)

pub below_mem : (s v : ℕ) {x : ℕ} → Memᴰ x (below s v) → x < v
unfolding below
below_mem s v m = let (k, e) = keep_mem (has s) (rising 0 v) m in let b = rising_mem 0 v k in omega arith

index_seam : (v : ℕ) (xs ys : List ℕ) → ((x : ℕ) → Memᴰ x xs → x < v) → index eqb v (xs ++ v ∷ ys) ≡ length xs
index_seam v [] ys h = index_here eqb eqb_decides v v ys (eq-eqb v v refl)
index_seam v (x ∷ xs) ys h =
    let b = h x (Memᴰ.head refl) in
    index_there eqb eqb_decides v x (xs ++ v ∷ ys) (ne_eqb v x (λ e. omega arith)) ∙ ap suc (index_seam v xs ys (λ y m. h y (Memᴰ.tail m)))

-- a variable's place in its set
pub rank_below : (s v : ℕ) → v < 8 → has s v ≡ true → index eqb v (elements s) ≡ length (below s v)
unfolding elements below rising
rank_below s v h e =
    let split : v + suc (7 - v) ≡ 8 = omega arith in
    let whole : elements s ≡ below s v ++ v ∷ keep (has s) (rising (suc v) (7 - v)) =
    ap (λ (k : ℕ). keep (has s) (rising 0 k)) (sym split)
    ∙ ap (keep (has s)) (rising_append 0 v (suc (7 - v)) ∙ ap (λ (k : ℕ). rising 0 v ++ rising k (suc (7 - v))) (zero-add v))
    ∙ keep_append (has s) (rising 0 v) (rising v (suc (7 - v)))
    ∙ ap (λ (xs : List ℕ). below s v ++ xs) (keep_yes (has s) v (rising (suc v) (7 - v)) e) in
    ap (index eqb v) whole ∙ index_seam v (below s v) (keep (has s) (rising (suc v) (7 - v))) (λ x m. below_mem s v m)

keep_length : (p : ℕ → Bool) (xs : List ℕ) → length (keep p xs) ≤ length xs
unfolding keep
keep_length p [] = omega arith
keep_length p (x ∷ xs) = go (case (p x)) (keep_length p xs)
  where
    go : (p x ≡ true) ⊎ (p x ≡ false) → length (keep p xs) ≤ length xs → length (keep p (x ∷ xs)) ≤ suc (length xs)
    go (inl e) b = rw (keep_yes p x xs e) (omega arith)
    go (inr e) b = rw (keep_no p x xs e) (omega arith)

pub below_length : (s v : ℕ) → length (below s v) ≤ v
unfolding below
below_length s v = let b = keep_length (has s) (rising 0 v) in let l = rising_length 0 v in omega arith

pub elements_length : (s : ℕ) → length (elements s) ≤ 8
elements_length s = let b = below_length s 8 in omega (arith, ap length (below_all s))

-- the Skolem row, argument by argument

pub filled_up : ℕ → (ℕ → ℕ) → ℕ → List ℕ
filled_up s α v = padded 10 (0 ∷ length (elements s) ∷ map α (below s v))

pub filled_up_none : (s : ℕ) (α : ℕ → ℕ) → 0 ∷ length (elements s) ∷ 0 ∷ 0 ∷ 0 ∷ 0 ∷ 0 ∷ 0 ∷ 0 ∷ 0 ∷ [] ≡ filled_up s α 0
unfolding filled_up padded below rising keep
filled_up_none s α = refl

pub filled_up_all : (s : ℕ) (α : ℕ → ℕ) → filled_up s α 8 ≡ template_with (elements s) α
unfolding filled_up template_with
filled_up_all s α = ap (λ (xs : List ℕ). padded 10 (0 ∷ length (elements s) ∷ map α xs)) (below_all s)

map_length : (α : ℕ → ℕ) (xs : List ℕ) → length (map α xs) ≡ length xs
map_length α [] = refl
map_length α (x ∷ xs) = ap suc (map_length α xs)

pub filled_up_more : (s : ℕ) (α : ℕ → ℕ) (v : ℕ) → v < 8 → has s v ≡ true → set (filled_up s α v) (2 + length (below s v)) (α v) ≡ filled_up s α (v + 1)
unfolding filled_up
filled_up_more s α v h e =
    let xs : List ℕ = 0 ∷ length (elements s) ∷ map α (below s v) in
    let l = map_length α (below s v) in
    let b = below_length s v in
    let at : 2 + length (below s v) ≡ length xs = omega arith in
    ap (λ (k : ℕ). set (padded 10 xs) k (α v)) at
    ∙ padded_more 10 xs (α v) (omega arith)
    ∙ ap (λ (ys : List ℕ). padded 10 (0 ∷ length (elements s) ∷ ys)) (sym (map-append α (below s v) (v ∷ [])) ∙ ap (map α) (sym (below_yes s v e)))

pub filled_up_same : (s : ℕ) (α : ℕ → ℕ) (v : ℕ) → has s v ≡ false → filled_up s α v ≡ filled_up s α (v + 1)
unfolding filled_up
filled_up_same s α v e = ap (λ (ys : List ℕ). padded 10 (0 ∷ length (elements s) ∷ map α ys)) (sym (below_no s v e))

-- how many variables of a set are below the next one

pub below_one : (s v : ℕ) → has s v ≡ true → length (below s (v + 1)) ≡ length (below s v) + 1
below_one s v e = ap length (below_yes s v e) ∙ length-append (below s v) (v ∷ [])

pub below_same : (s v : ℕ) → has s v ≡ false → length (below s (v + 1)) ≡ length (below s v)
below_same s v e = ap length (below_no s v e)

pub function_with_none : (s b v : ℕ) → has s v ≡ false → function_with s b v ≡ 0
unfolding function_with
function_with_none s b v e = rw (e, function_with)

pub function_with_some : (s b v : ℕ) → has s v ≡ true → function_with s b v ≡ b + suc (index eqb v (elements s))
unfolding function_with
function_with_some s b v e = rw (e, function_with)

-- the functions of the variables below v, the last of which was given last; 0 for the others
pub record Counted (s before : ℕ) (numbers : List ℕ) (last v : ℕ) : Type 0 where
  pub long : length numbers ≡ 8
  pub up_to : last ≡ before + length (below s v)
  pub given : (k : ℕ) → k < v → get_or numbers k 0 ≡ function_with s before k
  pub others : (k : ℕ) → v ≤ k → get_or numbers k 0 ≡ 0

pub counted_none : (s before : ℕ) → Counted s before (replicate 8 0) before 0
counted_none s before =
    record {
      long = length-replicate {A = ℕ} 8 0;
      up_to = let e = ap length (below_none s) in omega arith;
      given = λ k h. absurd (omega arith);
      others = λ k h. get_or_zeros 8 k;
    }
  where
    get_or_zeros : (n k : ℕ) → ◌≡◌ {A = ℕ} (get_or (replicate n 0) k 0) 0
    get_or_zeros zero k = refl
    get_or_zeros (suc n) zero = refl
    get_or_zeros (suc n) (suc k) = get_or_zeros n k

module _ (s before : ℕ) (numbers : List ℕ) (last v : ℕ) (c : Counted s before numbers last v) where
  pub counted_yes : v < 8 → has s v ≡ true → Counted s before (set numbers v (last + 1)) (last + 1) (v + 1)
  counted_yes h e =
      record {
        long = length-set numbers v (last + 1) ∙ c.long;
        up_to = omega (arith, c.up_to, below_one s v e);
        given = set_below (function_with s before) numbers v (last + 1) (omega (arith, c.long)) (omega (arith, c.up_to, function_with_some s before v e, rank_below s v h e)) c.given;
        others = λ k l. get_or-set_other numbers v k (last + 1) 0 (λ q. omega arith) ∙ c.others k (omega arith);
      }

  pub counted_no : has s v ≡ false → Counted s before numbers last (v + 1)
  counted_no e =
      record {
        long = c.long;
        up_to = omega (arith, c.up_to, below_same s v e);
        given = below_more (λ (k : ℕ). get_or numbers k 0 ≡ function_with s before k) v c.given (c.others v (omega arith) ∙ sym (function_with_none s before v e));
        others = λ k l. c.others k (omega arith);
      }

-- The numbering of Skolem functions by places is that of model's `entries`, and a function belongs to the disjunct of the last place that
-- fewer are numbered before. Assumes nothing.
use mathlib.Core.Path.{◌≡◌, refl, sym, ap, ap₂, ◌∙◌}
use mathlib.Core.List.{List, [], ◌∷◌, ◌++◌, append_assoc, Memᴰ}
use Prim.Native.Nat.{ℕ, zero, suc, ◌+◌, ◌*◌, ◌/◌, ◌%◌, ◌≤◌, ◌<◌}
use native.Mathlib.Decide.{dec_lt}
use native.Mathlib.Omega.{arith}
use native.Mathlib.Numerals.{add-one}
use lib.Dec.{ltb}
use lib.ListN.{length, get_or, set, drop, get_or-append, get_or-eq_default}
use lib.Seq.{set_at, drop-cons}
use borrow.Author.Tests.{lt-ltb}
use Rattle.model.specs.Lists.{any, keep, collect, member}
use Rattle.model.specs.Rules.{Atom, Rule, Disjunct, Entry, variables_of, existential, disjuncts_from, count_skolem, entries_from, entries, owns}
use Rattle.model.specs.Form.{spaced, decoded}
use Rattle.laws.proofs.Bools.{true_and}
use Rattle.laws.proofs.Places.{length_spaced}
use Rattle.laws.proofs.Rules.{existential_few, length_disjuncts_from, length_entries_from}
use Rattle.laws.proofs.Lists.{get_or_mem}
use Rattle.form.specs.Places.{Held, rules_of, rule_of, disjunct_of}
use Rattle.form_functions.specs.Functions.{places, functions_at, functions_before, numbering, entry_of, numbered_of, Numbered, Owned}
use Rattle.form.proofs.Lists.{get_or_spaced, spaced_more}
use Rattle.form.proofs.Places.{few_disjuncts}

-- sums

unfoldable total : (ℕ → ℕ) → ℕ → ℕ
total c zero = 0
total c (suc n) = total c n + c n

total_agree : (c e : ℕ → ℕ) (n : ℕ) → ((k : ℕ) → k < n → c k ≡ e k) → total c n ≡ total e n
unfolding total
total_agree c e zero h = refl
total_agree c e (suc n) h = ap₂ (λ (a b : ℕ). a + b) (total_agree c e n (λ k l. h k (omega arith))) (h n (omega arith))

total_none : (c : ℕ → ℕ) (n : ℕ) → ((k : ℕ) → c k ≡ 0) → total c n ≡ 0
unfolding total
total_none c zero h = refl
total_none c (suc n) h = omega (arith, total_none c n h, h n)

total_first : (c : ℕ → ℕ) (n : ℕ) → total c (suc n) ≡ c 0 + total (λ (k : ℕ). c (suc k)) n
unfolding total
total_first c zero = omega arith
total_first c (suc n) = omega (arith, total_first c n)

total_add : (c : ℕ → ℕ) (m n : ℕ) → total c (m + n) ≡ total c m + total (λ (k : ℕ). c (m + k)) n
unfolding total
total_add c m zero = let e : m + 0 ≡ m = omega arith in ap (total c) e ∙ omega arith
total_add c m (suc n) =
    let e : m + suc n ≡ suc (m + n) = omega arith in
    ap (total c) e ∙ omega (arith, total_add c m n)

-- an empty disjunct has no existential variables

no_existential : (r : Rule) → length (existential r []) ≡ 0
unfolding existential variables_of collect member any keep
no_existential r = refl

-- entries by their places

sizes : Rule → List (List Atom) → ℕ → ℕ
sizes r ds k = length (existential r (get_or ds k []))

disjunct_numbered : (n : ℕ) (r : Rule) (ds : List (List Atom)) (d : ℕ) (z : Disjunct) → d < length ds
    → get_or (disjuncts_from n r ds) d z ≡ record { rule = r; atoms = get_or ds d []; before = n + total (sizes r ds) d }
unfolding disjuncts_from total sizes
disjunct_numbered n r [] d z h = absurd (omega arith)
disjunct_numbered n r (a ∷ as') zero z h = let e : n ≡ n + 0 = omega arith in λ i. record { rule = r; atoms = a; before = e i }
disjunct_numbered n r (a ∷ as') (suc d) z h =
    let m = disjunct_numbered (n + length (existential r a)) r as' d z (omega arith) in
    let e : n + length (existential r a) + total (sizes r as') d ≡ n + total (sizes r (a ∷ as')) (suc d) = omega (arith, total_first (sizes r (a ∷ as')) d) in
    m ∙ (λ i. record { rule = r; atoms = get_or as' d []; before = e i })

count_total : (r : Rule) (ds : List (List Atom)) (m : ℕ) → length ds ≤ m → count_skolem r ds ≡ total (sizes r ds) m
unfolding count_skolem sizes
count_total r [] m h = sym (total_none (sizes r []) m (λ k. no_existential r))
count_total r (a ∷ as') zero h = absurd (omega arith)
count_total r (a ∷ as') (suc m) h = omega (arith, count_total r as' m (omega arith), total_first (sizes r (a ∷ as')) m)

abbrev no_rule : Rule
no_rule = record { body = []; head = [] }

counts : List Rule → ℕ → ℕ
counts rs k = count_skolem (get_or rs k no_rule) (get_or rs k no_rule).head

entry_numbered : (n : ℕ) (rs : List Rule) (i : ℕ) (z : Entry) → i < length rs
    → (get_or (entries_from n rs) i z).disjuncts ≡ disjuncts_from (n + total (counts rs) i) (get_or rs i no_rule) (get_or rs i no_rule).head
unfolding entries_from total counts
entry_numbered n [] i z h = absurd (omega arith)
entry_numbered n (r ∷ rs) zero z h = let e : n ≡ n + 0 = omega arith in ap (λ (m : ℕ). disjuncts_from m r r.head) e
entry_numbered n (r ∷ rs) (suc i) z h =
    let e : n + count_skolem r r.head + total (counts rs) i ≡ n + total (counts (r ∷ rs)) (suc i) = omega (arith, total_first (counts (r ∷ rs)) i) in
    entry_numbered (n + count_skolem r r.head) rs i z (omega arith) ∙ ap (λ (m : ℕ). disjuncts_from m (get_or rs i no_rule) (get_or rs i no_rule).head) e

module _ (form : List ℕ) where
  before_total : (j : ℕ) → functions_before form j ≡ total (functions_at form) j
  unfolding functions_before total
  before_total zero = refl
  before_total (suc j) = ap (λ (a : ℕ). a + functions_at form j) (before_total j)

  pub functions_place : (i d : ℕ) → d < 4 → functions_at form (i * 4 + d) ≡ length (existential (rule_of form i) (disjunct_of form i d))
  unfolding functions_at
  functions_place i d h =
      let a : (i * 4 + d) / 4 ≡ i = omega arith in
      let b : (i * 4 + d) % 4 ≡ d = omega arith in
      ap₂ (λ (x y : ℕ). length (existential (rule_of form x) (disjunct_of form x y))) a b

  pub few_functions : (j : ℕ) → functions_at form j ≤ 8
  unfolding functions_at
  few_functions j = existential_few (rule_of form (j / 4)) (disjunct_of form (j / 4) (j % 4))

  pub no_function : (j : ℕ) → length (rule_of form (j / 4)).head ≤ j % 4 → functions_at form j ≡ 0
  unfolding functions_at disjunct_of
  no_function j h =
      ap (λ (x : List Atom). length (existential (rule_of form (j / 4)) x)) (get_or-eq_default (rule_of form (j / 4)).head [] h)
      ∙ no_existential (rule_of form (j / 4))

  pub before_more : (j : ℕ) → functions_before form (j + 1) ≡ functions_before form j + functions_at form j
  unfolding functions_before
  before_more j = ap (functions_before form) (add-one j)

  pub before_most : (j : ℕ) → functions_before form j ≤ 8 * j
  unfolding functions_before
  before_most zero = omega arith
  before_most (suc j) = omega (arith, before_most j, few_functions j)

  -- of one rule: the sum over the first so many of its places
  rule_part : (i d : ℕ) → d ≤ 4 → total (λ (k : ℕ). functions_at form (i * 4 + k)) d ≡ total (sizes (rule_of form i) (rule_of form i).head) d
  unfolding sizes disjunct_of
  rule_part i d h = total_agree (λ (k : ℕ). functions_at form (i * 4 + k)) (sizes (rule_of form i) (rule_of form i).head) d (λ k l. functions_place i k (omega arith))

  rules_part : Held form → (i : ℕ) → i ≤ length (rules_of form) → total (functions_at form) (i * 4) ≡ total (counts (rules_of form)) i
  unfolding total counts rule_of
  rules_part h zero l = refl
  rules_part h (suc i) l =
      let e : suc i * 4 ≡ i * 4 + 4 = omega arith in
      let c = count_total (rule_of form i) (rule_of form i).head 4 (few_disjuncts form h i (omega arith)) in
      ap (total (functions_at form)) e
      ∙ total_add (functions_at form) (i * 4) 4
      ∙ ap₂ (λ (a b : ℕ). a + b) (rules_part h i (omega arith)) (rule_part i 4 (omega arith) ∙ sym c)

  pub count_entries : length (entries (decoded form)) ≡ length (rules_of form)
  unfolding entries rules_of
  count_entries = length_entries_from 0 (rules_of form)

  pub count_numbered : (i : ℕ) → i < length (rules_of form) → length (entry_of form i).disjuncts ≡ length (rule_of form i).head
  unfolding entry_of entries rules_of rule_of
  count_numbered i l =
      let z : Entry = record { rule = no_rule; disjuncts = [] } in
      ap length (entry_numbered 0 (rules_of form) i z l) ∙ length_disjuncts_from (0 + total (counts (rules_of form)) i) (rule_of form i) (rule_of form i).head

  -- a disjunct of an entry, by its place
  pub numbered_place : Held form → (i d : ℕ) → i < length (rules_of form) → d < length (rule_of form i).head
      → numbered_of form i d ≡ record { rule = rule_of form i; atoms = disjunct_of form i d; before = functions_before form (i * 4 + d) }
  unfolding numbered_of entry_of entries rules_of rule_of disjunct_of
  numbered_place h i d l m =
      let no : Disjunct = record { rule = no_rule; atoms = []; before = 0 } in
      let r : Rule = rule_of form i in
      let few = few_disjuncts form h i l in
      let z : Entry = record { rule = no_rule; disjuncts = [] } in
      let e : 0 + total (counts (rules_of form)) i + total (sizes r r.head) d ≡ functions_before form (i * 4 + d) =
      omega (arith, before_total (i * 4 + d), total_add (functions_at form) (i * 4) d, rules_part h i (omega arith), rule_part i d (omega arith))
      in
      ap (λ (ds : List Disjunct). get_or ds d no) (entry_numbered 0 (rules_of form) i z l)
      ∙ disjunct_numbered (0 + total (counts (rules_of form)) i) r r.head d no m
      ∙ (λ k. record { rule = r; atoms = disjunct_of form i d; before = e k })

  -- the loop that writes the numbering

  pub numbering_more : (j : ℕ) (b : List ℕ) (x : ℕ) → j < length b → x ≡ functions_before form j
      → set (numbering form j ++ drop j b) j x ≡ numbering form (j + 1) ++ drop (j + 1) b
  unfolding numbering
  numbering_more j b x h e =
      let q : 0 + j * 1 ≡ j = omega arith in
      ap (λ (t : List ℕ). set (numbering form j ++ t) j x) (drop-cons b j 0 h)
      ∙ set_at (numbering form j) (get_or b j 0) (drop (suc j) b) x j (length_spaced (functions_before form) 1 j 0)
      ∙ sym (append_assoc (numbering form j) (x ∷ []) (drop (suc j) b))
      ∙ ap₂ (λ (y : ℕ) (m : ℕ). (numbering form j ++ (y ∷ [])) ++ drop m b) (e ∙ ap (functions_before form) (sym q)) (sym (add-one j))
      ∙ ap (λ (t : List ℕ). t ++ drop (j + 1) b) (sym (spaced_more (functions_before form) 1 j 0) ∙ ap (λ (m : ℕ). spaced (functions_before form) 1 m 0) (sym (add-one j)))

  -- what it leaves holds the numbering
  pub numbering_numbered : (b : List ℕ) → places form ≤ length (numbering form (places form) ++ b) → Numbered form (numbering form (places form) ++ b)
  unfolding numbering
  numbering_numbered b h =
      record {
        room = h;
        each = λ j l.
            let q : 0 + j * 1 ≡ j = omega arith in
            get_or-append (numbering form (places form)) b 0 j (omega (arith, length_spaced (functions_before form) 1 (places form) 0))
            ∙ get_or_spaced (functions_before form) 1 (places form) 0 j 0 l
            ∙ ap (functions_before form) q;
      }

  -- the owner of a Skolem function

  place_disjunct : (i d : ℕ) → 0 < length (existential (rule_of form i) (disjunct_of form i d)) → d < length (rule_of form i).head
  unfolding disjunct_of
  place_disjunct i d h = go (dec_lt d (length (rule_of form i).head))
    where
      go : Dec (d < length (rule_of form i).head) → d < length (rule_of form i).head
      go (yes l) = l
      go (no n) =
          let e : get_or (rule_of form i).head d [] ≡ [] = get_or-eq_default (rule_of form i).head [] (omega arith) in
          absurd (omega (arith, ap (λ (x : List Atom). length (existential (rule_of form i) x)) e, no_existential (rule_of form i)))

  pub owner_place : Held form → (f j : ℕ) → j < places form → functions_before form j < f → f ≤ functions_before form j + functions_at form j
      → Owned form f (j / 4) (j % 4)
  unfolding owns
  owner_place h f j l a b =
      let i : j / 4 < length (rules_of form) = omega arith in
      let e : j / 4 * 4 + j % 4 ≡ j = omega arith in
      let n : functions_at form j ≡ length (existential (rule_of form (j / 4)) (disjunct_of form (j / 4) (j % 4))) =
      ap (functions_at form) (sym e) ∙ functions_place (j / 4) (j % 4) (omega arith)
      in
      let m = place_disjunct (j / 4) (j % 4) (omega arith) in
      let d : Disjunct = record { rule = rule_of form (j / 4); atoms = disjunct_of form (j / 4) (j % 4); before = functions_before form (j / 4 * 4 + j % 4) } in
      let p : functions_before form (j / 4 * 4 + j % 4) ≡ functions_before form j = ap (functions_before form) e in
      record {
        rule = i;
        disjunct = m;
        owner =
            ap (owns f) (numbered_place h (j / 4) (j % 4) i m)
            ∙ true_and (ltb d.before f) (ltb f (suc (d.before + length (existential d.rule d.atoms))))
            (lt-ltb d.before f (omega arith)) (lt-ltb f (suc (d.before + length (existential d.rule d.atoms))) (omega arith));
      }

  pub first_before : functions_before form 0 ≡ 0
  unfolding functions_before
  first_before = refl

  pub some_places : (f : ℕ) → 1 ≤ f → f ≤ functions_before form (places form) → 0 < places form
  some_places f h k = go (dec_lt 0 (places form))
    where
      go : Dec (0 < places form) → 0 < places form
      go (yes l) = l
      go (no n) =
          let e : places form ≡ 0 = omega arith in
          absurd (omega (arith, ap (functions_before form) e, first_before))

  -- where no later place has fewer than f before it, f is among the place's own
  pub next_before : (before : List ℕ) → Numbered form before → (f j : ℕ) → j < places form → (j + 1 < places form → f ≤ get_or before (j + 1) 0)
      → f ≤ functions_before form (places form) → f ≤ functions_before form j + functions_at form j
  next_before before n f j h k l = go (dec_lt (j + 1) (places form))
    where
      go : Dec (j + 1 < places form) → f ≤ functions_before form j + functions_at form j
      go (yes i) = omega (arith, k i, n.each (j + 1) i, before_more j)
      go (no i) =
          let e : places form ≡ j + 1 = omega arith in
          omega (arith, ap (functions_before form) e, before_more j)

-- an entry of a form has the rule of its number, and is one of the rule set's
entry_rule_from : (n : ℕ) (rs : List Rule) (i : ℕ) → i < length rs
    → (get_or (entries_from n rs) i (record { rule = record { body = []; head = [] }; disjuncts = [] })).rule ≡ get_or rs i (record { body = []; head = [] })
unfolding entries_from
entry_rule_from n [] i h = absurd (omega arith)
entry_rule_from n (r ∷ rs) zero h = refl
entry_rule_from n (r ∷ rs) (suc i) h = entry_rule_from (n + count_skolem r r.head) rs i (omega arith)

pub entry_rule : (form : List ℕ) (i : ℕ) → i < length (rules_of form) → (entry_of form i).rule ≡ rule_of form i
unfolding entry_of entries rules_of rule_of
entry_rule form i h = entry_rule_from 0 (rules_of form) i h

pub entry_mem : (form : List ℕ) (i : ℕ) → i < length (rules_of form) → Memᴰ (entry_of form i) (entries (decoded form))
unfolding entry_of
entry_mem form i h = get_or_mem (entries (decoded form)) i (record { rule = record { body = []; head = [] }; disjuncts = [] }) (omega (arith, count_entries form))

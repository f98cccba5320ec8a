-- Laws of tables in which terms are found by a hash: an empty one, the place of a bucket, the walk to the first term that is a row, and one term
-- more. Assumes nothing.
use mathlib.Core.Path.{◌≡◌, sym, ap, ◌∙◌, subst}
use mathlib.Core.Bool.{true, false}
use mathlib.Core.List.{List, [], ◌∷◌, ◌++◌}
use mathlib.Core.Logic.{◌⊎◌, inl, inr}
use Prim.Native.Nat.{ℕ, zero, suc, ◌+◌, ◌-◌, ◌*◌, ◌%◌, ◌≤◌, ◌<◌}
use native.Mathlib.Nat.{mod-lt}
use native.Mathlib.Decide.{dec_lt}
use native.Mathlib.Omega.{arith}
use lib.ListN.{length, get_or, drop, replicate, length-replicate, get_or-replicate}
use Rattle.laws.proofs.Bools.{case, is_false, not_both}
use Rattle.tables.specs.Rows.{begins, seek_row, find_row, rows}
use Rattle.tables.specs.Chain.{latest}
use Rattle.tables.specs.Hashed.{bucket_at, Hashed}
use Rattle.tables.specs.TermHash.{hash_of, bucket_of, link_at, KeptTerms, more_terms}
use Rattle.tables.proofs.Chain.{Walked, walked_all, walked_weaker}
use Rattle.tables.proofs.Hashed.{walk_begins, walk_goes_on, link_most, bucket_apart, Placed, appended_length, appended_rows, appended_hashed}

-- a table of zeros has no terms
pub kept_terms_none : (size : ℕ) → 6144 ≤ size → KeptTerms (replicate size 0) 0
unfolding latest
kept_terms_none size h =
    let l = length-replicate {A = ℕ} size 0 in
    record {
      wide = omega arith;
      fits = omega arith;
      few = omega arith;
      hashed = record { buckets = λ x a b. get_or-replicate {A = ℕ} size x 0 0 (omega arith); links = λ i a. absurd (omega arith) };
    }

-- a bucket stands behind the rows and the links
pub term_bucket_range : (size : ℕ) (r : List ℕ) → 512 ≤ size → (size - 512 ≤ bucket_of size r) × (bucket_of size r < size)
term_bucket_range size r h = let b : hash_of r % 512 < 512 = mod-lt (hash_of r) (omega arith) in (omega arith, omega arith)

-- the first row that is r, by what is known of those before it
seek_row_first : (r t : List ℕ) (i n j : ℕ) → i ≤ j → j ≤ i + n → (j < i + n → begins r (drop (j * length r) t) ≡ true)
    → ((g : ℕ) → g < j → begins r (drop (g * length r) t) ≡ false) → seek_row r t i n ≡ j
unfolding seek_row
seek_row_first r t i zero j a b here before = omega arith
seek_row_first r t i (suc n) j a b here before =
    go (case (begins r (drop (i * length r) t))) (λ l. seek_row_first r t (suc i) n j l (omega arith) (λ q. here (omega arith)) before)
  where
    go : (begins r (drop (i * length r) t) ≡ true) ⊎ (begins r (drop (i * length r) t) ≡ false) → (suc i ≤ j → seek_row r t (suc i) n ≡ j) → seek_row r t i (suc n) ≡ j
    go (inl e) next = rw (e, seek_row) (at (dec_lt i j))
      where
        at : Dec (i < j) → i ≡ j
        at (yes l) = not_both (begins r (drop (i * length r) t)) e (before i l)
        at (no l) = omega arith
    go (inr e) next = rw (e, seek_row) (next (at (dec_lt i j)))
      where
        at : Dec (i < j) → suc i ≤ j
        at (yes l) = omega arith
        at (no l) =
            let q : j ≡ i = omega arith in
            not_both (begins r (drop (j * length r) t)) (here (omega arith)) (ap (λ (m : ℕ). begins r (drop (m * length r) t)) q ∙ e)

-- where a walk that stands at h - 1 finds its link
link_of_lem : (size h : ℕ) → 0 < h → link_at size (h - 1) ≡ size - 512 - h
link_of_lem size h positive = let e : h - 1 + 1 ≡ h = omega arith in ap (λ (x : ℕ). size - 512 - x) e

-- the walk through a bucket: `first` is the first row met that is r, or the number of rows

module _ (terms : List ℕ) (n : ℕ) (r : List ℕ) where
  -- a row behind those that are to come is r only from `first` on
  abbrev pub NotBefore : ℕ → ℕ → Type 0
  NotBefore first g = begins r (drop (g * 10) terms) ≡ true → first ≤ g

  pub record Met (first h : ℕ) : Type 0 where
    pub walked : Walked (bucket_at 10 (bucket_of (length terms)) terms) (bucket_of (length terms) r) n h (NotBefore first)
    pub within : first ≤ n
    pub ahead : h ≤ first
    pub is : first < n → begins r (drop (first * 10) terms) ≡ true

module _ {terms : List ℕ} {n : ℕ} (k : KeptTerms terms n) (r : List ℕ) (ten : length r ≡ 10) where
  pub met_none : Met terms n r n (get_or terms (bucket_of (length terms) r) 0)
  met_none =
      let w = k.wide in
      let (a, b) = term_bucket_range (length terms) r (omega arith) in
      let walked = walk_begins k.hashed (NotBefore terms n r n) r a b in
      record { walked = walked; within = omega arith; ahead = walked.most; is = λ h. absurd (omega arith) }

  -- a term that is r is the first met so far
  pub met_here : (first h : ℕ) → 0 < h → Met terms n r first h → begins r (drop ((h - 1) * 10) terms) ≡ true
      → Met terms n r (h - 1) (get_or terms (length terms - 512 - h) 0)
  met_here first h positive m e =
      let a = m.within in
      let b = m.ahead in
      let l = link_most k.hashed (h - 1) (let c = m.walked.most in omega arith) in
      let less = walked_weaker (NotBefore terms n r first) (NotBefore terms n r (h - 1)) (λ g c d q. omega (arith, d q)) m.walked in
      subst (λ (at : ℕ). Met terms n r (h - 1) (get_or terms at 0)) (link_of_lem (length terms) h positive)
      (record {
        walked = walk_goes_on k.hashed (NotBefore terms n r (h - 1)) (bucket_of (length terms) r) h positive less (λ q. omega arith);
        within = omega arith;
        ahead = l;
        is = λ q. e;
      })

  -- any other is passed by
  pub met_other : (first h : ℕ) → 0 < h → Met terms n r first h → begins r (drop ((h - 1) * 10) terms) ≡ false
      → Met terms n r first (get_or terms (length terms - 512 - h) 0)
  met_other first h positive m e =
      let b = m.ahead in
      let l = link_most k.hashed (h - 1) (let c = m.walked.most in omega arith) in
      subst (λ (at : ℕ). Met terms n r first (get_or terms at 0)) (link_of_lem (length terms) h positive)
      (record {
        walked =
            walk_goes_on k.hashed (NotBefore terms n r first) (bucket_of (length terms) r) h positive m.walked
            (λ q. not_both (begins r (drop ((h - 1) * 10) terms)) q e);
        within = m.within;
        ahead = omega arith;
        is = m.is;
      })

  -- it ends
  pub met_less : (first h : ℕ) → 0 < h → Met terms n r first h → get_or terms (length terms - 512 - h) 0 < h
  met_less first h positive m =
      let c = m.walked.most in
      let l = link_most k.hashed (h - 1) (omega arith) in
      omega (arith, ap (λ (at : ℕ). get_or terms at 0) (link_of_lem (length terms) h positive))

  pub met_all : (first h : ℕ) → h ≤ 0 → Met terms n r first h → first ≡ find_row r n terms
  unfolding find_row
  met_all first h z m =
      let all : (g : ℕ) → g < n → NotBefore terms n r first g =
      λ g l. walked_all (NotBefore terms n r first) m.walked (λ i d q. not_both (begins r (drop (i * 10) terms)) q (bucket_apart 10 (bucket_of (length terms)) terms r ten i d)) g (omega arith) l in
      let a = m.within in
      sym
      (seek_row_first r terms 0 n first (omega arith) (omega arith) (λ q. rw ten (m.is (omega arith)))
      (λ g l. rw ten (is_false (begins r (drop (g * 10) terms)) (λ q. omega (arith, all g (omega arith) q)))))

-- one term more

module _ {terms : List ℕ} {n : ℕ} (k : KeptTerms terms n) (room : suc n * 12 ≤ length terms) (r : List ℕ) (ten : length r ≡ 10) where
  pub term_placed : Placed 10 (link_at (length terms)) (bucket_of (length terms)) (length terms - 512) terms r n
  term_placed =
      let w = k.wide in
      let (a, b) = term_bucket_range (length terms) r (omega arith) in
      record {
        wide = ten;
        low = a;
        high = b;
        behind = λ i h. omega arith;
        before = λ i h. omega arith;
        apart = λ i h e. omega arith;
      }

  more_terms_rows : rows 10 (suc n) (more_terms terms n r) ≡ rows 10 n terms ++ (r ∷ [])
  more_terms_rows = appended_rows k.hashed term_placed

  more_terms_kept : suc n < 65536 → KeptTerms (more_terms terms n r) (suc n)
  more_terms_kept few =
      let l = appended_length k.hashed term_placed in
      let w = k.wide in
      record {
        wide = omega arith;
        fits = omega arith;
        few = few;
        hashed = subst (λ (size : ℕ). Hashed 10 (link_at size) (bucket_of size) (size - 512) (more_terms terms n r) (suc n)) (sym l) (appended_hashed k.hashed term_placed);
      }

  -- what it holds
  pub term_appended : suc n < 65536 → {next : List ℕ} → next ≡ more_terms terms n r → (rows 10 (suc n) next ≡ rows 10 n terms ++ (r ∷ [])) × KeptTerms next (suc n)
  term_appended few e = (ap (rows 10 (suc n)) e ∙ more_terms_rows, subst (λ (t : List ℕ). KeptTerms t (suc n)) (sym e) (more_terms_kept few))

-- There and back at the edge: unpacking what `pack` leaves, and packing what `unpack` leaves. Assumes nothing.
use mathlib.Core.Path.{◌≡◌, sym, ap, ap₂, ◌∙◌}
use mathlib.Core.Bool.{true, false, ◌&&◌}
use mathlib.Core.Logic.{◌⊎◌, inl, inr}
use mathlib.Core.List.{List, ◌++◌}
use Prim.Native.Nat.{ℕ, ◌*◌, ◌≤◌}
use native.Mathlib.Omega.{arith}
use lib.Dec.{leb}
use lib.ListN.{length, take, drop}
use lib.Seq.{take_at}
use borrow.Author.Tests.{le-leb, leb-true}
use Rattle.model.specs.Limits.{terms_front, facts_front}
use Rattle.model.specs.Form.{Writing, done, refusal}
use Rattle.model.specs.Tables.{fronted}
use Rattle.laws.proofs.Bools.{case, and_true, true_and}
use Rattle.laws_tables.specs.Lent.{Fronts}
use Rattle.laws_tables.proofs.Rows.{length_fronted}
use Rattle.columns_model.specs.Differences.{modulus}
use Rattle.columns_model.specs.Store.{store_room, stored, fronts, within, packed, term_count, fact_count, sound, stored_terms, stored_facts, counts, refused, Unpacking, unpacked}
use Rattle.columns_model.proofs.Differences.{Below}
use Rattle.columns_model.proofs.Columns.{length_raised}
use Rattle.columns_model.proofs.Answers.{packed_short, packed_over, packed_good, unpacked_short, unpacked_faulty, unpacked_good}
use Rattle.columns_model.proofs.Stores.{Within, fronts_hold, within_holds, unpacked_stored, parts, stored_same}

-- Where `pack` answers with a count of bytes, these are the store of what it was given.

pub record Stored (t f : ℕ) (terms facts out : List ℕ) (n : ℕ) (bytes : List ℕ) : Type 0 where
  pub within : Within t f
  pub fronts : Fronts terms facts
  pub all : n ≡ length (stored t f terms facts)
  pub left : bytes ≡ stored t f terms facts ++ drop n out

fronts_are : (terms facts : List ℕ) → fronts terms facts ≡ true → Fronts terms facts
unfolding fronts
fronts_are terms facts e = let (a, b) = and_true _ _ e in record { terms = leb-true _ _ a; facts = leb-true _ _ b }

within_is : (t f : ℕ) → within t f ≡ true → Within t f
unfolding within
within_is t f e = let (a, b) = and_true _ _ e in record { terms = leb-true _ _ a; facts = leb-true _ _ b }

pub packed_stored : (t f : ℕ) (terms facts out : List ℕ) (n : ℕ) (bytes : List ℕ) → packed t f terms facts out ≡ record { answer = done n; bytes = bytes }
    → Stored t f terms facts out n bytes
packed_stored t f terms facts out n bytes e = go (case (fronts terms facts && leb store_room (length out))) (case (within t f))
  where
    other : (m : ℕ) → packed t f terms facts out ≡ record { answer = refusal m 0; bytes = out } → ⊥
    other m p =
        let a : done n ≡ refusal m 0 = ap (λ (x : Writing). x.answer) (sym e ∙ p) in
        let z : ◌≡◌ {A = ℕ} 0 1 = cc in
        omega arith

    go : (fronts terms facts && leb store_room (length out) ≡ true) ⊎ (fronts terms facts && leb store_room (length out) ≡ false)
        → (within t f ≡ true) ⊎ (within t f ≡ false) → Stored t f terms facts out n bytes
    go (inr s) w = absurd (other 1 (packed_short t f terms facts out s))
    go (inl l) (inr s) = absurd (other 26 (packed_over t f terms facts out l s))
    go (inl l) (inl s) =
        let p = sym e ∙ packed_good t f terms facts out l s in
        let a : done n ≡ done (length (stored t f terms facts)) = ap (λ (x : Writing). x.answer) p in
        let q : n ≡ length (stored t f terms facts) = cc in
        let r : bytes ≡ stored t f terms facts ++ drop (length (stored t f terms facts)) out = ap (λ (x : Writing). x.bytes) p in
        record { within = within_is t f s; fronts = fronts_are terms facts (and_true _ _ l).0; all = q; left = r ∙ ap (λ (k : ℕ). stored t f terms facts ++ drop k out) (sym q) }

-- Unpacking a packed store gives both counts and their records exactly, zeros after, whatever the numbers.
pub unpacked_packed : (t f : ℕ) (terms facts out : List ℕ) (n : ℕ) (bytes : List ℕ) → packed t f terms facts out ≡ record { answer = done n; bytes = bytes }
    → Below modulus terms → Below modulus facts → (terms₀ facts₀ : List ℕ) → Fronts terms₀ facts₀
    → unpacked (take n bytes) terms₀ facts₀
    ≡ record { answer = counts t f; terms = fronted terms_front (take (t * 10) terms) terms₀; facts = fronted facts_front (take (f * 5) facts) facts₀ }
unpacked_packed t f terms facts out n bytes e h k terms₀ facts₀ l =
    let s = packed_stored t f terms facts out n bytes e in
    let p : take n bytes ≡ stored t f terms facts = ap (take n) s.left ∙ take_at (stored t f terms facts) (drop n out) n (sym s.all) in
    ap (λ (bs : List ℕ). unpacked bs terms₀ facts₀) p ∙ unpacked_stored t f terms facts s.within s.fronts h k terms₀ facts₀ l

-- Where `unpack` answers with counts, the bytes are a store, and the tables have its records.

pub record Spelled (bs terms₀ facts₀ : List ℕ) (t f : ℕ) (terms facts : List ℕ) : Type 0 where
  pub sound : sound bs ≡ true
  pub fronts : Fronts terms₀ facts₀
  pub term_count_is : t ≡ term_count bs
  pub fact_count_is : f ≡ fact_count bs
  pub terms_left : terms ≡ fronted terms_front (stored_terms bs) terms₀
  pub facts_left : facts ≡ fronted facts_front (stored_facts bs) facts₀

pub unpacked_spelled : (bs terms₀ facts₀ : List ℕ) (t f : ℕ) (terms facts : List ℕ)
    → unpacked bs terms₀ facts₀ ≡ record { answer = counts t f; terms = terms; facts = facts } → Spelled bs terms₀ facts₀ t f terms facts
unpacked_spelled bs terms₀ facts₀ t f terms facts e = go (case (fronts terms₀ facts₀)) (case (sound bs))
  where
    other : (m : ℕ) → unpacked bs terms₀ facts₀ ≡ record { answer = refused m 0; terms = terms₀; facts = facts₀ } → ⊥
    other m p =
        let a : counts t f ≡ refused m 0 = ap (λ (x : Unpacking). x.answer) (sym e ∙ p) in
        let z : ◌≡◌ {A = ℕ} 0 1 = cc in
        omega arith

    go : (fronts terms₀ facts₀ ≡ true) ⊎ (fronts terms₀ facts₀ ≡ false) → (sound bs ≡ true) ⊎ (sound bs ≡ false) → Spelled bs terms₀ facts₀ t f terms facts
    go (inr s) w = absurd (other 1 (unpacked_short bs terms₀ facts₀ s))
    go (inl l) (inr s) = absurd (other 26 (unpacked_faulty bs terms₀ facts₀ l s))
    go (inl l) (inl s) =
        let p = sym e ∙ unpacked_good bs terms₀ facts₀ l s in
        let a : counts t f ≡ counts (term_count bs) (fact_count bs) = ap (λ (x : Unpacking). x.answer) p in
        record {
          sound = s;
          fronts = fronts_are terms₀ facts₀ l;
          term_count_is = (cc);
          fact_count_is = (cc);
          terms_left = ap (λ (x : Unpacking). x.terms) p;
          facts_left = ap (λ (x : Unpacking). x.facts) p;
        }

-- what a store spells is laid down as its bytes
stored_back : (bs terms₀ facts₀ : List ℕ) (t f : ℕ) (terms facts : List ℕ) → Below 256 bs → Spelled bs terms₀ facts₀ t f terms facts → stored t f terms facts ≡ bs
stored_back bs terms₀ facts₀ t f terms facts h s =
    (λ i. stored (s.term_count_is i) (s.fact_count_is i) (s.terms_left i) (s.facts_left i)) ∙ stored_same bs s.sound h terms₀ facts₀

-- the tables are as long as they were

records_fit : (bs : List ℕ) → sound bs ≡ true → (length (stored_terms bs) ≤ terms_front) × (length (stored_facts bs) ≤ facts_front)
unfolding stored_terms stored_facts
records_fit bs good =
    let p = (parts bs good).few in
    let i = p.terms in
    let j = p.facts in (rw length_raised (omega arith), rw length_raised (omega arith))

fronts_left : (bs terms₀ facts₀ : List ℕ) (t f : ℕ) (terms facts : List ℕ) → Spelled bs terms₀ facts₀ t f terms facts → Fronts terms facts
fronts_left bs terms₀ facts₀ t f terms facts s =
    let (i, j) = records_fit bs s.sound in
    let k = ap length s.terms_left ∙ length_fronted terms_front (stored_terms bs) terms₀ i s.fronts.terms in
    let l = ap length s.facts_left ∙ length_fronted facts_front (stored_facts bs) facts₀ j s.fronts.facts in
    let m = s.fronts.terms in
    let n = s.fronts.facts in
    record { terms = omega arith; facts = omega arith }

-- Packing an unpacked store gives its bytes.
pub packed_unpacked : (bs terms₀ facts₀ : List ℕ) (t f : ℕ) (terms facts : List ℕ) → Below 256 bs
    → unpacked bs terms₀ facts₀ ≡ record { answer = counts t f; terms = terms; facts = facts } → (out : List ℕ) → store_room ≤ length out
    → packed t f terms facts out ≡ record { answer = done (length bs); bytes = bs ++ drop (length bs) out }
packed_unpacked bs terms₀ facts₀ t f terms facts h e out l =
    let s = unpacked_spelled bs terms₀ facts₀ t f terms facts e in
    packed_good t f terms facts out (true_and _ _ (fronts_hold (fronts_left bs terms₀ facts₀ t f terms facts s)) (le-leb _ _ l))
    (ap₂ within s.term_count_is s.fact_count_is ∙ within_holds (parts bs s.sound).few)
    ∙ ap (λ (cs : List ℕ). record { answer = done (length cs); bytes = cs ++ drop (length cs) out }) (stored_back bs terms₀ facts₀ t f terms facts h s)

-- So a store has one meaning, and a meaning one store: two that unpack to the same counts and tables are the same bytes.
pub one_store : (bs cs terms₀ facts₀ : List ℕ) (t f : ℕ) (terms facts : List ℕ) → Below 256 bs → Below 256 cs
    → unpacked bs terms₀ facts₀ ≡ record { answer = counts t f; terms = terms; facts = facts }
    → unpacked cs terms₀ facts₀ ≡ record { answer = counts t f; terms = terms; facts = facts } → bs ≡ cs
one_store bs cs terms₀ facts₀ t f terms facts h k p q =
    sym (stored_back bs terms₀ facts₀ t f terms facts h (unpacked_spelled bs terms₀ facts₀ t f terms facts p))
    ∙ stored_back cs terms₀ facts₀ t f terms facts k (unpacked_spelled cs terms₀ facts₀ t f terms facts q)

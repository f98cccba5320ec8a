-- The head and the columns, written one after the other, are the store. Assumes nothing.
use mathlib.Core.Path.{◌≡◌, sym, ap, ap₂, ◌∙◌}
use mathlib.Core.Bool.{true, ◌&&◌}
use mathlib.Core.List.{List, ◌∷◌, ◌++◌}
use Prim.Native.Nat.{ℕ, ◌+◌, ◌-◌, ◌*◌, ◌≤◌}
use native.Mathlib.Omega.{arith}
use lib.Dec.{leb}
use lib.ListN.{length, drop}
use lib.Seq.{sets, sets-eq}
use Rattle.model.specs.Lists.{collect}
use Rattle.model.specs.Format.{big_endian}
use Rattle.model.specs.Form.{done}
use Rattle.laws.proofs.Lists.{collect_append}
use Rattle.columns_model.specs.Differences.{two_bytes}
use Rattle.columns_model.specs.Columns.{laid}
use Rattle.columns_model.specs.Store.{head_length, store_room, numbers, content, stored, store_length, fronts, within, packed}
use Rattle.columns_model.proofs.Differences.{length_bytes}
use Rattle.columns_model.proofs.Columns.{length_laid}
use Rattle.columns_model.proofs.Answers.{packed_good}
use Rattle.columns.proofs.ColumnsLeft.{sets_append}
use Rattle.columns_model.proofs.Stores.{length_content, length_stored}

-- what `put_head` writes
abbrev head : ℕ → ℕ → List ℕ
head t f = big_endian (store_length t f - 4) ++ (1 ∷ (two_bytes t ++ two_bytes f))

module _ (t f : ℕ) (terms facts : List ℕ) where
  abbrev term_bytes : List ℕ
  term_bytes = collect two_bytes (laid 10 t terms)

  abbrev fact_bytes : List ℕ
  fact_bytes = collect two_bytes (laid 5 f facts)

  parts_stored : (head t f ++ term_bytes) ++ fact_bytes ≡ stored t f terms facts
  unfolding stored content numbers big_endian two_bytes
  parts_stored =
      let e : store_length t f - 4 ≡ length (content t f terms facts) = let l = length_content t f terms facts in omega arith in
      ap₂ (λ (m : ℕ) (l : List ℕ). big_endian m ++ (1 ∷ (two_bytes t ++ (two_bytes f ++ l)))) e
      (sym (collect_append two_bytes (laid 10 t terms) (laid 5 f facts)))

  length_terms : length term_bytes ≡ t * 20
  length_terms = let a = length_bytes (laid 10 t terms) in let b = length_laid 10 t terms in omega arith

  pub packed_written : (out o p q : List ℕ) (n : ℕ) → fronts terms facts && leb store_room (length out) ≡ true → within t f ≡ true → store_length t f ≤ length out
      → o ≡ sets out 0 (head t f) → p ≡ sets o head_length term_bytes → q ≡ sets p (head_length + t * 20) fact_bytes → n ≡ store_length t f
      → packed t f terms facts out ≡ record { answer = done n; bytes = q }
  unfolding big_endian two_bytes
  packed_written out o p q n long few room a b c e =
      let h : List ℕ = head t f in
      let s : List ℕ = stored t f terms facts in
      let i : head_length + t * 20 ≡ 0 + length (h ++ term_bytes) = let l = length_terms in omega arith in
      let k : q ≡ sets out 0 s =
      c
      ∙ ap₂ (λ (l : List ℕ) (m : ℕ). sets l m fact_bytes) (b ∙ ap (λ (l : List ℕ). sets l head_length term_bytes) a ∙ sym (sets_append h term_bytes out 0)) i
      ∙ sym (sets_append (h ++ term_bytes) fact_bytes out 0)
      ∙ ap (sets out 0) parts_stored
      in
      let l : length s ≡ store_length t f = length_stored t f terms facts in
      let z : 0 + length s ≡ length s = omega arith in
      let w : q ≡ s ++ drop (length s) out = k ∙ sets-eq s out 0 (omega arith) ∙ ap (λ (m : ℕ). s ++ drop m out) z in
      packed_good t f terms facts out long few ∙ ap₂ (λ (m : ℕ) (bytes : List ℕ). record { answer = done m; bytes = bytes }) (l ∙ sym e) (sym w)

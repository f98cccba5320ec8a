-- What `print` leaves is what the definition gives: for a list too short, for a number that is no depth, and for an answer of the check whose text was written. Assumes nothing.
use mathlib.Core.Path.{◌≡◌, refl, sym, ap, ◌∙◌, subst}
use mathlib.Core.List.{List, ◌++◌}
use Prim.Native.Nat.{ℕ, ◌≤◌, ◌<◌}
use native.Mathlib.Nat.{zero-add}
use native.Mathlib.Omega.{arith}
use lib.ListN.{length, take, drop, replicate, length-replicate}
use lib.Seq.{take_at}
use borrow.Author.Tests.{le-leb, lt-leb}
use Rattle.model.specs.Form.{done, refusal}
use Rattle.model.specs.Limits.{input_limit, terms_front, facts_front, program_depth}
use Rattle.model.specs.Tables.{Checked, checked}
use Rattle.model.specs.Text.{text, text_of, printed}
use Rattle.laws_tables.specs.Lent.{Depth}
use Rattle.laws_tables.proofs.Courses.{is_depth_lem, not_depth}
use Rattle.std.specs.Prelude.{Result}
use Rattle.refusal.specs.declared.Refused.{Refused}
use Rattle.reader.specs.Transfer.{transfer_of}
use Rattle.judging.specs.declared.verdict.Verdict.{Verdict}
use Rattle.judging.specs.Verdict.{meant}
use Rattle.tables.specs.Rows.{written}
use Rattle.text.specs.Writing.{Room, Writes}
use Rattle.text.specs.Legible.{Legible}
use Rattle.report.specs.Printing.{Printing, printing, text_room, Prints}
use Rattle.report.proofs.Arities.{Declares}
use Rattle.report.proofs.Legible.{checked_legible}
use Rattle.report.proofs.Printed.{checked_text, checked_room}

-- the answer of a check, whatever its tables held before

abbrev answered : Verdict → List ℕ → List ℕ → Checked
answered v terms facts = record { verdict = meant v; terms = terms; facts = facts }

module _ {bytes as' : List ℕ} (d : Declares bytes as') (depth : ℕ) (terms₀ facts₀ : List ℕ) (v : Verdict) (terms facts : List ℕ) (e : checked depth bytes terms₀ facts₀ ≡ answered v terms facts) where
  pub answer_legible : Legible as' v terms facts
  answer_legible =
      subst (λ (c : Checked). Legible as' v c.terms c.facts) e (checked_legible depth bytes terms₀ facts₀ as' d v (ap (λ (c : Checked). c.verdict) e))

  pub answer_text : text as' (meant v) terms facts ≡ text_of bytes (answered v terms facts)
  answer_text = subst (λ (c : Checked). text as' c.verdict c.terms c.facts ≡ text_of bytes c) e (checked_text depth bytes terms₀ facts₀ as' d)

  pub answer_room : (out : List ℕ) → text_room ≤ length out → Room (text as' (meant v) terms facts) 0 out
  answer_room out l =
      subst (λ (c : Checked). Room (text as' c.verdict c.terms c.facts) 0 out) e (checked_room depth bytes terms₀ facts₀ as' out d l)

module _ (depth : ℕ) (bytes terms facts out : List ℕ) where
  abbrev untouched : ℕ → Printing
  untouched n = record { answer = refusal n 0; terms = terms; facts = facts; out = out }

  pub terms_short : length terms < terms_front → printing depth bytes terms facts out ≡ untouched 1
  unfolding printing
  terms_short h = rw (lt-leb terms_front (length terms) h, printing)

  pub facts_short : terms_front ≤ length terms → length facts < facts_front → printing depth bytes terms facts out ≡ untouched 1
  unfolding printing
  facts_short h k = rw (le-leb terms_front (length terms) h, lt-leb facts_front (length facts) k, printing)

  pub out_short : terms_front ≤ length terms → facts_front ≤ length facts → length out < text_room → printing depth bytes terms facts out ≡ untouched 1
  unfolding printing
  out_short h k l = rw (le-leb terms_front (length terms) h, le-leb facts_front (length facts) k, lt-leb text_room (length out) l, printing)

  module _ (h : terms_front ≤ length terms) (k : facts_front ≤ length facts) (l : text_room ≤ length out) where
    pub no_depth : (Depth depth → ⊥) → printing depth bytes terms facts out ≡ untouched 18
    unfolding printing
    no_depth d = rw (le-leb terms_front (length terms) h, le-leb facts_front (length facts) k, le-leb text_room (length out) l, not_depth depth d, printing)

    abbrev printed_as : Checked → Printing
    printed_as c =
        record { answer = done (length (text_of bytes c)); terms = c.terms; facts = c.facts; out = text_of bytes c ++ drop (length (text_of bytes c)) out }

    long : Depth depth → printing depth bytes terms facts out ≡ printed_as (checked depth bytes terms facts)
    unfolding printing
    long d = rw (le-leb terms_front (length terms) h, le-leb facts_front (length facts) k, le-leb text_room (length out) l, is_depth_lem depth d, printing)

    pub print_done : Depth depth → (c : Checked) → checked depth bytes terms facts ≡ c → {out' : List ℕ} {r : ℕ} → Writes (text_of bytes c) 0 out out' r
        → printing depth bytes terms facts out ≡ record { answer = done r; terms = c.terms; facts = c.facts; out = out' }
    unfolding written
    print_done d c e {out'} {r} w =
        let s : List ℕ = text_of bytes c in
        let p : length s ≡ r = sym (w.next ∙ zero-add (length s)) in
        let q : s ++ drop (length s) out ≡ out' = sym (w.left ∙ ap (λ (n : ℕ). s ++ drop n out) (zero-add (length s))) in
        long d ∙ ap printed_as e ∙ (λ i. record { answer = done (p i); terms = c.terms; facts = c.facts; out = q i })

-- what the program prints: the first bytes of its input, depth 1, and tables of zeros
module _ (input out : List ℕ) (l : text_room ≤ length out) where
  abbrev first_bytes : List ℕ
  first_bytes = take input_limit input

  abbrev zero_terms : List ℕ
  zero_terms = replicate terms_front 0

  abbrev zero_facts : List ℕ
  zero_facts = replicate facts_front 0

  terms_long : terms_front ≤ length zero_terms
  terms_long = let a = length-replicate {A = ℕ} terms_front 0 in omega arith

  facts_long : facts_front ≤ length zero_facts
  facts_long = let a = length-replicate {A = ℕ} facts_front 0 in omega arith

  printing_printed : printing program_depth first_bytes zero_terms zero_facts out
      ≡ printed_as program_depth first_bytes zero_terms zero_facts out terms_long facts_long l (checked program_depth first_bytes zero_terms zero_facts)
  printing_printed = long program_depth first_bytes zero_terms zero_facts out terms_long facts_long l (omega arith, omega arith)

  -- whatever `print` answers then, it is how many bytes `printed` has, and these stand first
  pub program_prints : (r : Result ℕ Refused) {terms facts left : List ℕ} → Prints program_depth first_bytes zero_terms zero_facts out r terms facts left
      → (transfer_of r ≡ done (length (printed input))) × (take (length (printed input)) left ≡ printed input)
  unfolding printed
  program_prints r {terms} {facts} {left} p =
      let e = sym p ∙ printing_printed in (
        ap (λ (x : Printing). x.answer) e,
        ap (λ (x : Printing). take (length (printed input)) x.out) e ∙ take_at (printed input) (drop (length (printed input)) out) (length (printed input)) refl,
      )

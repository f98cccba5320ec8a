-- `report::write_answer` meets its contract: the form that was read has the arities, and the tables of an answer are legible. Assumes nothing.
use mathlib.Core.Path.{◌≡◌, ap, subst}
use mathlib.Core.List.{List}
use Prim.Native.Nat.{ℕ}
use native.Mathlib.Omega.{arith}
use lib.ListN.{take, drop, replicate, length-replicate}
use Rattle.model.specs.Form.{Transfer, arities_place, form_length, Reading, reading}
use Rattle.report.proofs.Arities.{Declares, reading_declares}
use Rattle.report.proofs.Printing.{answer_legible, answer_text, answer_room}
use Rattle.report.proofs.write_answer.Goals as goal

-- the arities of a form that was read
declares : (bytes form : List ℕ) (a : Transfer) → reading bytes (replicate form_length 0) ≡ record { answer = a; form = form }
    → Declares bytes (take 1024 (drop arities_place form))
declares bytes form a e =
    subst (λ (f : List ℕ). Declares bytes (take 1024 (drop arities_place f))) (ap (λ (x : Reading). x.form) e)
    (reading_declares bytes (replicate form_length 0) (omega (arith, length-replicate {A = ℕ} form_length 0)))

pub write_text-requires : goal.write_text-requires
write_text-requires c =
    let a = c.args in
    let d = declares a.bytes.now c.read.new.form _ c.read.ensures in
    let (depth, terms₀, facts₀, e) = c.requires.0 in (
      answer_legible d depth terms₀ facts₀ a.verdict a.terms.now a.facts.now e,
      answer_room d depth terms₀ facts₀ a.verdict a.terms.now a.facts.now e a.out.now c.requires.1,
    )

pub returns : goal.returns
returns c =
    let a = c.args in
    let d = declares a.bytes.now c.read.new.form _ c.read.ensures in
    let (depth, terms₀, facts₀, e) = c.requires.0 in
    rw (answer_text d depth terms₀ facts₀ a.verdict a.terms.now a.facts.now e) at c.write_text.ensures

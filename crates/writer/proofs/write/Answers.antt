-- `writer::write` meets its contract: the parse of the bytes that the form spells decides, and what was written is these bytes.
-- Assumes nothing.
use mathlib.Core.Path.{◌≡◌, sym, ap, ◌∙◌}
use mathlib.Core.List.{List, [], append-nil}
use Prim.Native.Nat.{ℕ, ◌≤◌}
use native.Mathlib.Omega.{arith}
use lib.ListN.{length, take}
use Rattle.std.specs.Prelude.{Result, Ok, ⊤}
use Rattle.model.specs.Format.{good, rule_set, content, bytes_of}
use Rattle.model.specs.Form.{decoded}
use Rattle.laws_format.proofs.Bytes.{bytes_of_length, drop_bytes_of}
use Rattle.laws_format.proofs.RoundTrip.{writing_bad, writing_short}
use Rattle.refusal.specs.declared.Refused.{Refused}
use Rattle.parsing.specs.Step.{none}
use Rattle.parsing.specs.declared.Parsed.{Parsed as Read}
use Rattle.parsing.proofs.Parsing.{Parses, step_good, step_bad, handed_on}
use Rattle.writer.specs.Writes.{Agree, Writes, Written, parsed_content}
use Rattle.writer.proofs.Bytes.{content_bad, content_end, write_whole}
use Rattle.writer.proofs.write.Goals as goal

abbrev bytes : List ℕ → List ℕ
bytes form = bytes_of (decoded form)

module _ (form : List ℕ) {before local : List ℕ} where
  -- the run on the bytes of the form's rule set
  ran : {r : Result (Read ⊤) Refused} → Writes none parsed_content 4 (content (decoded form)) before r local → Written none (parsed_content (bytes form)) (bytes form) [] r local
  ran w = w.run (bytes form) [] (drop_bytes_of (decoded form) ∙ sym (append-nil _)) (record { at = λ k l m. absurd (omega arith) })

  module _ {x : Read ⊤} (w : Writes none parsed_content 4 (content (decoded form)) before (Ok x) local) where
    parsed : Parses none (parsed_content (bytes form)) x.value x.next
    parsed = step_good none _ _ _ (ran w).answer

    ended : (rule_set (bytes form) ≡ good parsed.result x.next) × (x.next ≡ length (bytes form))
    ended = content_end form parsed.result _ parsed.parse

    least : 4 ≤ x.next
    least = let e = ended.1 in let l = bytes_of_length (decoded form) in omega arith

    stored : Agree (bytes form) x.next local
    stored = (ran w).stored parsed.result _ parsed.parse

pub returns-in_err-end : goal.returns-in_err-end
returns-in_err-end c =
    rw (handed_on c.from_residual.ensures.1)
    (writing_bad _ _ _ _ (content_bad c.args.form.now _ _ (step_bad none _ _ _ (ran c.args.form.now c.in_err-end.ensures.written).answer)))

pub returns-then-out-end : goal.returns-then-out-end
returns-then-out-end c = let h = ended c.args.form.now c.in_ok-end.ensures.written in writing_short _ _ _ _ h.0 (let e = h.1 in omega arith)

pub put_length-requires : goal.put_length-requires
put_length-requires c =
    let e = c.in_ok-end.ensures in
    let h = least c.args.form.now e.written in
    let l = c.put_content.auto.out in
    let m = e.end in
    (h, omega arith, omega arith)

pub returns : goal.returns
returns c =
    let form = c.args.form.now in
    let e = c.in_ok-end.ensures in
    let h = ended form e.written in
    write_whole form c.put_content.new.out _ (stored form e.written) c.put_content.auto.out (let m = e.end in omega arith) h.1 _ _ _ h.0 c.if-out-end.false
    (c.copy_from_slice.ensures.after ∙ ap (take c.in_ok-end.field-0.next) c.put_length.ensures)

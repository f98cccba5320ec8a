-- `reader::after_arities` meets its contract: count, version, arities and rules into the form, and then the end of the bytes.
-- Assumes nothing.
use native.Mathlib.Omega.{arith}
use lib.ListN.{length-set}
use Rattle.model.specs.Format.{signed}
use Rattle.parsing.specs.Step.{none, parsed_rules}
use Rattle.reader.specs.Parts.{after_arities}
use Rattle.parsing.proofs.Lists.{zeros_length}
use Rattle.parsing.proofs.Parsing.{Parses, handed_on, step_good, step_bad, refuses}
use Rattle.reader.proofs.FormRow.{first_length, listed_length, rules_zeros, form_encoded, ends_good, ends_bad}
use Rattle.reader.proofs.after_arities.Goals as goal
use Rattle.reader.proofs.after_arities.Goals.{In_ok-read}

pub bounds-form-0 : goal.bounds-form-0
bounds-form-0 c = omega (arith, zeros_length 7812 _ c.requires.form_value)

pub bounds-form-7810 : goal.bounds-form-7810
bounds-form-7810 c = simp length-set (omega (arith, zeros_length 7812 _ c.requires.form_value))

pub slice_bounds-copy_from_slice-end : goal.slice_bounds-copy_from_slice-end
slice_bounds-copy_from_slice-end c = omega (arith, first_length c.args.form.now c.from.result c.args.arities.now c.requires.form_value, c.requires.arities.few)

pub slice_bounds-rules-end : goal.slice_bounds-rules-end
slice_bounds-rules-end c = omega (arith, listed_length c.args.form.now c.from.result c.args.arities.now c.requires.form_value c.requires.arities.few _ c.copy_from_slice.ensures.after)

pub rules-requires-clause-row_value : goal.rules-requires-clause-row_value
rules-requires-clause-row_value c = rules_zeros _ _ _ c.requires.form_value c.requires.arities.few _ c.copy_from_slice.ensures.after

read : (c : In_ok-read) → Parses none (parsed_rules c.args.bytes.now (signed c.args.version c.args.arities.now) c.args.i) c.in_ok-read.read.value c.in_ok-read.read.next
read c = step_good none _ _ _ c.in_ok-read.ensures.answer

pub returns-in_err-read : goal.returns-in_err-read
unfolding after_arities
returns-in_err-read c = rw (handed_on c.from_residual.ensures.1) (refuses _ _ _ _ _ _ (step_bad none _ _ _ c.in_err-read.ensures.answer))

pub returns-then-read-bytes : goal.returns-then-read-bytes
returns-then-read-bytes c =
    let p = read (goal.at.returns-then-read-bytes c).In_ok-read in
    ends_good _ _ _ _ _ _ _ p.parse c.if-read-bytes.true
    (form_encoded _ _ _ c.requires.form_value c.requires.arities.few _ c.copy_from_slice.ensures.after _ _ _ c.from.ensures (c.in_ok-read.ensures.stored _ _ p.parse))

pub returns : goal.returns
returns c = ends_bad _ _ _ _ _ _ _ (read (goal.at.returns c).In_ok-read).parse c.if-read-bytes.false

-- `reader::read` meets its contract: the refusals in their order, and a copy of the form that was filled. Assumes nothing.
use mathlib.Core.Path.{refl, sym, ◌∙◌}
use lib.Seq.{length-take-le}
use Rattle.parsing.specs.Step.{zeros}
use Rattle.parsing.proofs.Parsing.{handed_on}
use Rattle.laws_format.proofs.RoundTrip.{reading_short}
use Rattle.reader.proofs.Reading.{afresh_refused, afresh_copied}
use Rattle.reader.proofs.read.Goals as goal

pub returns-then-form-lt-LENGTH : goal.returns-then-form-lt-LENGTH
returns-then-form-lt-LENGTH c = reading_short _ _ c.if-form-lt-LENGTH.true

pub read_afresh-requires : goal.read_afresh-requires
unfolding zeros
read_afresh-requires c = refl

pub returns-in_err-end : goal.returns-in_err-end
returns-in_err-end c = rw (handed_on c.from_residual.ensures.1) (afresh_refused _ _ c.if-form-lt-LENGTH.false _ _ c.in_err-end.ensures)

pub copy_from_slice-requires : goal.copy_from_slice-requires
copy_from_slice-requires c = length-take-le 7812 c.args.form.now c.if-form-lt-LENGTH.false ∙ sym c.read_afresh.auto.form

pub returns : goal.returns
returns c = rw c.copy_from_slice.ensures.after (afresh_copied _ _ c.if-form-lt-LENGTH.false _ _ c.in_ok-end.ensures)

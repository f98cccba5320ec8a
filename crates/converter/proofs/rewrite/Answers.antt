-- `converter::rewrite` meets its contract: what was read, with another version in its form, is written. Assumes nothing.
use mathlib.Core.Path.{refl}
use Rattle.parsing.specs.Step.{zeros}
use Rattle.parsing.proofs.Parsing.{handed_on}
use Rattle.reader.proofs.Reading.{zeros_long, reading_refused}
use Rattle.converter.proofs.Rewriting.{rewriting_bad, rewriting_written}
use Rattle.converter.proofs.rewrite.Goals as goal

pub read_afresh-requires : goal.read_afresh-requires
unfolding zeros
read_afresh-requires c = refl

pub returns-in_err-read_afresh : goal.returns-in_err-read_afresh
returns-in_err-read_afresh c =
    rw (handed_on c.from_residual.ensures.1) (rewriting_bad _ _ _ _ _ (reading_refused _ (zeros _) zeros_long _ _ c.in_err-read_afresh.ensures))

pub returns : goal.returns
returns c = rewriting_written _ _ _ _ _ c.in_ok-read_afresh.ensures (rw c.from.ensures at c.write.ensures)

-- `test_format::forms::put_lines` is safe and ends: each line is after the one before. Assumes nothing.
use Rattle.std.proofs.Common.{length, ◌-◌}
use Rattle.test_format.proofs.forms.put_lines.Given as goal

abbrev pub decreases-loop-at : goal.decreases-loop-at
decreases-loop-at l = length l.text - l.at

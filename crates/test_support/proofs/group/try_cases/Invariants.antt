-- `test_support::group::try_cases` is safe and ends: each line is after the one before. Assumes nothing.
use Rattle.std.proofs.Common.{length, ◌-◌}
use Rattle.test_support.proofs.group.try_cases.Given as goal

abbrev pub decreases-loop-at : goal.decreases-loop-at
decreases-loop-at g l = length l.text - l.at

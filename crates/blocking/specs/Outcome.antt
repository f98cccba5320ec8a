-- Which outcome of a test over rows each case of the answer is. Assumes nothing.
use Rattle.rows.specs.Test as rows
use Rattle.blocking.specs.declared.Outcome.{Outcome}
use Rattle.blocking.specs.declared.Outcome.TheVariants.{Over, Blocked, Free}

abbrev pub outcome_of : Outcome → rows.Outcome
outcome_of Over = rows.over
outcome_of Blocked = rows.blocked
outcome_of Free = rows.free

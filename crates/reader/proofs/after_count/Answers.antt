-- `reader::after_count` meets its contract: the arities, and then what follows them. Assumes nothing.
use mathlib.Core.Path.{◌≡◌, refl}
use lib.ListN.{take}
use Rattle.model.specs.Format.{many, byte}
use Rattle.parsing.specs.Step.{none, zeros}
use Rattle.parsing.proofs.Parsing.{Parses, handed_on, step_good, step_bad, refuses}
use Rattle.reader.specs.Parts.{after_count}
use Rattle.reader.proofs.FormRow.{arities_good, arities_taken, count_filled}
use Rattle.reader.proofs.after_count.Goals as goal
use Rattle.reader.proofs.after_count.Goals.{In_ok-listed}

-- the counted front of the array is the arities

listed : (c : In_ok-listed) → Parses none (many c.args.n (byte c.args.bytes.now 1 4 4) c.args.i) c.in_ok-listed.listed.value c.in_ok-listed.listed.next
listed c = step_good none _ _ _ c.in_ok-listed.ensures.answer

taken : (c : In_ok-listed) → take c.args.n c.many_arities.new.row ≡ (listed c).result
taken c = arities_taken _ _ _ _ _ (listed c).parse c.many_arities.new.row (c.in_ok-listed.ensures.stored _ _ (listed c).parse)

pub many_arities-requires : goal.many_arities-requires
unfolding zeros
many_arities-requires c = (c.requires.1, refl)

pub returns-in_err-listed : goal.returns-in_err-listed
unfolding after_count
returns-in_err-listed c = rw (handed_on c.from_residual.ensures.1) (refuses _ _ _ _ _ _ (step_bad none _ _ _ c.in_err-listed.ensures.answer))

pub after_arities-requires-clause-arities : goal.after_arities-requires-clause-arities
after_arities-requires-clause-arities c =
    let l = (goal.at.after_arities-requires-clause-arities c).In_ok-listed in
    rw (taken l) (arities_good _ _ _ _ _ (listed l).parse c.requires.0 c.requires.1)

pub returns : goal.returns
returns c =
    let l = (goal.at.returns c).In_ok-listed in
    count_filled _ _ _ _ _ (listed l).parse _ _ _ _ (taken l) c.after_arities.ensures

-- `dmfa::check_small` meets its contract. Assumes nothing.
use native.Mathlib.Omega.{arith}
use Rattle.terms.proofs.Kept.{kept_terms_none}
use Rattle.facts.proofs.Kept.{kept_none}
use Rattle.dmfa.proofs.check_small.Goals as goal

pub check_by-requires : goal.check_by-requires
check_by-requires c = (c.requires, kept_terms_none 7680 (omega arith), kept_none 13318 2049 (omega arith) (omega arith))

pub returns : goal.returns
returns c = c.check_by.ensures

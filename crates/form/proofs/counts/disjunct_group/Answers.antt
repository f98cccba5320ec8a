-- `form::counts::disjunct_group` meets its contract. Assumes nothing.
use Rattle.form.proofs.Places.{disjunct_below, disjunct_stands_is}
use Rattle.form.proofs.counts.disjunct_group.Goals as goal

pub disjunct_place-requires : goal.disjunct_place-requires
disjunct_place-requires c = disjunct_below c.requires

pub returns : goal.returns
returns c = let (s, e) = disjunct_stands_is c.requires c.disjunct_place.ensures in (s, e, c.disjunct_place.ensures)

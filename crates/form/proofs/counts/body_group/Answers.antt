-- `form::counts::body_group` meets its contract. Assumes nothing.
use Rattle.form.proofs.Places.{rule_below, body_stands}
use Rattle.form.proofs.counts.body_group.Goals as goal

pub body_place-requires : goal.body_place-requires
body_place-requires c = rule_below c.requires

pub returns : goal.returns
returns c = let (s, e) = body_stands c.requires c.body_place.ensures in (s, e, c.body_place.ensures)

-- `form::atoms::predicate_at` meets its contract. Assumes nothing.
use mathlib.Core.Path.{sym}
use Rattle.form.proofs.Places.{predicate_place}
use Rattle.form.proofs.atoms.predicate_at.Goals as goal

pub returns : goal.returns
returns c = sym (predicate_place c.args.form.now c.args.at)

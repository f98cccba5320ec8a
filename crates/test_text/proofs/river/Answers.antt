-- `test_text::river` is safe: its tables are legible, and the text fits. Assumes nothing.
use mathlib.Core.Path.{refl}
use lib.Dec.{lit≤}
use Rattle.model.specs.Lists.{collect, row}
use Rattle.model.specs.Text.{line, lines, decimal, digits, term_numbers, fact_numbers, records, text}
use Rattle.laws_triggers.specs.Match.{all_below}
use Rattle.test_text.proofs.Tests.{terms_legible, legible_terms, facts_legible, legible_facts}
use Rattle.test_text.proofs.river.Goals as goal

pub show-requires : goal.show-requires
unfolding collect row line lines decimal digits term_numbers fact_numbers records text terms_legible facts_legible all_below
show-requires c = ((legible_terms _ _ refl, legible_facts _ _ _ refl), lit≤ tt)

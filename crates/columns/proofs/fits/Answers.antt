-- `columns::fits` meets its contract. Assumes nothing.
use borrow.Author.Tests.{lt-leb, le-leb}
use Rattle.columns_model.specs.Store.{within}
use Rattle.columns.proofs.fits.Goals.{then-t-gt-TERM_LIMIT-via-then-t-gt-TERM_LIMIT, then-t-gt-TERM_LIMIT-via-else-t-gt-TERM_LIMIT+then-f-gt-FACT_LIMIT}
use Rattle.columns.proofs.fits.Goals as goal

pub returns-then-t-gt-TERM_LIMIT : goal.returns-then-t-gt-TERM_LIMIT
unfolding within
returns-then-t-gt-TERM_LIMIT c =
    elim c.then-t-gt-TERM_LIMIT.branch [
      | then-t-gt-TERM_LIMIT-via-then-t-gt-TERM_LIMIT w ↦ simp (lt-leb _ _ w.if-t-gt-TERM_LIMIT.true)
      | then-t-gt-TERM_LIMIT-via-else-t-gt-TERM_LIMIT+then-f-gt-FACT_LIMIT w ↦ simp (le-leb _ _ w.if-t-gt-TERM_LIMIT.false, lt-leb _ _ w.if-f-gt-FACT_LIMIT.true)
    ]

pub returns : goal.returns
unfolding within
returns c = simp (le-leb _ _ c.if-t-gt-TERM_LIMIT.false, le-leb _ _ c.if-f-gt-FACT_LIMIT.false, c.store_length.ensures)

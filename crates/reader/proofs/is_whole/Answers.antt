-- `reader::is_whole` meets its contract: the definition is this test. Assumes nothing.
use mathlib.Core.Path.{sym, ap, ◌∙◌}
use Prim.Native.Nat.{ℕ, ◌+◌}
use lib.Dec.{eqb}
use lib.ListN.{length}
use borrow.Author.Tests.{lt-leb}
use Rattle.reader.proofs.Reading.{whole_short, whole_long}
use Rattle.reader.proofs.is_whole.Goals as goal

pub returns-then-bytes-ge4 : goal.returns-then-bytes-ge4
returns-then-bytes-ge4 c =
    ap (λ (n : ℕ). eqb (n + 4) (length c.args.bytes.now)) c.stated.ensures.0 ∙ sym (whole_long _ c.if-bytes-ge4.true)

pub returns-else-bytes-ge4 : goal.returns-else-bytes-ge4
returns-else-bytes-ge4 c = lt-leb 4 _ c.if-bytes-ge4.false ∙ sym (whole_short _ c.if-bytes-ge4.false)

-- The round trip of the functions `read` and `write` (document 01, "Part of the product"): what their contracts give, put together.
-- Assumes nothing.
use mathlib.Core.Path.{sym, ap, ◌∙◌}
use mathlib.Core.List.{List, ◌++◌}
use Prim.Native.Nat.{ℕ, ◌≤◌}
use lib.ListN.{length, take, drop}
use Rattle.model.specs.Form.{encoded, decoded, Reading, reading, Writing, writing}
use Rattle.laws_format.proofs.Parsers.{Bytes}
use Rattle.laws_format.proofs.RoundTrip.{written_read, read_written}
use Rattle.reader.specs.Transfer.{Reads}
use Rattle.std.specs.Prelude.{Ok}
use Rattle.writer.specs.Contract.{WritesBytes}

-- Reading a written rule set gives the same one in the counted places, and 0 in the others.
pub write_then_read : (form out left other : List ℕ) (n : ℕ) → WritesBytes form out (Ok n) left → 7812 ≤ length other
    → Reads (take n left) other (Ok n) (encoded (decoded form) ++ drop 7812 other)
write_then_read form out left other n w h =
    ap (λ (x : Writing). reading (take n x.bytes) other) (sym w) ∙ written_read form out other n (ap (λ (x : Writing). x.answer) w) h

-- Writing a read rule set gives the same bytes.
pub read_then_write : (bytes form left out : List ℕ) (n : ℕ) → Bytes bytes → Reads bytes form (Ok n) left → length bytes ≤ length out
    → WritesBytes left out (Ok n) (bytes ++ drop n out)
read_then_write bytes form left out n b r h =
    ap (λ (x : Reading). writing x.form out) (sym r) ∙ read_written bytes form out n b (ap (λ (x : Reading). x.answer) r) h

-- `test_text::show` is safe: the text that was written is within the list. Assumes nothing.
use mathlib.Core.Path.{sym}
use Prim.Native.Nat.{◌≤◌}
use lib.ListN.{length}
use lib.Seq.{length-take-le}
use borrow.Author.Rules.{rules}
use Rattle.test_text.proofs.show.Goals as goal

pub slice_bounds-write_all-end : goal.slice_bounds-write_all-end
slice_bounds-write_all-end c =
    let w = c.write_text-n in
    let within : w.result ≤ length w.new.out = search rules in
    sym (length-take-le w.result w.new.out within)

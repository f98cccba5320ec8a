-- `rulfjen::main` meets its contract: the text is within the list. Assumes nothing.
use mathlib.Core.Path.{sym}
use lib.Seq.{length-take-le}
use Rattle.rulfjen.proofs.Printed.{text_within}
use Rattle.rulfjen.proofs.main.Goals as goal

pub slice_bounds-out-end : goal.slice_bounds-out-end
slice_bounds-out-end c = text_within c.text-count.result c.text-count.new.out c.text-count.ensures

pub slice_bounds-write_all-end : goal.slice_bounds-write_all-end
slice_bounds-write_all-end c =
    let t = c.text-count in
    sym (length-take-le t.result t.new.out (text_within t.result t.new.out t.ensures))

-- `rulfjen::text` meets its contract. Assumes nothing.
use Rattle.rulfjen.proofs.Printed.{text_is}
use Rattle.rulfjen.proofs.text.Goals as goal

pub returns : goal.returns
returns c = text_is c.args.input.now c.args.out.now c.requires.0 c.requires.1 _ c.print.ensures _ c.unwrap_or.ensures

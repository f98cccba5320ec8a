-- `embed_columns::rulfjen_unpack` meets its contract: what `unpack` answers and leaves, by its numbers. Assumes nothing.
use mathlib.Core.Path.{ap, ◌∙◌}
use Rattle.columns.specs.Contract.{answer_of}
use Rattle.embed_columns.specs.Numbers.{of_unpacked}
use Rattle.embed_columns.proofs.Numbers.{unpack_left}
use Rattle.embed_columns.proofs.rulfjen_unpack.Goals as goal

pub returns : goal.returns
returns c =
    let x = c.unpack in
    ap of_unpacked x.ensures ∙ unpack_left (answer_of x.result) c.counted.ensures

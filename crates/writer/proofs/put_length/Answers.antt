-- `writer::put_length` meets its contract. Assumes nothing.
use mathlib.Core.Path.{refl}
use Rattle.model.specs.Format.{big_endian}
use Rattle.writer.proofs.put_length.Goals as goal

pub returns : goal.returns
unfolding big_endian
returns c = rw (c.copy_from_slice.ensures.after, c.to_be_bytes.ensures) refl

-- `text::words::write_word` meets its contract: the word is copied over what stands from the place on. Assumes nothing.
use mathlib.Core.Path.{refl}
use native.Mathlib.Omega.{arith}
use Rattle.text.proofs.Copied.{copied_written}
use Rattle.text.proofs.words.write_word.Goals as goal

pub returns : goal.returns
returns c =
    let a = c.args in
    record { left = copied_written a.word.now a.out.now a.at _ (omega arith) c.copy_from_slice.ensures.after; next = refl }

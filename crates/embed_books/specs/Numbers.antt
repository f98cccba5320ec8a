-- By which numbers the answers of the converters cross to C, and all that a call leaves behind (bindings/c/rulfjen_books.h). Assumes nothing.
use Rattle.model.specs.Form.{Writing}
use Rattle.crossing.specs.Numbers.{TransferLeft, transferred}

abbrev pub of_writing : Writing → TransferLeft
of_writing x = transferred x.answer x.bytes

-- By which numbers an answer crosses to C, and all that a call leaves behind (bindings/c/rulfjen.h). Assumes nothing.
use Rattle.std.specs.Prelude.{List, [], ◌∷◌, ℕ}
use Rattle.model.specs.Stages.{Verdict, accepted, cyclic_at, refused}
use Rattle.model.specs.Tables.{Checked}
use Rattle.model.specs.Form.{Reading, Writing}
use Rattle.crossing.specs.Numbers.{TransferLeft, transferred}
use Rattle.report.specs.Printing.{Printing}

-- the number that is returned
abbrev pub verdict_number : Verdict → ℕ
verdict_number (accepted n f t) = 0
verdict_number (cyclic_at n f t) = 1
verdict_number (refused n p) = 2

-- the three places of `answer`
abbrev pub verdict_values : Verdict → List ℕ
verdict_values (accepted n f t) = n ∷ f ∷ t ∷ []
verdict_values (cyclic_at n f t) = n ∷ f ∷ t ∷ []
verdict_values (refused n p) = n ∷ p ∷ 0 ∷ []

pub record CheckLeft : Type 0 where
  pub number : ℕ
  pub answer : List ℕ
  pub terms : List ℕ
  pub facts : List ℕ

abbrev pub of_checked : Checked → CheckLeft
of_checked x = record { number = verdict_number x.verdict; answer = verdict_values x.verdict; terms = x.terms; facts = x.facts }

abbrev pub of_reading : Reading → TransferLeft
of_reading x = transferred x.answer x.form

abbrev pub of_writing : Writing → TransferLeft
of_writing x = transferred x.answer x.bytes

-- the tables of `print` are its own
abbrev pub of_printing : Printing → TransferLeft
of_printing x = transferred x.answer x.out

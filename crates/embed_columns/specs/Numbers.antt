-- By which numbers the answers of `pack` and `unpack` cross to C, and all that a call leaves behind (bindings/c/rulfjen_columns.h).
-- Assumes nothing.
use Rattle.std.specs.Prelude.{List, [], ◌∷◌, ℕ}
use Rattle.model.specs.Form.{Writing}
use Rattle.crossing.specs.Numbers.{transfer_number, transfer_value}
use Rattle.columns_model.specs.Store.{Answer, counts, refused, Unpacking}

-- the number that is returned: 0, or the refusal's
abbrev pub unpack_number : Answer → ℕ
unpack_number (counts t f) = 0
unpack_number (refused n p) = n

-- the two places of `counts`: terms and facts, or the refusal's place and 0
abbrev pub unpack_values : Answer → List ℕ
unpack_values (counts t f) = t ∷ f ∷ []
unpack_values (refused n p) = p ∷ 0 ∷ []

pub record PackLeft : Type 0 where
  pub number : ℕ
  pub value : ℕ
  pub store : List ℕ

abbrev pub of_packed : Writing → PackLeft
of_packed x = record { number = transfer_number x.answer; value = transfer_value x.answer; store = x.bytes }

pub record UnpackLeft : Type 0 where
  pub number : ℕ
  pub counts : List ℕ
  pub terms : List ℕ
  pub facts : List ℕ

abbrev pub of_unpacked : Unpacking → UnpackLeft
of_unpacked x = record { number = unpack_number x.answer; counts = unpack_values x.answer; terms = x.terms; facts = x.facts }

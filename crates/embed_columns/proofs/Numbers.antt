-- What a call left, from the answer of the function that it called. Assumes nothing.
use mathlib.Core.Path.{◌≡◌, sym}
use mathlib.Core.List.{List}
use Prim.Native.Nat.{ℕ}
use Rattle.model.specs.Form.{Transfer}
use Rattle.crossing.specs.Numbers.{transfer_number, transfer_value}
use Rattle.columns_model.specs.Store.{Answer}
use Rattle.embed_columns.specs.Numbers.{unpack_number, unpack_values, of_packed, of_unpacked}

-- both numbers of what `pack` answers
pub pack_left : (a : Transfer) {xs : List ℕ} {n k : ℕ} → n ≡ transfer_number a → k ≡ transfer_value a
    → of_packed (record { answer = a; bytes = xs }) ≡ record { number = n; value = k; store = xs }
pack_left a {xs} e f = λ i. record { number = sym e i; value = sym f i; store = xs }

-- the number of an answer, and its two values
pub unpack_left : (a : Answer) {terms facts : List ℕ} {n : ℕ} {xs : List ℕ} → (n ≡ unpack_number a) × (xs ≡ unpack_values a)
    → of_unpacked (record { answer = a; terms = terms; facts = facts }) ≡ record { number = n; counts = xs; terms = terms; facts = facts }
unpack_left a {terms} {facts} h = λ i. record { number = sym h.0 i; counts = sym h.1 i; terms = terms; facts = facts }

-- There and back, of `pack` and `unpack` themselves: from what their contracts say of two calls. Assumes nothing.
use mathlib.Core.Path.{◌≡◌, sym, ap, ◌∙◌}
use mathlib.Core.List.{List, ◌++◌}
use Prim.Native.Nat.{ℕ, ◌*◌, ◌≤◌}
use lib.ListN.{length, take, drop}
use Rattle.std.specs.Prelude.{Result, Ok}
use Rattle.model.specs.Limits.{terms_front, facts_front}
use Rattle.model.specs.Form.{Writing, done}
use Rattle.model.specs.Tables.{fronted}
use Rattle.refusal.specs.declared.Refused.{Refused}
use Rattle.laws_tables.specs.Lent.{Fronts}
use Rattle.reader.specs.Transfer.{transfer_of}
use Rattle.columns_model.specs.Differences.{modulus}
use Rattle.columns_model.specs.Store.{store_room, counts, Unpacking}
use Rattle.columns.specs.Contract.{answer_of, Packs, Unpacks}
use Rattle.columns.specs.declared.Stored.{Stored}
use Rattle.columns_model.proofs.Differences.{Below}
use Rattle.columns_model.proofs.RoundTrip.{unpacked_packed, packed_unpacked}

-- `pack` wrote n bytes, and `unpack` was given these
pub pack_then_unpack : (t f : ℕ) (terms facts out₀ out : List ℕ) (n : ℕ) → Packs t f terms facts out₀ (Ok n) out → Below modulus terms → Below modulus facts
    → (terms₀ facts₀ terms' facts' : List ℕ) (r : Result Stored Refused) → Fronts terms₀ facts₀ → Unpacks (take n out) terms₀ facts₀ r terms' facts'
    → (answer_of r ≡ counts t f)
    × (terms' ≡ fronted terms_front (take (t * 10) terms) terms₀)
    × (facts' ≡ fronted facts_front (take (f * 5) facts) facts₀)
pack_then_unpack t f terms facts out₀ out n p h k terms₀ facts₀ terms' facts' r l u =
    let e = sym u ∙ unpacked_packed t f terms facts out₀ n out p h k terms₀ facts₀ l in (
      ap (λ (x : Unpacking). x.answer) e,
      ap (λ (x : Unpacking). x.terms) e,
      ap (λ (x : Unpacking). x.facts) e,
    )

-- `unpack` answered counts, and `pack` was given these and the tables
pub unpack_then_pack : (bs terms₀ facts₀ terms facts : List ℕ) (t f : ℕ) → Unpacks bs terms₀ facts₀ (Ok (record { terms = t; facts = f })) terms facts → Below 256 bs
    → (out₀ out : List ℕ) (r : Result ℕ Refused) → store_room ≤ length out₀ → Packs t f terms facts out₀ r out
    → (transfer_of r ≡ done (length bs)) × (out ≡ bs ++ drop (length bs) out₀)
unpack_then_pack bs terms₀ facts₀ terms facts t f u h out₀ out r l p =
    let e = sym p ∙ packed_unpacked bs terms₀ facts₀ t f terms facts h u out₀ l in (ap (λ (x : Writing). x.answer) e, ap (λ (x : Writing). x.bytes) e)

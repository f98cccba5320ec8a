-- The definitions, computed: River's tables are packed and unpacked, and each refusal leaves what stood there. Assumes nothing.
use mathlib.Core.Path.{◌≡◌, refl}
use mathlib.Core.List.{List, [], ◌∷◌}
use Prim.Native.Nat.{ℕ}
use lib.ListN.{replicate, set}
use Rattle.model.specs.Limits.{terms_front, facts_front}
use Rattle.model.specs.Lists as lists
use Rattle.model.specs.Format as format
use Rattle.model.specs.Form as form
use Rattle.model.specs.Form.{done, refusal}
use Rattle.model.specs.Tables as tables
use Rattle.model.specs.Tables.{fronted}
use Rattle.laws.specs.Lists as rises
use Rattle.tables.specs.Rows as rows
use Rattle.columns_model.specs.Differences
use Rattle.columns_model.specs.Columns
use Rattle.columns_model.specs.Store
use Rattle.columns_model.specs.Store.{store_room, counts, refused, packed, unpacked}
use Rattle.columns_model.specs.Cases.{river_terms, river_facts, river_store, marked, terms₀, facts₀, out₀}

-- both, with every definition that they rest on open
runs : Type 0
unfolding lists.collect lists.padded format.big_endian format.stated form.spaced tables.fronted rises.rising rows.rows Differences.differences Differences.sums Differences.two_bytes Differences.numbers_of Columns.column Columns.columns Columns.laid Columns.joined Columns.raised Store.numbers Store.content Store.stored Store.fronts Store.within Store.packed Store.sound Store.stored_terms Store.stored_facts Store.unpacked river_terms river_facts river_store marked
runs = Unit {0}

-- River there and back, the contents beyond the store and the front parts kept
pub river_packed : packed 2 5 (marked terms_front river_terms) (marked facts_front river_facts) out₀ ≡ record { answer = done 99; bytes = marked store_room river_store }
unfolding runs
river_packed = refl

pub river_unpacked : unpacked river_store terms₀ facts₀ ≡ record { answer = counts 2 5; terms = fronted terms_front river_terms terms₀; facts = fronted facts_front river_facts facts₀ }
unfolding runs
river_unpacked = refl

-- the least store
pub nothing_packed : packed 0 0 terms₀ facts₀ out₀ ≡ record { answer = done 9; bytes = marked store_room (0 ∷ 0 ∷ 0 ∷ 5 ∷ 1 ∷ 0 ∷ 0 ∷ 0 ∷ 0 ∷ []) }
unfolding runs
nothing_packed = refl

pub nothing_unpacked :
    unpacked (0 ∷ 0 ∷ 0 ∷ 5 ∷ 1 ∷ 0 ∷ 0 ∷ 0 ∷ 0 ∷ []) terms₀ facts₀
    ≡ record { answer = counts 0 0; terms = fronted terms_front [] terms₀; facts = fronted facts_front [] facts₀ }
unfolding runs
nothing_unpacked = refl

-- refusals of `pack`: each list one short, whatever the counts, and then each count one over

abbrev packs_not : ℕ → ℕ → List ℕ → List ℕ → List ℕ → ℕ → Type 0
packs_not t f terms facts out n = packed t f terms facts out ≡ record { answer = refusal n 0; bytes = out }

pub not_packed :
    packs_not 513 2049 (replicate 5129 9) facts₀ out₀ 1
    × packs_not 513 2049 terms₀ (replicate 10239 9) out₀ 1
    × packs_not 513 2049 terms₀ facts₀ (replicate 30728 9) 1
    × packs_not 513 0 terms₀ facts₀ out₀ 26
    × packs_not 0 2049 terms₀ facts₀ out₀ 26
unfolding runs
not_packed = (refl, refl, refl, refl, refl)

-- refusals of `unpack`: each list one short, whatever the bytes; then no bytes, eight bytes, another length, another version, a byte more or less
-- than the counts need, and 513 terms

abbrev unpacks_not : List ℕ → List ℕ → List ℕ → ℕ → Type 0
unpacks_not bs terms facts n = unpacked bs terms facts ≡ record { answer = refused n 0; terms = terms; facts = facts }

pub not_unpacked :
    unpacks_not [] (replicate 5129 9) facts₀ 1
    × unpacks_not [] terms₀ (replicate 10239 9) 1
    × unpacks_not [] terms₀ facts₀ 26
    × unpacks_not (0 ∷ 0 ∷ 0 ∷ 4 ∷ 1 ∷ 0 ∷ 0 ∷ 0 ∷ []) terms₀ facts₀ 26
    × unpacks_not (set river_store 3 94) terms₀ facts₀ 26
    × unpacks_not (set river_store 4 2) terms₀ facts₀ 26
    × unpacks_not (0 ∷ 0 ∷ 0 ∷ 6 ∷ 1 ∷ 0 ∷ 0 ∷ 0 ∷ 0 ∷ 0 ∷ []) terms₀ facts₀ 26
    × unpacks_not (0 ∷ 0 ∷ 0 ∷ 5 ∷ 1 ∷ 0 ∷ 1 ∷ 0 ∷ 0 ∷ []) terms₀ facts₀ 26
    × unpacks_not (0 ∷ 0 ∷ 40 ∷ 25 ∷ 1 ∷ 2 ∷ 1 ∷ 0 ∷ 0 ∷ replicate 10260 0) terms₀ facts₀ 26
unfolding runs
not_unpacked = (refl, refl, refl, refl, refl, refl, refl, refl, refl)

-- The number of a term is where it stands. Assumes nothing.
use mathlib.Core.Path.{◌≡◌}
use mathlib.Core.List.{List, Memᴰ}
use Prim.Native.Nat.{◌<◌}
use lib.ListN.{length, get_or}
use Rattle.model.specs.Term.{Term, star, same}
use Rattle.model.specs.Tables.{number}
use Rattle.laws.proofs.Lists.{index_mem}
use Rattle.laws.proofs.Terms.{same_decides}

pub number_below : {ts : List Term} (t : Term) → Memᴰ t ts → number ts t < length ts
unfolding number
number_below {ts} t m = (index_mem same same_decides t ts star m).0

pub get_or_number : {ts : List Term} (t d : Term) → Memᴰ t ts → get_or ts (number ts t) d ≡ t
unfolding number
get_or_number {ts} t d m = (index_mem same same_decides t ts d m).1

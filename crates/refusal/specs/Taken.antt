-- The numbers of the refusals that have a name (Numbers says whose each is). Assumes nothing.
use Rattle.std.specs.Prelude.{ℕ, Bool, ◌&&◌, ◌||◌, eqb, leb}

abbrev pub taken : ℕ → Bool
taken n = (leb 1 n && leb n 14) || eqb n 18 || eqb n 26

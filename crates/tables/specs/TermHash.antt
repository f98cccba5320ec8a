-- A table of terms in which they are found by a hash: behind the rows stand a link for each, from the end on, and then the buckets. So many rows
-- fit that there are twelve numbers for each: ten of its own, a link, and one that is a bucket or free. Assumes nothing.
use Rattle.std.specs.Prelude.{List, ℕ, ◌+◌, ◌-◌, ◌*◌, ◌%◌, ◌≤◌, ◌<◌, length, get_or}
use Rattle.tables.specs.Hashed.{Hashed, appended}

-- the numbers of a table for each term that it can have
abbrev pub term_cells : ℕ
term_cells = 12

abbrev pub term_buckets : ℕ
term_buckets = 512

-- a number by which terms that differ mostly differ too: by the Skolem function and the arguments
abbrev pub hash_of : List ℕ → ℕ
hash_of r =
    get_or r 0 0 * 50021 + get_or r 2 0 * 37199 + get_or r 3 0 * 28657 + get_or r 4 0 * 44699 + get_or r 5 0 * 61057 + get_or r 6 0 * 54331 + get_or r 7 0 * 33613 + get_or r 8 0 * 40993 + get_or r 9 0 * 58921

-- the place of a term's bucket in a table of so many numbers
abbrev pub bucket_of : ℕ → List ℕ → ℕ
bucket_of size r = size - term_buckets + hash_of r % term_buckets

-- where the link of term i stands
abbrev pub link_at : ℕ → ℕ → ℕ
link_at size i = size - term_buckets - (i + 1)

-- a table with room for 512 terms or more, and n of them in their buckets
pub record KeptTerms (terms : List ℕ) (n : ℕ) : Type 0 where
  pub wide : term_buckets * term_cells ≤ length terms
  pub fits : n * term_cells ≤ length terms
  pub few : n < 65536
  pub hashed : Hashed 10 (link_at (length terms)) (bucket_of (length terms)) (length terms - term_buckets) terms n

-- the table with a term behind the first n, in its bucket
abbrev pub more_terms : List ℕ → ℕ → List ℕ → List ℕ
more_terms terms n r = appended 10 (link_at (length terms) n) (bucket_of (length terms) r) terms r n

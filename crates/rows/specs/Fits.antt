-- Tables that are within the limits of document 01 and of a cell, and whose numbers stand for rows. Assumes nothing.
use Rattle.std.specs.Prelude.{◌≡◌, ℕ, ◌+◌, ◌*◌, ◌≤◌, ◌<◌, length, drop}
use mathlib.Core.List.{List, Memᴰ}
use Rattle.rows.specs.Tables.{Rows}

-- tables that grew from a stage of l terms
pub record Fits (l : ℕ) (s : Rows) : Type 0 where
  pub start : l ≤ length s.terms
  pub facts : length s.facts ≤ 2049
  pub terms : length s.terms ≤ 512 + 4 * length s.facts
  -- a fact's arguments are terms
  pub arguments : (f : List ℕ) → Memᴰ f s.facts → (x : ℕ) → Memᴰ x (drop 1 f) → x < length s.terms
  pub term_width : (r : List ℕ) → Memᴰ r s.terms → length r ≡ 10
  pub fact_width : (f : List ℕ) → Memᴰ f s.facts → length f ≡ 5
  pub term_numbers : (r : List ℕ) → Memᴰ r s.terms → (x : ℕ) → Memᴰ x r → x < 65536
  pub fact_numbers : (f : List ℕ) → Memᴰ f s.facts → (x : ℕ) → Memᴰ x f → x < 65536

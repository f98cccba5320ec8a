-- A converter loses nothing: converted back, the bytes are the old ones, and the converted rule set has the same answer, tables and text.
-- Assumes nothing.
use mathlib.Core.Path.{◌≡◌, refl, sym, ap, ◌∙◌, subst}
use mathlib.Core.List.{List, ◌++◌}
use Prim.Native.Nat.{ℕ, ◌≤◌}
use native.Mathlib.Omega.{arith}
use lib.ListN.{length, take, drop}
use Rattle.model.specs.Limits.{bytes_limit}
use Rattle.model.specs.Rules.{RuleSet, wide, most_predicates}
use Rattle.model.specs.WellFormed.{WellFormed}
use Rattle.model.specs.Format.{good, read, bytes_of}
use Rattle.model.specs.Form.{done, Writing}
use Rattle.model.specs.Tables.{Checked, checked}
use Rattle.model.specs.Text.{text_of, printed}
use Rattle.laws_format.proofs.Parsers.{Bytes}
use Rattle.laws_format.proofs.Bytes.{read_well_formed, read_of_bytes, bytes_of_read, bytes_at_most}
use Rattle.converter_model.specs.Converter.{versioned, converting, upgrading, downgrading}
use Rattle.converter_model.proofs.Converting.{Version, versioned_well_formed, Convertible, read_convertible, converting_good, Converted, converting_done}
use Rattle.converter_model.proofs.Same.{Alike, checked_alike, text_alike, printed_alike}

-- the version that a rule set has
same_version : (b : RuleSet) (v : ℕ) → b.version ≡ v → versioned v b ≡ b
same_version b v e = λ t. record { version = sym e t; fixed = b.fixed; arities = b.arities; rules = b.rules }

module _ (from to : ℕ) (known : Version to) (bytes out : List ℕ) (n : ℕ) (e : (converting from to bytes out).answer ≡ done n) where
  c : Converted from to bytes out n
  c = converting_done from to bytes out n e

  -- the new bytes
  abbrev new : List ℕ
  new = take n (converting from to bytes out).bytes

  formed : WellFormed (versioned to c.book)
  formed = versioned_well_formed (read_well_formed bytes c.book c.end c.taken.whole) known c.taken.few

  read_new : read new ≡ good (versioned to c.book) n
  read_new = ap read c.bytes_are ∙ read_of_bytes (versioned to c.book) formed ∙ ap (good (versioned to c.book)) (sym c.count)

  -- Converted and then converted back: the old bytes.
  pub converted_back : Bytes bytes → (other : List ℕ) → bytes_limit ≤ length other
      → converting to from new other ≡ record { answer = done (length bytes); bytes = bytes ++ drop (length bytes) other }
  converted_back bs other room =
      let b : RuleSet = c.book in
      let taken : Convertible to new (versioned to b) n = record { whole = read_new; version_is = refl; few = c.taken.few } in
      let old : bytes_of (versioned from (versioned to b)) ≡ bytes =
      ap bytes_of (same_version b from c.taken.version_is) ∙ bytes_of_read bytes b c.end c.taken.whole bs
      in
      converting_good to from new other room (versioned to b) n (read_convertible to new (versioned to b) n taken)
      ∙ ap (λ (xs : List ℕ). record { answer = done (length xs); bytes = xs ++ drop (length xs) other }) old

  alike : Alike bytes new
  alike = record { book = c.book; version = to; end = c.end; end' = n; first = c.taken.whole; second = read_new }

  -- The same answer and the same tables, at every depth.
  pub converted_checked : (d : ℕ) (terms₀ facts₀ : List ℕ) → checked d new terms₀ facts₀ ≡ checked d bytes terms₀ facts₀
  converted_checked = checked_alike alike

  -- The same text of every answer.
  pub converted_text : (x : Checked) → text_of new x ≡ text_of bytes x
  converted_text = text_alike alike

  -- And the program prints the same.
  pub converted_printed : Bytes bytes → printed new ≡ printed bytes
  converted_printed bs =
      let old : length bytes ≤ bytes_limit =
      subst (λ (xs : List ℕ). length xs ≤ bytes_limit) (bytes_of_read bytes c.book c.end c.taken.whole bs) (bytes_at_most (read_well_formed bytes c.book c.end c.taken.whole))
      in
      printed_alike alike old (rw c.bytes_are (bytes_at_most formed))

version_one : Version 1
version_one = record { first = omega arith; last = omega arith }

version_two : Version 2
version_two = record { first = omega arith; last = omega arith }

-- The two converters (document 02, C-15): the one loses nothing of what the other gives.

pub upgraded_back : (bytes out other : List ℕ) (n : ℕ) → (upgrading bytes out).answer ≡ done n → Bytes bytes → bytes_limit ≤ length other
    → downgrading (take n (upgrading bytes out).bytes) other ≡ record { answer = done (length bytes); bytes = bytes ++ drop (length bytes) other }
upgraded_back bytes out other n e b room = converted_back 1 2 version_two bytes out n e b other room

pub downgraded_back : (bytes out other : List ℕ) (n : ℕ) → (downgrading bytes out).answer ≡ done n → Bytes bytes → bytes_limit ≤ length other
    → upgrading (take n (downgrading bytes out).bytes) other ≡ record { answer = done (length bytes); bytes = bytes ++ drop (length bytes) other }
downgraded_back bytes out other n e b room = converted_back 2 1 version_one bytes out n e b other room

pub upgraded_checked : (bytes out : List ℕ) (n : ℕ) → (upgrading bytes out).answer ≡ done n → (d : ℕ) (terms₀ facts₀ : List ℕ)
    → checked d (take n (upgrading bytes out).bytes) terms₀ facts₀ ≡ checked d bytes terms₀ facts₀
upgraded_checked bytes out n e = converted_checked 1 2 version_two bytes out n e

pub upgraded_text : (bytes out : List ℕ) (n : ℕ) → (upgrading bytes out).answer ≡ done n → (x : Checked)
    → text_of (take n (upgrading bytes out).bytes) x ≡ text_of bytes x
upgraded_text bytes out n e = converted_text 1 2 version_two bytes out n e

-- Every sound rule set of version 1 is upgraded.
pub upgrades_all : (bytes out : List ℕ) (b : RuleSet) (i : ℕ) → read bytes ≡ good b i → b.version ≡ 1 → bytes_limit ≤ length out
    → (upgrading bytes out).answer ≡ done (length (bytes_of (versioned 2 b)))
unfolding most_predicates wide
upgrades_all bytes out b i e v room =
    let few = (read_well_formed bytes b i e).few in
    ap (λ (x : Writing). x.answer)
    (converting_good 1 2 bytes out room b i (read_convertible 1 bytes b i (record { whole = e; version_is = v; few = subst (λ (n : ℕ). length b.arities ≤ most_predicates n) v few })))

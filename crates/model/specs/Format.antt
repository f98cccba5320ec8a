-- The bytes of a rule set, read from left to right (document 01, "Book bytes" and "Turned back"; document 02, C-15). Assumes nothing.
use Rattle.std.specs.Prelude.{List, [], ◌∷◌, ◌++◌, Bool, true, false, ◌&&◌, ℕ, zero, suc, ◌+◌, ◌-◌, ◌*◌, ◌/◌, ◌%◌, eqb, ltb, leb, length, get_or}
use Rattle.model.specs.Limits.{last_version, rule_limit}
use Rattle.model.specs.Lists.{any, collect}
use Rattle.model.specs.Rules.{Atom, Rule, RuleSet, wide, most_predicates, repeated, detached}

-- a value and where to go on, or a refusal and its place
pub data Parsed (A : Type 0) : Type 0 where
  good : A → ℕ → Parsed A
  bad : ℕ → ℕ → Parsed A

module _ {A B : Type 0} where
  unfoldable pub and_then : Parsed A → (A → ℕ → Parsed B) → Parsed B
  and_then (good a i) k = k a i
  and_then (bad n i) k = bad n i

-- a byte from low to high at i
unfoldable pub byte : List ℕ → ℕ → ℕ → ℕ → ℕ → Parsed ℕ
byte bs low high refusal i =
    elim (ltb i (length bs)) [
      | false ↦ bad 10 (length bs)
      | true ↦ elim (leb low (get_or bs i 0) && leb (get_or bs i 0) high) [ true ↦ good (get_or bs i 0) (suc i) | false ↦ bad refusal i ]
    ]

-- a number from low to high at i, in one byte or in two, big-endian; whichever byte makes it wrong, its place is the first
unfoldable pub number : Bool → List ℕ → ℕ → ℕ → ℕ → ℕ → Parsed ℕ
number false bs low high refusal i = byte bs low high refusal i
number true bs low high refusal i =
    let n : ℕ = get_or bs i 0 * 256 + get_or bs (suc i) 0 in
    elim (ltb (suc i) (length bs)) [
      | false ↦ bad 10 (length bs)
      | true ↦ elim (leb low n && leb n high) [ true ↦ good n (suc (suc i)) | false ↦ bad refusal i ]
    ]

module _ {A : Type 0} where
  unfoldable pub many : ℕ → (ℕ → Parsed A) → ℕ → Parsed (List A)
  many zero p i = good [] i
  many (suc n) p i = and_then (p i) (λ a j. and_then (many n p j) (λ as' k. good (a ∷ as') k))

-- a variable of an atom: C-16 widens this reading alone
unfoldable pub variable : List ℕ → ℕ → Parsed ℕ
variable bs i = byte bs 0 7 7 i

-- what atoms are read by: the version of the bytes and the arities of the predicates
pub record Signature : Type 0 where
  pub version : ℕ
  pub arities : List ℕ

abbrev pub signed : ℕ → List ℕ → Signature
signed version arities = record { version = version; arities = arities }

unfoldable pub atom : List ℕ → Signature → ℕ → Parsed Atom
atom bs s i =
    and_then (number (wide s.version) bs 0 (length s.arities - 1) 7 i) (λ p j.
    and_then (many (get_or s.arities p 0) (variable bs) j) (λ vs k.
    good (record { predicate = p; variables = vs }) k))

-- a count of one to four, and so many atoms
unfoldable pub atoms : List ℕ → Signature → ℕ → Parsed (List Atom)
atoms bs s i = and_then (byte bs 1 4 6 i) (λ n j. many n (atom bs s) j)

-- 8 and then 9, tested after the rule's last byte, at its first
unfoldable pub sound : Rule → ℕ → ℕ → Parsed Rule
sound r start i =
    elim (repeated r r.head) [
      | true ↦ bad 8 start
      | false ↦ elim (any (detached r) r.head) [ true ↦ bad 9 start | false ↦ good r i ]
    ]

unfoldable pub rule : List ℕ → Signature → ℕ → Parsed Rule
rule bs s i =
    and_then (atoms bs s i) (λ b j.
    and_then (byte bs 1 4 6 j) (λ n k.
    and_then (many n (atoms bs s) k) (λ h l.
    sound (record { body = b; head = h }) i l)))

-- refusals 3 to 10: what follows the length
unfoldable pub rule_set : List ℕ → Parsed RuleSet
rule_set bs =
    and_then (byte bs 1 last_version 3 4) (λ v i.
    and_then (number (wide v) bs 1 (most_predicates v) 4 i) (λ n j.
    and_then (many n (byte bs 1 4 4) j) (λ arities k.
    and_then (byte bs 0 rule_limit 5 k) (λ m l.
    and_then (many m (rule bs (signed v arities)) l) (λ rs e.
    elim (eqb e (length bs)) [ true ↦ good (record { version = v; fixed = 0; arities = arities; rules = rs }) e | false ↦ bad 10 e ])))))

-- the number that the first four bytes spell
unfoldable pub stated : List ℕ → ℕ
stated bs = ((get_or bs 0 0 * 256 + get_or bs 1 0) * 256 + get_or bs 2 0) * 256 + get_or bs 3 0

-- the count of bytes behind the length is the stated one
unfoldable pub whole : List ℕ → Bool
whole bs = leb 4 (length bs) && eqb (stated bs + 4) (length bs)

-- refusals 2 to 10
unfoldable pub read : List ℕ → Parsed RuleSet
read bs = elim (whole bs) [ true ↦ rule_set bs | false ↦ bad 2 0 ]

-- the other way: the bytes of a rule set, by whether its predicates have two
unfoldable pub number_bytes : Bool → ℕ → List ℕ
number_bytes false n = n ∷ []
number_bytes true n = n / 256 ∷ n % 256 ∷ []

unfoldable pub atom_bytes : Bool → Atom → List ℕ
atom_bytes w a = number_bytes w a.predicate ++ a.variables

unfoldable pub atoms_bytes : Bool → List Atom → List ℕ
atoms_bytes w as' = length as' ∷ collect (atom_bytes w) as'

unfoldable pub rule_bytes : Bool → Rule → List ℕ
rule_bytes w r = atoms_bytes w r.body ++ (length r.head ∷ collect (atoms_bytes w) r.head)

-- all that follows the length
unfoldable pub content : RuleSet → List ℕ
content b =
    let w : Bool = wide b.version in
    b.version ∷ (number_bytes w (length b.arities) ++ (b.arities ++ (length b.rules ∷ collect (rule_bytes w) b.rules)))

unfoldable pub big_endian : ℕ → List ℕ
big_endian n = (n / 16777216) % 256 ∷ (n / 65536) % 256 ∷ (n / 256) % 256 ∷ n % 256 ∷ []

unfoldable pub bytes_of : RuleSet → List ℕ
bytes_of b = big_endian (length (content b)) ++ content b

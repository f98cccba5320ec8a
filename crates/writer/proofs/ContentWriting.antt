-- What follows the length, as it is written. Assumes nothing.
use mathlib.Core.Path.{◌≡◌, refl, sym, subst}
use mathlib.Core.List.{List, [], ◌∷◌, ◌++◌}
use Prim.Native.Nat.{ℕ}
use lib.ListN.{length, get_or}
use Rattle.model.specs.Lists.{numbers_from, collect}
use Rattle.model.specs.Limits.{last_version}
use Rattle.model.specs.Rules.{Rule, wide, most_predicates}
use Rattle.model.specs.Format.{many, byte, number, signed, rule, number_bytes, rule_bytes, content}
use Rattle.model.specs.Form.{spaced, rule_at, decoded}
use Rattle.laws.proofs.Places.{length_numbers_from}
use Rattle.std.specs.Prelude.{Result, Ok, Err, ⊤}
use Rattle.refusal.specs.declared.Refused.{Refused}
use Rattle.parsing.specs.Step.{none, parsed_rules}
use Rattle.parsing.specs.declared.Parsed.{Parsed as Read}
use Rattle.writer.specs.Writes.{value, Writes, parsed_content, after_version, after_count, rules_bytes, rules_at, declared_bytes}
use Rattle.writer.proofs.Writing.{writes_refused, writes_then, writes_exact, writes_map, writes_as, spelled_numbers}
use Rattle.writer.proofs.Numbers.{number_value}
use Rattle.writer.proofs.AtomWriting.{counted_refused, counted_written}

-- the count of the rules, and the rules

module _ (form : List ℕ) (version : ℕ) (arities : List ℕ) (i v : ℕ) (before mid : List ℕ) (here : v ≡ get_or form 1 0) where
  rules_spelled : length (spaced (rule_at form arities) 106 v 2) ∷ collect (rule_bytes (wide version)) (spaced (rule_at form arities) 106 v 2) ≡ rules_bytes (wide version) (rules_at form arities)
  unfolding rules_bytes rules_at
  rules_spelled = rw here

  pub rules_refused : (e : Refused) (after : List ℕ) → Writes value (λ bs. byte bs 0 64 5 i) i (v ∷ []) before (Err e) mid
      → Writes none (λ bs. parsed_rules bs (signed version arities) i) i (rules_bytes (wide version) (rules_at form arities)) before (Err e) after
  unfolding parsed_rules
  rules_refused e after h =
      writes_as none _ i _ _ before _ after rules_spelled (counted_refused none (λ bs. rule bs (signed version arities)) (rule_at form arities) (rule_bytes (wide version)) 106 2 0 64 5 i v before mid e after h)

  pub rules_written : (x : Read ℕ) (s : Result (Read ⊤) Refused) (after : List ℕ) → Writes value (λ bs. byte bs 0 64 5 i) i (v ∷ []) before (Ok x) mid → x.value ≡ v
      → Writes none (λ bs. many x.value (rule bs (signed version arities)) x.next) x.next (collect (rule_bytes (wide version)) (spaced (rule_at form arities) 106 x.value 2)) mid s after
      → Writes none (λ bs. parsed_rules bs (signed version arities) i) i (rules_bytes (wide version) (rules_at form arities)) before s after
  unfolding parsed_rules
  rules_written x s after h same f =
      writes_as none _ i _ _ before s after rules_spelled
      (counted_written none (λ bs. rule bs (signed version arities)) (rule_at form arities) (rule_bytes (wide version)) 106 2 0 64 5 i v before mid x s after h same f)

-- the count of predicates, the arities, the rules

module _ (form : List ℕ) (version i v : ℕ) (here : v ≡ get_or form 0 0) (most : ℕ) (limit : most ≡ most_predicates version) (before mid : List ℕ) where
  abbrev count_at : ℕ → List ℕ → Result (Read ⊤) Refused → Type 0
  count_at high left r = Writes none (λ bs. number (wide version) bs 1 high 4 i) i (number_bytes (wide version) v) before r left

  first : (r : Result (Read ⊤) Refused) → count_at most mid r → count_at (most_predicates version) mid r
  first r h = rw (← limit) h

  abbrev arities : List ℕ
  arities = numbers_from form 6786 v

  abbrev ruled : List ℕ
  ruled = rules_bytes (wide version) (rules_at form arities)

  declared_spelled : number_bytes (wide version) v ++ (arities ++ ruled) ≡ declared_bytes form version
  unfolding declared_bytes
  declared_spelled = rw here

  pub predicates_refused : (e : Refused) (after : List ℕ) → count_at most mid (Err e) → Writes none (λ bs. after_version bs version i) i (declared_bytes form version) before (Err e) after
  unfolding after_version
  predicates_refused e after h =
      writes_as none _ i _ _ before _ after declared_spelled (writes_refused none none _ _ i (number_bytes (wide version) v) (arities ++ ruled) before mid e after (first _ h))

  module _ (x : Read ⊤) (h : count_at most mid (Ok x)) (mid2 : List ℕ) where
    past_count : (s : Result (Read ⊤) Refused) (after : List ℕ) → Writes none (λ bs. after_count bs version v x.next) x.next (arities ++ ruled) mid s after
        → Writes none (λ bs. after_version bs version i) i (declared_bytes form version) before s after
    unfolding after_version
    past_count s after f =
        writes_as none _ i _ _ before s after declared_spelled
        (writes_exact none none _ _ i (number_bytes (wide version) v) (arities ++ ruled) before mid x s after (first _ h) v
        (λ bs rest a d p. number_value v i (wide version) bs rest 1 (most_predicates version) 4 a x.next d p) f)

    pub arities_refused : (e : Refused) (after : List ℕ) → Writes none (λ bs. many v (byte bs 1 4 4) x.next) x.next arities mid (Err e) mid2
        → Writes none (λ bs. after_version bs version i) i (declared_bytes form version) before (Err e) after
    unfolding after_count
    arities_refused e after g = past_count _ after (writes_refused none none (λ bs. many v (byte bs 1 4 4) x.next) _ x.next arities ruled mid mid2 e after g)

    pub declared_written : (y : Read ⊤) (s : Result (Read ⊤) Refused) (after : List ℕ) → Writes none (λ bs. many v (byte bs 1 4 4) x.next) x.next arities mid (Ok y) mid2
        → Writes none (λ bs. parsed_rules bs (signed version arities) y.next) y.next ruled mid2 s after
        → Writes none (λ bs. after_version bs version i) i (declared_bytes form version) before s after
    unfolding after_count
    declared_written y s after g f =
        past_count s after
        (writes_exact none none (λ bs. many v (byte bs 1 4 4) x.next) _ x.next arities ruled mid mid2 y s after g arities
        (λ bs rest a d p. spelled_numbers 1 4 4 v bs arities rest a x.next y.next (length_numbers_from form 6786 v) d p)
        (writes_map (λ (rs : List Rule). record { version = version; fixed = 0; arities = arities; rules = rs }) none none (λ bs. parsed_rules bs (signed version arities) y.next) y.next _ mid2 s after (λ rs. refl) f))

-- the version, and what follows it

module _ (form : List ℕ) (version : ℕ) (here : version ≡ get_or form 7810 0) (before mid : List ℕ) where
  content_spelled : (version ∷ []) ++ declared_bytes form version ≡ content (decoded form)
  unfolding content decoded declared_bytes rules_bytes rules_at
  content_spelled = rw (here, length_numbers_from form 6786 (get_or form 0 0))

  pub version_refused : (e : Refused) (after : List ℕ) → Writes value (λ bs. byte bs 1 last_version 3 4) 4 (version ∷ []) before (Err e) mid
      → Writes none parsed_content 4 (content (decoded form)) before (Err e) after
  unfolding parsed_content
  version_refused e after h =
      writes_as none _ 4 _ _ before _ after content_spelled (writes_refused value none _ _ 4 (version ∷ []) (declared_bytes form version) before mid e after h)

  pub content_written : (x : Read ℕ) (s : Result (Read ⊤) Refused) (after : List ℕ) → Writes value (λ bs. byte bs 1 last_version 3 4) 4 (version ∷ []) before (Ok x) mid → x.value ≡ version
      → Writes none (λ bs. after_version bs x.value x.next) x.next (declared_bytes form x.value) mid s after
      → Writes none parsed_content 4 (content (decoded form)) before s after
  unfolding parsed_content
  content_written x s after h same f =
      writes_as none _ 4 _ _ before s after content_spelled
      (writes_then value none _ _ 4 (version ∷ []) (declared_bytes form version) before mid x s after h
      (λ a k.
      subst (λ (v : ℕ). Writes none (λ bs. after_version bs v x.next) x.next (declared_bytes form version) mid s after) (sym k)
      (subst (λ (v : ℕ). Writes none (λ bs. after_version bs x.value x.next) x.next (declared_bytes form v) mid s after) same f)))

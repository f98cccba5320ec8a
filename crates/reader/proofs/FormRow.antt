-- The form that the reader fills: the count of the predicates, the rules, the arities and the version. Assumes nothing.
use mathlib.Core.Path.{◌≡◌, refl, sym, ap, ◌∙◌, subst, fun_ext}
use mathlib.Core.List.{List, [], ◌∷◌, ◌++◌, append_assoc}
use Prim.Native.Nat.{ℕ, zero, suc, ◌+◌, ◌-◌, ◌≤◌}
use native.Mathlib.Omega.{arith}
use lib.ListN.{length, take, drop, set, length-append, length-set}
use lib.Seq.{take_at, drop_at, set_at}
use borrow.Author.Tests.{eq-eqb, ne_eqb}
use Rattle.std.specs.declared.result.Result.{Result}
use Rattle.std.specs.declared.result.Result.TheVariants.{Ok, Err}
use Rattle.refusal.specs.declared.Refusal.TheVariants.{End}
use Rattle.refusal.specs.declared.Refused.{Refused}
use Rattle.model.specs.Lists.{padded, collect}
use Rattle.model.specs.Limits.{last_version}
use Rattle.model.specs.Rules.{Rule, wide, most_predicates}
use Rattle.model.specs.Format.{good, and_then, many, byte, number, signed, rule_set}
use Rattle.model.specs.Form.{rule_row, encoded}
use Rattle.laws_format.proofs.Format.{and_then_assoc}
use Rattle.parsing.specs.Step.{zeros, Filled, none, Arities, parsed_rules}
use Rattle.reader.specs.Parts.{rules_row, after_arities, after_count}
use Rattle.parsing.specs.declared.Parsed.{Parsed as Read}
use Rattle.parsing.proofs.Lists.{zeros_suc, length_zeros, zeros_length, padded_zeros}
use Rattle.parsing.proofs.Parsing.{continues, filled_good, filled_bad, byte_good}
use Rattle.parsing.proofs.Many.{many_length, many_at}

-- the lists that the form goes through: the count and the version are set, the arities are copied, the rules are filled

abbrev pub first : List ℕ → ℕ → List ℕ → List ℕ
first form version arities = set (set form 0 (length arities)) 7810 version

abbrev pub listed : List ℕ → ℕ → List ℕ → List ℕ → List ℕ
listed form version arities copied =
    take 6786 (first form version arities) ++ (copied ++ drop ((6786 + length arities) - 6786) (drop 6786 (first form version arities)))

abbrev pub ruled : List ℕ → ℕ → List ℕ → List ℕ → List ℕ → List ℕ
ruled form version arities copied rules = take 1 (listed form version arities copied) ++ (rules ++ drop 6785 (drop 1 (listed form version arities copied)))

padded_cons : (m x : ℕ) (xs : List ℕ) → padded (suc m) (x ∷ xs) ≡ x ∷ padded m xs
padded_cons m x xs =
    let e : suc m - suc (length xs) ≡ m - length xs = omega arith in
    padded_zeros (suc m) (x ∷ xs) ∙ ap (λ (k : ℕ). (x ∷ xs) ++ zeros k) e ∙ ap (λ (ys : List ℕ). x ∷ ys) (sym (padded_zeros m xs))

zeros_append : (m k : ℕ) → zeros (m + k) ≡ zeros m ++ zeros k
unfolding zeros
zeros_append zero k = let e : 0 + k ≡ k = omega arith in ap zeros e
zeros_append (suc m) k = let e : suc m + k ≡ suc (m + k) = omega arith in ap zeros e ∙ ap (λ (xs : List ℕ). 0 ∷ xs) (zeros_append m k)

zeros_two : zeros 2 ≡ 0 ∷ 0 ∷ []
unfolding zeros
zeros_two = refl

-- the places of the rules and of their count, of the arities, and two behind them
parts : zeros 7811 ≡ (zeros 6785 ++ zeros 1024) ++ (0 ∷ 0 ∷ [])
parts =
    zeros_append 6785 1026 ∙ ap (λ (xs : List ℕ). zeros 6785 ++ xs) (zeros_append 1024 2 ∙ ap (λ (xs : List ℕ). zeros 1024 ++ xs) zeros_two)
    ∙ sym (append_assoc (zeros 6785) (zeros 1024) (0 ∷ 0 ∷ []))

module _ (form : List ℕ) (version : ℕ) (arities : List ℕ) (z : form ≡ zeros 7812) where
  abbrev n : ℕ
  n = length arities

  abbrev behind : List ℕ
  behind = version ∷ 0 ∷ []

  first_is : first form version arities ≡ n ∷ (zeros 6785 ++ (zeros 1024 ++ behind))
  first_is =
      let front : List ℕ = (n ∷ zeros 6785) ++ zeros 1024 in
      let whole : set form 0 n ≡ front ++ (0 ∷ 0 ∷ []) =
      ap (λ (xs : List ℕ). set xs 0 n) (z ∙ zeros_suc 7811) ∙ ap (λ (xs : List ℕ). n ∷ xs) parts
      in
      ap (λ (xs : List ℕ). set xs 7810 version) whole
      ∙ set_at front 0 (0 ∷ []) version 7810 (omega (arith, length-append (n ∷ zeros 6785) (zeros 1024), length_zeros 6785, length_zeros 1024))
      ∙ append_assoc (n ∷ zeros 6785) (zeros 1024) behind

  pub first_length : length (first form version arities) ≡ 7812
  first_length = length-set (set form 0 n) 7810 version ∙ length-set form 0 n ∙ zeros_length 7812 form z

  module _ (few : n ≤ 1024) where
    -- the places of the arities that there are not
    rest_is : drop n (zeros 1024 ++ behind) ≡ zeros (1024 - n) ++ behind
    rest_is =
        let e : 1024 ≡ n + (1024 - n) = omega arith in
        ap (λ (xs : List ℕ). drop n (xs ++ behind)) (ap zeros e ∙ zeros_append n (1024 - n))
        ∙ ap (drop n) (append_assoc (zeros n) (zeros (1024 - n)) behind)
        ∙ drop_at (zeros n) (zeros (1024 - n) ++ behind) n (length_zeros n)

    module _ (copied : List ℕ) (c : copied ≡ arities) where
      listed_is : listed form version arities copied ≡ n ∷ (zeros 6785 ++ (padded 1024 arities ++ behind))
      listed_is =
          let t : take 6786 (first form version arities) ≡ n ∷ zeros 6785 =
          ap (take 6786) first_is ∙ ap (λ (xs : List ℕ). n ∷ xs) (take_at (zeros 6785) (zeros 1024 ++ behind) 6785 (length_zeros 6785))
          in
          let d : drop 6786 (first form version arities) ≡ zeros 1024 ++ behind =
          ap (drop 6786) first_is ∙ drop_at (zeros 6785) (zeros 1024 ++ behind) 6785 (length_zeros 6785)
          in
          let w : (6786 + n) - 6786 ≡ n = omega arith in
          rw (t, d, w, rest_is, c, padded_zeros, append_assoc)

      pub listed_length : length (listed form version arities copied) ≡ 7812
      listed_length =
          ap length listed_is
          ∙ rw padded_zeros
          (omega (arith, length-append (zeros 6785) ((arities ++ zeros (1024 - n)) ++ behind), length-append (arities ++ zeros (1024 - n)) behind, length-append arities (zeros (1024 - n)), length_zeros 6785, length_zeros (1024 - n)))

      pub rules_zeros : take 6785 (drop 1 (listed form version arities copied)) ≡ zeros 6785
      rules_zeros = ap (λ (xs : List ℕ). take 6785 (drop 1 xs)) listed_is ∙ take_at (zeros 6785) (padded 1024 arities ++ behind) 6785 (length_zeros 6785)

      ruled_is : (rules : List ℕ) → ruled form version arities copied rules ≡ n ∷ (rules ++ (padded 1024 arities ++ behind))
      ruled_is rules =
          let d : drop 6785 (drop 1 (listed form version arities copied)) ≡ padded 1024 arities ++ behind =
          ap (λ (xs : List ℕ). drop 6785 (drop 1 xs)) listed_is ∙ drop_at (zeros 6785) (padded 1024 arities ++ behind) 6785 (length_zeros 6785)
          in
          rw (d, listed_is)

      -- what is left where all is good
      pub form_encoded : (v : ℕ) (rules : List ℕ) (rs : List Rule) → version ≡ v → rules ≡ rules_row rs
          → ruled form version arities copied rules ≡ encoded (record { version = v; fixed = 0; arities = arities; rules = rs })
      unfolding encoded rules_row
      form_encoded v rules rs e f =
          ruled_is rules
          ∙ ap (λ (xs : List ℕ). n ∷ (xs ++ (padded 1024 arities ++ behind))) (f ∙ padded_cons 6784 (length rs) (collect rule_row rs))
          ∙ ap (λ (x : ℕ). encoded (record { version = x; fixed = 0; arities = arities; rules = rs })) e

-- the end of the bytes

module _ (bs : List ℕ) (version : ℕ) (arities : List ℕ) (i e : ℕ) (rs : List Rule) (left : List ℕ) (p : parsed_rules bs (signed version arities) i ≡ good rs e) where
  pub ends_good : e ≡ length bs → left ≡ encoded (record { version = version; fixed = 0; arities = arities; rules = rs })
      → Filled none encoded (after_arities bs version arities i) (Ok (record { value = tt; next = e })) left
  unfolding after_arities
  ends_good h l =
      continues _ _ _ _ _ _ rs e p
      (filled_good none encoded _ left (record { version = version; fixed = 0; arities = arities; rules = rs }) tt e (rw (eq-eqb e (length bs) h)) refl l)

  pub ends_bad : (e ≡ length bs → ⊥) → Filled none encoded (after_arities bs version arities i) (Err (record { refusal = End; place = e })) left
  unfolding after_arities
  ends_bad h = continues _ _ _ _ _ _ rs e p (filled_bad none encoded _ left _ (rw (ne_eqb e (length bs) h)))

-- what follows the count of predicates, once the arities are read

module _ (bs : List ℕ) (n j k : ℕ) (ar : List ℕ) (p : many n (byte bs 1 4 4) j ≡ good ar k) where
  pub arities_good : 1 ≤ n → n ≤ 1024 → Arities ar
  arities_good h l =
      let e = many_length n (byte bs 1 4 4) j ar k p in
      record {
        some = omega arith;
        few = omega arith;
        small = many_at (λ (v : ℕ). v ≤ 4) (byte bs 1 4 4) 0 (omega arith) (λ i v m f. (byte_good bs 1 4 4 i v m f).most) n j ar k p;
      }

  pub arities_taken : (places : List ℕ) → places ≡ padded 1024 ar → take n places ≡ ar
  arities_taken places e = rw (e, padded_zeros) (take_at ar (zeros (1024 - length ar)) n (many_length n (byte bs 1 4 4) j ar k p))

  pub count_filled : (version : ℕ) (taken left : List ℕ) (r : Result (Read (Unit {0})) Refused) → taken ≡ ar → Filled none encoded (after_arities bs version taken k) r left
      → Filled none encoded (after_count bs version n j) r left
  unfolding after_count
  count_filled version taken left r t h =
      continues _ _ _ _ _ _ ar k p (subst (λ (a : List ℕ). Filled none encoded (after_arities bs version a k) r left) t h)

-- the whole rule set, by its parts
pub rule_set_parts : (bs : List ℕ) → rule_set bs ≡ and_then (byte bs 1 last_version 3 4) (λ v i. and_then (number (wide v) bs 1 (most_predicates v) 4 i) (λ n j. after_count bs v n j))
unfolding rule_set after_count after_arities parsed_rules
rule_set_parts bs =
    ap (and_then (byte bs 1 last_version 3 4))
    (fun_ext (λ v. fun_ext (λ i. ap (and_then (number (wide v) bs 1 (most_predicates v) 4 i))
    (fun_ext (λ n. fun_ext (λ j. ap (and_then (many n (byte bs 1 4 4) j)) (fun_ext (λ arities. fun_ext (λ k. sym (and_then_assoc (byte bs 0 64 5 k) _ _))))))))))

-- The row of a rule: its body's group, the count of its disjuncts, and their groups. Assumes nothing.
use mathlib.Core.Path.{◌≡◌, refl, sym, ap, ◌∙◌}
use mathlib.Core.List.{List, ◌∷◌, ◌++◌, append_assoc, append-nil}
use Prim.Native.Nat.{ℕ, suc, ◌+◌, ◌-◌, ◌≤◌}
use native.Mathlib.Omega.{arith}
use lib.ListN.{length, take, drop, set, length-append, length-set}
use lib.Seq.{take_at, drop_at}
use Rattle.std.specs.declared.option.Option.TheVariants.{Some, None}
use Rattle.std.specs.declared.result.Result.{Result}
use Rattle.std.specs.declared.result.Result.TheVariants.{Ok, Err}
use Rattle.refusal.specs.declared.Refusal.{Refusal}
use Rattle.refusal.specs.declared.Refused.{Refused}
use Rattle.model.specs.Lists.{padded, collect}
use Rattle.model.specs.Rules.{Atom}
use Rattle.model.specs.Format.{good, many, byte, Signature, atoms, rule}
use Rattle.model.specs.Form.{group, rule_row}
use Rattle.parsing.specs.Step.{zeros, Filled, none, parsed_rules}
use Rattle.reader.specs.Parts.{rules_row}
use Rattle.parsing.specs.Heads.{fault}
use Rattle.parsing.specs.declared.Parsed.{Parsed as Read}
use Rattle.parsing.proofs.Lists.{zeros_suc, length_zeros, drop_zeros, take_zeros, padded_zeros}
use Rattle.parsing.proofs.Parsing.{continues, filled_good, filled_bad}
use Rattle.reader.proofs.Rows.{counted_filled}
use Rattle.parsing.proofs.Heads.{of, sound_good, sound_bad}

-- the lists that the row goes through: the body is filled, the count is set, the disjuncts are filled

abbrev pub bodied : List ℕ → List ℕ → List ℕ
bodied row left = take 1 row ++ (left ++ drop 21 (drop 1 row))

abbrev pub counted : List ℕ → List ℕ → ℕ → List ℕ
counted row left n = set (bodied row left) 0 n

abbrev pub headed : List ℕ → List ℕ → ℕ → List ℕ → List ℕ
headed row left n heads = take 22 (counted row left n) ++ (heads ++ drop (length (counted row left n) - 22) (drop 22 (counted row left n)))

module _ (row : List ℕ) (z : row ≡ zeros 106) where
  pub body_zeros : take 21 (drop 1 row) ≡ zeros 21
  body_zeros = let h : 21 ≤ 105 = omega arith in rw (z, drop_zeros, take_zeros 21 105 h)

  pub body_length : (left : List ℕ) → length left ≡ length (take 21 (drop 1 row)) → length left ≡ 21
  body_length left e = e ∙ ap length body_zeros ∙ length_zeros 21

  module _ (left : List ℕ) (n : ℕ) (l : length left ≡ 21) where
    bodied_is : bodied row left ≡ 0 ∷ (left ++ zeros 84)
    bodied_is = rw (z, drop_zeros, drop_zeros, zeros_suc 105)

    counted_is : counted row left n ≡ n ∷ (left ++ zeros 84)
    counted_is = rw bodied_is

    pub bodied_length : length (bodied row left) ≡ 106
    bodied_length = rw (bodied_is, length-append, l, length_zeros)

    pub counted_length : length (counted row left n) ≡ 106
    counted_length = length-set (bodied row left) 0 n ∙ bodied_length

    rest_is : drop 22 (counted row left n) ≡ zeros 84
    rest_is = rw (counted_is, drop_at left (zeros 84) 21 l)

    pub head_zeros : take (length (counted row left n) - 22) (drop 22 (counted row left n)) ≡ zeros 84
    head_zeros = let h : 84 ≤ 84 = omega arith in rw (counted_length, rest_is, take_zeros 84 84 h)

    headed_is : (heads : List ℕ) → headed row left n heads ≡ n ∷ (left ++ heads)
    unfolding zeros
    headed_is heads =
        rw (counted_length, rest_is, drop_zeros, append-nil, counted_is, take_at left (zeros 84) 21 l)

    pub headed_rule : (b : List Atom) (ds : List (List Atom)) (heads : List ℕ) → left ≡ group b → heads ≡ padded 84 (collect group ds) → length ds ≡ n
        → headed row left n heads ≡ rule_row (of b ds)
    unfolding rule_row
    headed_rule b ds heads e f g =
        let w : length (group b) ≡ 21 = ap length (sym e) ∙ l in
        let s : length (length ds ∷ (group b ++ collect group ds)) ≡ suc (21 + length (collect group ds)) = rw (length-append, w) in
        let m : 106 - suc (21 + length (collect group ds)) ≡ 84 - length (collect group ds) = omega arith in
        headed_is heads
        ∙ rw (f, padded_zeros 84 (collect group ds), padded_zeros, s, m, e, g)
        (ap (λ (xs : List ℕ). n ∷ xs) (sym (append_assoc (group b) (collect group ds) (zeros (84 - length (collect group ds))))))

-- the parse of a rule, once all of it is read

module _ (bs : List ℕ) (sig : Signature) (i j n k e : ℕ) (b : List Atom) (ds : List (List Atom)) (left : List ℕ) (p : atoms bs sig i ≡ good b j) (q : byte bs 1 4 6 j ≡ good n k) (s : many n (atoms bs sig) k ≡ good ds e) where
  pub rule_good : fault (of b ds) ≡ None → left ≡ rule_row (of b ds) → Filled none rule_row (rule bs sig i) (Ok (record { value = tt; next = e })) left
  unfolding rule
  rule_good f l =
      continues _ _ _ _ _ _ b j p
      (continues _ _ _ _ _ _ n k q (continues _ _ _ _ _ _ ds e s (filled_good none rule_row _ left (of b ds) tt e (sound_good (of b ds) i e f) refl l)))

  pub rule_bad : (x : Refusal) → fault (of b ds) ≡ Some x → Filled none rule_row (rule bs sig i) (Err (record { refusal = x; place = i })) left
  unfolding rule
  rule_bad x f =
      continues _ _ _ _ _ _ b j p
      (continues _ _ _ _ _ _ n k q (continues _ _ _ _ _ _ ds e s (filled_bad none rule_row _ left _ (sound_bad (of b ds) i e x f))))

-- the count of the rules, and the rules
pub rules_filled : (bs : List ℕ) (sig : Signature) (i n j : ℕ) (place left : List ℕ) (r : Result (Read (Unit {0})) Refused) → byte bs 0 64 5 i ≡ good n j → place ≡ zeros 6785
    → Filled none (λ rs. padded 6784 (collect rule_row rs)) (many n (rule bs sig) j) r left
    → Filled none rules_row (parsed_rules bs sig i) r (take 1 (set place 0 n) ++ (left ++ drop (length (set place 0 n) - 1) (drop 1 (set place 0 n))))
unfolding parsed_rules rules_row
rules_filled bs sig i n j place left r e z h = continues _ _ _ _ _ _ n j e (counted_filled none rule_row (rule bs sig) 6784 n j place left r z h)

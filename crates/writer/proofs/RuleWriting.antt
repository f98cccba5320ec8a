-- Rules, as they are written. Assumes nothing.
use mathlib.Core.Path.{◌≡◌, refl, sym, ap, ◌∙◌, subst}
use mathlib.Core.List.{List, [], ◌∷◌, ◌++◌}
use Prim.Native.Nat.{ℕ, suc, ◌+◌}
use native.Mathlib.Omega.{arith}
use lib.ListN.{length, get_or, drop}
use Rattle.model.specs.Lists.{collect}
use Rattle.model.specs.Rules.{Atom, Rule, wide}
use Rattle.model.specs.Format.{Parsed, and_then, many, byte, signed, atoms, sound, rule, atoms_bytes, rule_bytes}
use Rattle.model.specs.Form.{spaced, group_at, rule_at}
use Rattle.laws.proofs.Places.{length_spaced}
use Rattle.std.specs.Prelude.{Result, Ok, Err, Option, Some, None, ⊤}
use Rattle.refusal.specs.declared.Refusal.{Refusal}
use Rattle.refusal.specs.declared.Refused.{Refused}
use Rattle.parsing.specs.Step.{none, atoms_set}
use Rattle.parsing.specs.Heads.{fault}
use Rattle.parsing.specs.declared.Parsed.{Parsed as Read}
use Rattle.writer.specs.Writes.{value, Agree, Written, Writes}
use Rattle.parsing.proofs.Parsing.{step_good, step_bad, and_then_good}
use Rattle.parsing.proofs.Heads.{of, sound_good, sound_bad}
use Rattle.writer.proofs.Writing.{written_bad, written_good, writes_refused, writes_then, writes_as}

-- the test of a rule after its disjuncts

module _ (b : List Atom) (i : ℕ) (heads : List ℕ → Parsed (List (List Atom))) (k : ℕ) (spelled before after : List ℕ) where
  abbrev tested : List ℕ → Parsed Rule
  tested bs = and_then (heads bs) (λ ds l. sound (of b ds) i l)

  abbrev fault_in : List (List Atom) → Option Refusal
  fault_in ds = fault (of b ds)

  pub heads_refused : (e : Refused) (left : List ℕ) → Writes fault_in heads k spelled before (Err e) after → Writes none tested k spelled before (Err e) left
  unfolding and_then
  heads_refused e left h =
      record { run = λ bs rest d g. let f = step_bad _ (heads bs) _ _ (h.run bs rest d g).answer in written_bad none _ bs rest left e (rw f) }

  module _ (x : Read (Option Refusal)) (h : Writes fault_in heads k spelled before (Ok x) after) where
    pub heads_sound : x.value ≡ None → Writes none tested k spelled before (Ok (record { value = tt; next = x.next })) after
    heads_sound z = record { run = λ bs rest d g. go bs rest d g }
      where
        go : (bs rest : List ℕ) → drop k bs ≡ spelled ++ rest → Agree bs k before → Written none (tested bs) bs rest (Ok (record { value = tt; next = x.next })) after
        go bs rest d g =
            let y = h.run bs rest d g in
            let a = step_good _ (heads bs) x.value x.next y.answer in
            written_good none _ bs rest after (of b a.result) tt x.next (and_then_good _ _ _ _ a.parse ∙ sound_good (of b a.result) i x.next (a.kept ∙ z)) refl
            (y.stored a.result x.next a.parse)
            (y.left a.result x.next a.parse)

    pub heads_unsound : (f : Refusal) (left : List ℕ) → x.value ≡ Some f → Writes none tested k spelled before (Err (record { refusal = f; place = i })) left
    heads_unsound f left z = record { run = λ bs rest d g. go bs rest d g }
      where
        go : (bs rest : List ℕ) → drop k bs ≡ spelled ++ rest → Agree bs k before → Written none (tested bs) bs rest (Err (record { refusal = f; place = i })) left
        go bs rest d g =
            let y = h.run bs rest d g in
            let a = step_good _ (heads bs) x.value x.next y.answer in
            written_bad none _ bs rest left _ (and_then_good _ _ _ _ a.parse ∙ sound_bad (of b a.result) i x.next f (a.kept ∙ z))

-- body, count and disjuncts

module _ (form : List ℕ) (version : ℕ) (arities : List ℕ) (at i v : ℕ) (before mid : List ℕ) (here : v ≡ get_or form at 0) (place : ℕ) (there : place ≡ at + 1) where
  abbrev heads_from : ℕ → List (List Atom)
  heads_from n = spaced (group_at form arities) 21 n (at + 22)

  abbrev later : List ℕ
  later = (v ∷ []) ++ collect (atoms_bytes (wide version)) (heads_from v)

  abbrev body : List ℕ
  body = atoms_bytes (wide version) (group_at form arities place)

  abbrev whole : List ℕ
  whole = rule_bytes (wide version) (rule_at form arities at)

  rule_spelled : body ++ later ≡ whole
  unfolding rule_bytes rule_at
  rule_spelled =
      let o : place ≡ suc at = omega arith in
      let s : later ≡ length (heads_from v) ∷ collect (atoms_bytes (wide version)) (heads_from v) = ap (λ (x : ℕ). x ∷ collect (atoms_bytes (wide version)) (heads_from v)) (sym (length_spaced (group_at form arities) 21 v (at + 22))) in
      rw (o, s, here)

  pub body_refused : (e : Refused) (after : List ℕ) → Writes atoms_set (λ bs. atoms bs (signed version arities) i) i body before (Err e) mid
      → Writes none (λ bs. rule bs (signed version arities) i) i whole before (Err e) after
  unfolding rule
  body_refused e after h =
      writes_as none _ i _ _ before _ after rule_spelled (writes_refused atoms_set none (λ bs. atoms bs (signed version arities) i) _ i body later before mid e after h)

  module _ (x : Read ℕ) (h : Writes atoms_set (λ bs. atoms bs (signed version arities) i) i body before (Ok x) mid) (mid2 : List ℕ) where
    past_body : (s : Result (Read ⊤) Refused) (after : List ℕ)
        → ((b : List Atom) → atoms_set b ≡ x.value
        → Writes none (λ bs. and_then (byte bs 1 4 6 x.next) (λ n k. and_then (many n (atoms bs (signed version arities)) k) (λ ds l. sound (of b ds) i l))) x.next later mid s after)
        → Writes none (λ bs. rule bs (signed version arities) i) i whole before s after
    unfolding rule
    past_body s after f =
        writes_as none _ i _ _ before s after rule_spelled (writes_then atoms_set none (λ bs. atoms bs (signed version arities) i) _ i body later before mid x s after h f)

    pub count_refused : (e : Refused) (after : List ℕ) → Writes value (λ bs. byte bs 1 4 6 x.next) x.next (v ∷ []) mid (Err e) mid2
        → Writes none (λ bs. rule bs (signed version arities) i) i whole before (Err e) after
    count_refused e after f =
        past_body _ after (λ b k. writes_refused value none (λ bs. byte bs 1 4 6 x.next) _ x.next (v ∷ []) (collect (atoms_bytes (wide version)) (heads_from v)) mid mid2 e after f)

    pub rule_written : (y : Read ℕ) (s : Result (Read ⊤) Refused) (after : List ℕ) → Writes value (λ bs. byte bs 1 4 6 x.next) x.next (v ∷ []) mid (Ok y) mid2 → y.value ≡ v
        → ((b : List Atom) → x.value ≡ atoms_set b
        → Writes none (λ bs. and_then (many y.value (atoms bs (signed version arities)) y.next) (λ ds l. sound (of b ds) i l)) y.next (collect (atoms_bytes (wide version)) (heads_from y.value)) mid2 s after)
        → Writes none (λ bs. rule bs (signed version arities) i) i whole before s after
    rule_written y s after f same g =
        past_body s after
        (λ b k.
        writes_then value none (λ bs. byte bs 1 4 6 x.next) _ x.next (v ∷ []) (collect (atoms_bytes (wide version)) (heads_from v)) mid mid2 y s after f
        (λ n z. rest b (sym k) n z))
      where
        rest : (b : List Atom) → x.value ≡ atoms_set b → (n : ℕ) → n ≡ y.value
            → Writes none (λ bs. and_then (many n (atoms bs (signed version arities)) y.next) (λ ds l. sound (of b ds) i l)) y.next (collect (atoms_bytes (wide version)) (heads_from v)) mid2 s after
        rest b k n z =
            subst (λ (m : ℕ). Writes none (λ bs. and_then (many m (atoms bs (signed version arities)) y.next) (λ ds l. sound (of b ds) i l)) y.next (collect (atoms_bytes (wide version)) (heads_from v)) mid2 s after) (sym z)
            (subst (λ (m : ℕ). Writes none (λ bs. and_then (many y.value (atoms bs (signed version arities)) y.next) (λ ds l. sound (of b ds) i l)) y.next (collect (atoms_bytes (wide version)) (heads_from m)) mid2 s after) same
            (g b k))

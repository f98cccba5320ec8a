-- A starred trigger, variable by variable, and a row that becomes one. Assumes nothing.
use mathlib.Core.Path.{◌≡◌, refl, sym, ap, ◌∙◌, subst}
use mathlib.Core.Bool.{true, false}
use mathlib.Core.List.{List}
use Prim.Native.Nat.{ℕ, ◌+◌, ◌≤◌, ◌<◌}
use native.Mathlib.Decide.{ℕ_discrete}
use native.Mathlib.Omega.{arith}
use lib.ListN.{length, get_or, set, replicate, length-set}
use lib.Seq.{ext_get_or, get_or-set_same, get_or-set_other}
use Rattle.model.specs.Rules.{names}
use Rattle.laws.proofs.Lists.{get_d_map}
use Rattle.laws.proofs.Places.{zeros_at}
use Rattle.rows.proofs.Triggers.{names_at}
use Rattle.form_variables.specs.Sets.{has}
use Rattle.stage_reasons.specs.Starred.{starred}

module _ (kept : ℕ) (trigger : List ℕ) (v : ℕ) (range : v ≤ 7) where
  value : ℕ → ℕ
  value w = elim (has kept w) [ true ↦ get_or trigger w 0 | false ↦ 0 ]

  starred_value : get_or (starred kept trigger) v 0 ≡ value v
  unfolding starred value
  starred_value = get_d_map value names v 0 0 (omega arith) ∙ ap value (names_at v range)

  pub starred_in : has kept v ≡ true → get_or (starred kept trigger) v 0 ≡ get_or trigger v 0
  unfolding value
  starred_in e = starred_value ∙ rw (e, value)

  pub starred_out : has kept v ≡ false → get_or (starred kept trigger) v 0 ≡ 0
  unfolding value
  starred_out e = starred_value ∙ rw (e, value)

-- a row that has the numbers of the starred trigger before v, and 0 from there on
pub record StarredTo (kept : ℕ) (trigger row : List ℕ) (v : ℕ) : Type 0 where
  pub most : v ≤ 8
  pub size : length row ≡ 8
  pub before : (k : ℕ) → k < v → get_or row k 0 ≡ get_or (starred kept trigger) k 0
  pub behind : (k : ℕ) → v ≤ k → get_or row k 0 ≡ 0

module _ (kept : ℕ) (trigger : List ℕ) where
  pub starred_none : StarredTo kept trigger (replicate 8 0) 0
  starred_none = record { most = omega arith; size = refl; before = λ k h. absurd (omega arith); behind = λ k h. zeros_at 8 k }

  starred_length : length (starred kept trigger) ≡ 8
  unfolding starred
  starred_length = refl

  -- behind all variables it is the starred trigger
  pub starred_all_is : {row : List ℕ} {v : ℕ} → StarredTo kept trigger row v → 8 ≤ v → row ≡ starred kept trigger
  starred_all_is {row} {v} h l = let e = h.size in ext_get_or 0 row (starred kept trigger) (e ∙ sym starred_length) (λ k m. h.before k (omega arith))

  module _ {row : List ℕ} (v : ℕ) (below : v < 8) (h : StarredTo kept trigger row v) where
    -- one variable more: it is in the set, or it is not
    pub starred_with : has kept v ≡ true → StarredTo kept trigger (set row v (get_or trigger v 0)) (v + 1)
    starred_with e =
        record {
          most = omega arith;
          size = length-set row v (get_or trigger v 0) ∙ h.size;
          before = λ k l. go k l (ℕ_discrete k v);
          behind = λ k l. get_or-set_other row v k (get_or trigger v 0) 0 (λ q. omega arith) ∙ h.behind k (omega arith);
        }
      where
        go : (k : ℕ) → k < v + 1 → Dec (k ≡ v) → get_or (set row v (get_or trigger v 0)) k 0 ≡ get_or (starred kept trigger) k 0
        go k l (yes q) =
            subst (λ (u : ℕ). get_or (set row v (get_or trigger v 0)) u 0 ≡ get_or (starred kept trigger) u 0) (sym q)
            (get_or-set_same row v (get_or trigger v 0) 0 (let s = h.size in omega arith) ∙ sym (starred_in kept trigger v (omega arith) e))
        go k l (no q) = get_or-set_other row v k (get_or trigger v 0) 0 q ∙ h.before k (omega arith)

    pub starred_without : has kept v ≡ false → StarredTo kept trigger row (v + 1)
    starred_without e =
        record { most = omega arith; size = h.size; before = λ k l. go k l (ℕ_discrete k v); behind = λ k l. h.behind k (omega arith) }
      where
        go : (k : ℕ) → k < v + 1 → Dec (k ≡ v) → get_or row k 0 ≡ get_or (starred kept trigger) k 0
        go k l (yes q) =
            subst (λ (u : ℕ). get_or row u 0 ≡ get_or (starred kept trigger) u 0) (sym q) (h.behind v (omega arith) ∙ sym (starred_out kept trigger v (omega arith) e))
        go k l (no q) = h.before k (omega arith)

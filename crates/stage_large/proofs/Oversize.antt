-- A search of a rule's unhandled triggers meets a large one where the rule has one: the handled ones are not too large. Assumes nothing.
use mathlib.Core.Path.{◌≡◌, refl, sym, ap, ◌∙◌, subst}
use mathlib.Core.Bool.{Bool, true, false, not, ◌&&◌, ◌||◌}
use mathlib.Core.Logic.{◌⊎◌, inl, inr}
use mathlib.Core.List.{List, [], ◌∷◌, Memᴰ}
use Prim.Native.Nat.{ℕ, ◌≤◌, ◌<◌}
use lib.ListN.{length, replicate}
use borrow.Author.Tests.{not-false}
use Rattle.model.specs.Lists.{any, keep}
use Rattle.model.specs.Rules.{Rule, universal, blockable}
use Rattle.laws.proofs.Bools.{case, and_false}
use Rattle.laws.proofs.Lists.{keep_yes, keep_no, map_mem}
use Rattle.rows.specs.Triggers.{triggers_at, spread}
use Rattle.tables.specs.Rows.{rows}
use Rattle.tables.proofs.Tables.{rows_length}
use Rattle.laws_triggers.specs.Match.{Body, holds_row}
use Rattle.laws_triggers.specs.Next.{triggers_from}
use Rattle.new_triggers.specs.Unhandled.{unhandled_from}
use Rattle.laws_triggers.proofs.Encode.{triggers_are}
use Rattle.new_triggers.proofs.Unhandled.{unhandled_kept}
use Rattle.form.specs.Places.{arities_of, rules_of, rule_of, atoms_of}
use Rattle.form.specs.declared.atoms.Atoms.{Atoms}
use Rattle.triggers.specs.Search.{as_body}
use Rattle.form_variables.specs.Sets.{set_of}
use Rattle.form.proofs.Places.{rule_well_formed}
use Rattle.variable_order.proofs.Bodies.{body_of, encodes}
use Rattle.stage_large.specs.Idle.{idle}
use Rattle.stage_large.specs.Large.{large, HandledSmall}
use Rattle.stage_large.specs.Stage.{Tabled, tables, stage_of}
use Rattle.stage_large.proofs.NothingNew.{idle_unhandled}
use Rattle.stage_large.proofs.Sizes.{arity_few, large_over, large_rule, large_is, any_large_is, is_body, no_large, not_blockable}
use Rattle.stage_large.proofs.Handled.{handled_is}

-- what passes a test is found among those kept, if what is left out fails it
any_kept {ℓ} : {A : Type ℓ} (p q : A → Bool) (xs : List A) → ((x : A) → Memᴰ x xs → q x ≡ false → p x ≡ false) → any p (keep q xs) ≡ any p xs
unfolding any keep
any_kept p q [] h = refl
any_kept p q (x ∷ xs) h = go (any_kept p q xs (λ y m. h y (Memᴰ.tail m))) (h x (Memᴰ.head refl)) (case (q x))
  where
    go : any p (keep q xs) ≡ any p xs → (q x ≡ false → p x ≡ false) → (q x ≡ true) ⊎ (q x ≡ false) → any p (keep q (x ∷ xs)) ≡ p x || any p xs
    go below fails (inl e) = ap (any p) (keep_yes q x xs e) ∙ ap (λ (b : Bool). p x || b) below
    go below fails (inr e) = ap (any p) (keep_no q x xs e) ∙ below ∙ ap (λ (b : Bool). b || any p xs) (sym (fails e))

module _ (form terms : List ℕ) (n : ℕ) (facts : List ℕ) (m old depth : ℕ) (h : Tabled form terms n facts m) (t : HandledSmall form (stage_of terms n facts m old depth)) (i : ℕ)
    (l : i < length (rules_of form)) where
  abbrev r : Rule
  r = rule_of form i

  earlier : old ≤ m
  unfolding tables
  earlier = subst (λ (k : ℕ). old ≤ k) (rows_length 5 m facts) t.earlier

  handled_small : blockable r ≡ true → (xs : List ℕ) → Memᴰ xs (triggers_from (body_of r.body) facts m n (replicate 8 0)) → holds_row (body_of r.body) facts old xs ≡ true
      → large terms (set_of (universal r)) xs ≡ false
  unfolding tables large_over
  handled_small b xs k e =
      let (ms, j, p) = map_mem (spread r) (triggers_at r n (rows 5 m facts))
      (rw (triggers_are (arities_of form) (arity_few form h.held) r (rule_well_formed form h.held i l) (body_of r.body) (encodes r.body) facts m h.room h.padded n) at k) in
      ap (large terms (set_of (universal r))) p
      ∙ large_is form terms n facts m h r j
      ∙ t.small i l b ms (rw (rows_length 10 n terms) j)
      (sym (handled_is form terms n facts m h old depth earlier i l ms) ∙ subst (λ (ys : List ℕ). holds_row (body_of r.body) facts old ys ≡ true) p e)

  unhandled_large : blockable r ≡ true → any (large terms (set_of (universal r))) (unhandled_from (body_of r.body) facts m old n (replicate 8 0))
      ≡ any (large_over (tables terms n facts m)) (triggers_at r (length (tables terms n facts m).terms) (tables terms n facts m).facts)
  unhandled_large b =
      ap (any (large terms (set_of (universal r)))) (unhandled_kept (body_of r.body) facts m old n (replicate 8 0))
      ∙ any_kept (large terms (set_of (universal r))) (λ (ys : List ℕ). not (holds_row (body_of r.body) facts old ys))
      (triggers_from (body_of r.body) facts m n (replicate 8 0)) (λ xs k e. handled_small b xs k (not-false (holds_row (body_of r.body) facts old xs) e))
      ∙ any_large_is form terms n facts m h i l

  idle_not_large : idle r facts m old ≡ true → large_rule (tables terms n facts m) r ≡ false
  unfolding any
  idle_not_large nothing = go (case (blockable r))
    where
      go : (blockable r ≡ true) ⊎ (blockable r ≡ false) → large_rule (tables terms n facts m) r ≡ false
      go (inl b) =
          no_large (tables terms n facts m) r
          (sym (unhandled_large b) ∙ ap (any (large terms (set_of (universal r)))) (idle_unhandled form h.held i l facts m old nothing n (replicate 8 0)))
      go (inr b) = not_blockable (tables terms n facts m) r b

  -- a rule that is not blockable, or that nothing is new for, has no large trigger
  pub no_question : blockable r && not (idle r facts m old) ≡ false → large_rule (tables terms n facts m) r ≡ false
  no_question e = go (and_false (blockable r) (not (idle r facts m old)) e)
    where
      go : (blockable r ≡ false) ⊎ (not (idle r facts m old) ≡ false) → large_rule (tables terms n facts m) r ≡ false
      go (inl b) = not_blockable (tables terms n facts m) r b
      go (inr b) = idle_not_large (not-false (idle r facts m old) b)

  -- the body as it comes out of the form
  module _ (body : Atoms) (set : ℕ) (p : body ≡ atoms_of r.body) (e : set ≡ set_of (universal r)) where
    pub given_large : blockable r ≡ true → any (large terms set) (unhandled_from (as_body body) facts m old n (replicate 8 0))
        ≡ any (large_over (tables terms n facts m)) (triggers_at r (length (tables terms n facts m).terms) (tables terms n facts m).facts)
    given_large b =
        ap (λ (x : Body). any (large terms set) (unhandled_from x facts m old n (replicate 8 0))) (is_body form terms n facts m h i l body p)
        ∙ ap (λ (k : ℕ). any (large terms k) (unhandled_from (body_of r.body) facts m old n (replicate 8 0))) e
        ∙ unhandled_large b

-- Large triggers: the search meets one where the rule has one over rows. Assumes nothing.
use mathlib.Core.Path.{◌≡◌, refl, sym, ap, ◌∙◌, subst}
use mathlib.Core.Bool.{Bool, true, false, ◌&&◌, ◌||◌}
use mathlib.Core.List.{List, [], ◌∷◌, map, Memᴰ}
use Prim.Native.Nat.{ℕ, ◌+◌, ◌≤◌, ◌<◌}
use native.Mathlib.Omega.{arith}
use native.Mathlib.Decide.{dec_lt}
use lib.Dec.{ltb}
use lib.ListN.{length, get_or, replicate}
use Rattle.laws.proofs.Lists.{any_map, any_agree}
use Rattle.model.specs.Lists.{any}
use Rattle.model.specs.Rules.{Rule, Entry, entries, entries_from, count_skolem, universal, blockable}
use Rattle.model.specs.Form.{decoded}
use Rattle.laws.proofs.Bools.{true_and}
use Rattle.laws.specs.Lists.{Distinct}
use Rattle.rows.specs.Tables.{Rows}
use Rattle.rows.specs.Triggers.{triggers_at, spread}
use Rattle.tables.specs.Rows.{rows}
use Rattle.tables.specs.Terms.{total as total_of, size_at}
use Rattle.tables.proofs.Tables.{rows_length}
use Rattle.laws_triggers.specs.Match.{Body, Searchable}
use Rattle.laws_triggers.specs.Next.{triggers_from}
use Rattle.new_triggers.specs.Unhandled.{Apart}
use Rattle.laws_triggers.proofs.Encode.{triggers_are}
use Rattle.new_triggers.proofs.Apart.{apart}
use Rattle.form.specs.Places.{Held, arities_of, rules_of, rule_of, atoms_of}
use Rattle.form.specs.declared.atoms.Atoms.{Atoms}
use Rattle.triggers.specs.Search.{as_body}
use Rattle.form_variables.specs.Sets.{set_of}
use Rattle.form_variables.proofs.Elements.{universal_elements}
use Rattle.form.proofs.Places.{arity_range, rule_well_formed}
use Rattle.rows.specs.Judging.{total, size_in, too_large_at}
use Rattle.stage_output.proofs.Flat.{total_agree, size_in_is}
use Rattle.rows.proofs.Triggers.{trigger_below}
use Rattle.variable_order.proofs.Bodies.{body_of, encodes, small, declared_arity}
use Rattle.laws.proofs.Places.{get_d_beyond}
use Rattle.stage_large.specs.Large.{places_of, large}
use Rattle.stage_large.specs.Stage.{Tabled, tables}
use Rattle.stage_large.proofs.Triggers.{trigger_spread}

false_and : (a b : Bool) → b ≡ false → a && b ≡ false
false_and true b e = e
false_and false b e = refl

-- no arity is above 4
pub arity_few : (form : List ℕ) → Held form → (p : ℕ) → get_or (arities_of form) p 0 ≤ 4
arity_few form h p = go (dec_lt p (length (arities_of form)))
  where
    go : Dec (p < length (arities_of form)) → get_or (arities_of form) p 0 ≤ 4
    go (yes l) = (arity_range form h p l).1
    go (no l) = let e = get_d_beyond (arities_of form) p (omega arith) in omega arith

-- a trigger of a rule over rows has more than 64 places
unfoldable pub large_over : Rows → List ℕ → Bool
large_over s m = ltb 64 (total (size_in (length s.terms) s.terms) m)

-- a blockable rule has such a trigger
pub large_rule : Rows → Rule → Bool
large_rule s r = blockable r && any (large_over s) (triggers_at r (length s.terms) s.facts)

large_rule_entries : (s : Rows) (n : ℕ) (rs : List Rule) → any (λ (e : Entry). large_rule s e.rule) (entries_from n rs) ≡ any (large_rule s) rs
unfolding any entries_from
large_rule_entries s n [] = refl
large_rule_entries s n (r ∷ rs) = ap (λ (b : Bool). large_rule s r || b) (large_rule_entries s (n + count_skolem r r.head) rs)

-- rule by rule
pub too_large_at_rules : (form : List ℕ) (s : Rows) → too_large_at (entries (decoded form)) s ≡ any (large_rule s) (rules_of form)
unfolding too_large_at large_rule large_over entries rules_of
too_large_at_rules form s = large_rule_entries s 0 (decoded form).rules

module _ (form terms : List ℕ) (n : ℕ) (facts : List ℕ) (m : ℕ) (h : Tabled form terms n facts m) where
  pub large_is : (r : Rule) {ms : List ℕ} → Memᴰ ms (triggers_at r n (rows 5 m facts))
      → large terms (set_of (universal r)) (spread r ms) ≡ large_over (tables terms n facts m) ms
  unfolding large places_of large_over tables
  large_is r {ms} k =
      let e = rows_length 10 n terms in
      ap (ltb 64)
      (ap (λ (us : List ℕ). total_of (size_at terms) (map (λ (v : ℕ). get_or (spread r ms) v 0) us)) (universal_elements r)
      ∙ ap (total_of (size_at terms)) (trigger_spread r n (rows 5 m facts) k)
      ∙ sym (total_agree (size_in (length (rows 10 n terms)) (rows 10 n terms)) (size_at terms) ms
      (λ x i. let l = trigger_below r n (rows 5 m facts) k x i in size_in_is h.ordered (length (rows 10 n terms)) x l (omega arith))))

  module _ (i : ℕ) (l : i < length (rules_of form)) where
    abbrev r : Rule
    r = rule_of form i

    pub body_searchable : Searchable (body_of r.body) facts m n
    body_searchable =
        record {
          body = small r.body (arities_of form) (arity_range form h.held) (rule_well_formed form h.held i l).body;
          room = h.room;
          some = h.some;
        }

    -- what is an atom of it is one fact, where the facts stand once
    pub body_apart : Distinct (tables terms n facts m).facts → (old : ℕ) → Apart (body_of r.body) facts m old
    unfolding tables
    body_apart once old =
        apart (arities_of form) facts m old h.padded h.room once (body_of r.body) body_searchable.body
        (declared_arity r.body (arities_of form) (arity_range form h.held) (rule_well_formed form h.held i l).body)

    -- what the search of the rule's body meets
    pub any_large_is : any (large terms (set_of (universal r))) (triggers_from (body_of r.body) facts m n (replicate 8 0))
        ≡ any (large_over (tables terms n facts m)) (triggers_at r (length (tables terms n facts m).terms) (tables terms n facts m).facts)
    unfolding tables
    any_large_is =
        ap (any (large terms (set_of (universal r))))
        (triggers_are (arities_of form) (arity_few form h.held) r (rule_well_formed form h.held i l) (body_of r.body) (encodes r.body) facts m h.room h.padded n)
        ∙ any_map (large terms (set_of (universal r))) (spread r) (triggers_at r n (rows 5 m facts))
        ∙ any_agree (λ (ms : List ℕ). large terms (set_of (universal r)) (spread r ms)) (large_over (tables terms n facts m)) (triggers_at r n (rows 5 m facts)) (λ ms k. large_is r k)
        ∙ ap (λ (c : ℕ). any (large_over (tables terms n facts m)) (triggers_at r c (rows 5 m facts))) (sym (rows_length 10 n terms))

    -- the body as it comes out of the form
    module _ (body : Atoms) (p : body ≡ atoms_of r.body) where
      pub is_body : as_body body ≡ body_of r.body
      is_body = ap as_body p

      pub given_searchable : Searchable (as_body body) facts m n
      given_searchable = subst (λ (b : Body). Searchable b facts m n) (sym is_body) body_searchable

      pub given_apart : Distinct (tables terms n facts m).facts → (old : ℕ) → Apart (as_body body) facts m old
      given_apart once old = subst (λ (b : Body). Apart b facts m old) (sym is_body) (body_apart once old)

-- a rule has a large trigger, or not

module _ (s : Rows) (r : Rule) where
  pub large_rule_is : blockable r ≡ true → any (large_over s) (triggers_at r (length s.terms) s.facts) ≡ true → large_rule s r ≡ true
  unfolding large_rule
  large_rule_is b e = true_and (blockable r) (any (large_over s) (triggers_at r (length s.terms) s.facts)) b e

  pub no_large : any (large_over s) (triggers_at r (length s.terms) s.facts) ≡ false → large_rule s r ≡ false
  unfolding large_rule
  no_large e = false_and (blockable r) (any (large_over s) (triggers_at r (length s.terms) s.facts)) e

  pub not_blockable : blockable r ≡ false → large_rule s r ≡ false
  unfolding large_rule
  not_blockable b = ap (λ (c : Bool). c && any (large_over s) (triggers_at r (length s.terms) s.facts)) b

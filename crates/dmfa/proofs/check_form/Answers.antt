-- `dmfa::check_form` meets its contract: by a small table of terms, or where it was short by a large one. Assumes nothing.
use mathlib.Core.Path.{◌≡◌, sym, ap₂, ◌∙◌, subst}
use mathlib.Core.List.{List, ◌++◌}
use Prim.Native.Nat.{ℕ, ◌≤◌}
use native.Mathlib.Omega.{arith}
use lib.ListN.{length, drop, replicate}
use Rattle.model.specs.Form.{decoded}
use Rattle.form.specs.Places.{Held}
use Rattle.form_functions.specs.Functions.{places, numbering, Numbered}
use Rattle.form.proofs.Places.{few_rules}
use Rattle.form_functions.proofs.Numbering.{numbering_numbered}
use Rattle.rows.specs.Judging.{judged, left_by}
use Rattle.dmfa.proofs.check_form.Goals as goal

-- the functions are numbered
numbered : (form before : List ℕ) → Held form → length before ≡ 256 → before ≡ numbering form (places form) ++ drop (places form) (replicate 256 0) → Numbered form before
numbered form before h long e =
    let room : places form ≤ length before = omega (arith, few_rules form h) in
    subst (Numbered form) (sym e) (numbering_numbered form (drop (places form) (replicate 256 0)) (subst (λ (l : List ℕ). places form ≤ length l) e room))

pub number_functions-requires : goal.number_functions-requires
number_functions-requires c = (c.requires.1, omega (arith, few_rules c.args.form.now c.requires.1))

pub check_small-requires : goal.check_small-requires
check_small-requires c =
    let n = c.number_functions in
    record {
      deep = c.requires.0;
      held = c.requires.1;
      numbered = numbered c.args.form.now n.new.before c.requires.1 n.auto.before n.ensures.1;
      terms_long = c.requires.2;
      facts_long = c.requires.3;
    }

pub check_large-requires : goal.check_large-requires
check_large-requires c =
    let n = c.number_functions in
    let d = c.check_small in
    record {
      deep = c.requires.0;
      held = c.requires.1;
      numbered = numbered c.args.form.now n.new.before c.requires.1 n.auto.before n.ensures.1;
      terms_long = omega (arith, d.auto.terms, c.requires.2);
      facts_long = omega (arith, d.auto.facts, c.requires.3);
    }

pub shape_of-terms-in-None : goal.shape_of-terms-in-None
shape_of-terms-in-None c = c.check_large.auto.terms ∙ c.check_small.auto.terms

pub shape_of-facts-in-None : goal.shape_of-facts-in-None
shape_of-facts-in-None c = c.check_large.auto.facts ∙ c.check_small.auto.facts

pub returns-in-None : goal.returns-in-None
returns-in-None c =
    let k = c.in-None.ensures in
    c.check_large.ensures ∙ ap₂ (left_by (judged c.args.depth (decoded c.args.form.now))) k.1 k.2

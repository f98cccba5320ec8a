-- A trigger was handled one stage earlier where all its facts are among the first ones. Assumes nothing.
use mathlib.Core.Path.{◌≡◌, sym, ap, ◌∙◌}
use mathlib.Core.List.{List}
use Prim.Native.Nat.{ℕ, ◌≤◌, ◌<◌}
use native.Mathlib.Omega.{arith}
use lib.ListN.{length}
use Rattle.model.specs.Lists.{all}
use Rattle.model.specs.Rules.{Atom, universal}
use Rattle.rows.specs.Tables.{stands}
use Rattle.rows.specs.Triggers.{numbers, atom_fact, holds_at, spread}
use Rattle.tables.specs.Rows.{rows}
use Rattle.laws_triggers.specs.Match.{holds_row}
use Rattle.laws_triggers.proofs.Encode.{holds_is}
use Rattle.form.specs.Places.{arities_of, rules_of, rule_of}
use Rattle.form.proofs.Places.{rule_well_formed}
use Rattle.rows.specs.Making.{handled}
use Rattle.variable_order.proofs.Bodies.{body_of, encodes}
use Rattle.stage_large.specs.Stage.{Tabled, tables}
use Rattle.stage_large.proofs.Sizes.{arity_few}
use Rattle.stage_output.proofs.Entering.{rows_taken}

pub handled_is : (form terms : List ℕ) (n : ℕ) (facts : List ℕ) (m : ℕ) → Tabled form terms n facts m → (old depth : ℕ) → old ≤ m → (i : ℕ) → i < length (rules_of form) → (ms : List ℕ)
    → holds_row (body_of (rule_of form i).body) facts old (spread (rule_of form i) ms) ≡ handled (record { rows = tables terms n facts m; old = old; depth = depth }) (rule_of form i) ms
unfolding handled tables holds_at
handled_is form terms n facts m h old depth l i k ms =
    let r = rule_of form i in
    holds_is (arities_of form) (arity_few form h.held) r (rule_well_formed form h.held i k) (body_of r.body) (encodes r.body) facts old
    (let a = h.room in omega arith) (λ j p a b c. h.padded j p (omega arith) b c) ms
    ∙ ap (λ (fs : List (List ℕ)). all (λ (a : Atom). stands fs (atom_fact (numbers (universal r) ms) a)) r.body) (sym (rows_taken 5 m old facts l))

-- A rule that nothing is new for has no trigger that is not handled. Assumes nothing.
use mathlib.Core.Path.{◌≡◌}
use mathlib.Core.Bool.{true}
use mathlib.Core.List.{List, []}
use Prim.Native.Nat.{ℕ, ◌<◌}
use lib.ListN.{length}
use Rattle.new_triggers.specs.Unhandled.{unhandled_from}
use Rattle.new_triggers.proofs.Streamed.{nothing_new_unhandled}
use Rattle.form.specs.Places.{Held, rules_of, rule_of, atom_predicates}
use Rattle.form.proofs.Places.{rule_well_formed}
use Rattle.form.proofs.Rows.{predicates_rows}
use Rattle.variable_order.proofs.Bodies.{body_of}
use Rattle.stage_large.specs.Idle.{idle}

pub idle_unhandled : (form : List ℕ) → Held form → (i : ℕ) → i < length (rules_of form) → (facts : List ℕ) (n old : ℕ) → idle (rule_of form i) facts n old ≡ true
    → (terms : ℕ) (start : List ℕ) → unhandled_from (body_of (rule_of form i).body) facts n old terms start ≡ []
idle_unhandled form held i h facts n old =
    let atoms = (rule_of form i).body in
    nothing_new_unhandled (body_of atoms) facts n old (rule_well_formed form held i h).body.few (atom_predicates atoms) (predicates_rows atoms)

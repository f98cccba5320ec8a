-- What the check is given and leaves, as the code has it: the verdict and the caller's tables, or that the room for terms was short. Assumes
-- nothing.
use Rattle.std.specs.Prelude.{◌≡◌, List, ℕ, ◌≤◌, ◌<◌, length, Option, Some, None}
use Rattle.model.specs.Limits.{terms_front, facts_front}
use Rattle.model.specs.Form.{decoded}
use Rattle.form.specs.Places.{Held}
use Rattle.form_functions.specs.Functions.{Numbered}
use Rattle.rows.specs.Judging.{judged, left_by}
use Rattle.judging.specs.declared.verdict.Verdict.{Verdict}
use Rattle.judging.specs.Verdict.{meant}
use Rattle.judging.specs.Judging.{large_room}

-- a table of terms with room for 640
abbrev pub small_room : ℕ
small_room = 7680

-- a depth, a form whose Skolem functions are numbered, and the caller's tables
pub record Checkable (depth : ℕ) (form before terms facts : List ℕ) : Type 0 where
  pub deep : 1 ≤ depth
  pub held : Held form
  pub numbered : Numbered form before
  pub terms_long : terms_front ≤ length terms
  pub facts_long : facts_front ≤ length facts

-- the verdict on the rule set of a form, and the caller's tables before and after
abbrev pub Leaves : ℕ → List ℕ → List ℕ → List ℕ → Verdict → List ℕ → List ℕ → Type 0
Leaves depth form terms₀ facts₀ v terms facts = record { verdict = meant v; terms = terms; facts = facts } ≡ left_by (judged depth (decoded form)) terms₀ facts₀

-- so it is, unless a room of so many numbers for the stages' terms was short: then the caller's tables stay as they were
abbrev pub CheckedAs : ℕ → List ℕ → ℕ → List ℕ → List ℕ → Option Verdict → List ℕ → List ℕ → Type 0
CheckedAs depth form room terms₀ facts₀ (Some v) terms facts = Leaves depth form terms₀ facts₀ v terms facts
CheckedAs depth form room terms₀ facts₀ None terms facts = (room < large_room) × (terms ≡ terms₀) × (facts ≡ facts₀)

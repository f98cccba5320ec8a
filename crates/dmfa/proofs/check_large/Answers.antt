-- `dmfa::check_large` meets its contract: the room is not short. Assumes nothing.
use mathlib.Core.Path.{refl, subst}
use mathlib.Core.List.{List}
use Prim.Native.Nat.{ℕ}
use native.Mathlib.Omega.{arith}
use Rattle.std.specs.Prelude.{Option, Some, None, IsSome}
use Rattle.terms.proofs.Kept.{kept_terms_none}
use Rattle.facts.proofs.Kept.{kept_none}
use Rattle.judging.specs.declared.verdict.Verdict.{Verdict}
use Rattle.dmfa.specs.Checking.{CheckedAs}
use Rattle.dmfa.proofs.check_large.Goals as goal

pub check_by-requires : goal.check_by-requires
check_by-requires c = (c.requires, kept_terms_none 105264 (omega arith), kept_none 13318 2049 (omega arith) (omega arith))

some : (depth : ℕ) (form terms₀ facts₀ : List ℕ) (r : Option Verdict) (terms facts : List ℕ) → CheckedAs depth form 105264 terms₀ facts₀ r terms facts → IsSome r
some depth form terms₀ facts₀ (Some v) terms facts h = refl
some depth form terms₀ facts₀ None terms facts h = absurd (omega (arith, h.0))

pub unwrap-requires : goal.unwrap-requires
unwrap-requires c = some c.args.depth c.args.form.now c.args.terms.now c.args.facts.now c.check_by.result c.check_by.new.terms c.check_by.new.facts c.check_by.ensures

pub returns : goal.returns
returns c =
    let d = c.check_by in
    subst (λ (r : Option Verdict). CheckedAs c.args.depth c.args.form.now 105264 c.args.terms.now c.args.facts.now r d.new.terms d.new.facts) c.unwrap.ensures d.ensures

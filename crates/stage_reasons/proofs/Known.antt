-- What holds of the value of an Option. Assumes nothing.
use mathlib.Core.Path.{◌≡◌, refl, subst}
use mathlib.Core.Bool.{Bool, true, false}
use Rattle.std.specs.Prelude.{None, Some}
use Rattle.std.specs.Bool.{then_some}
use Rattle.std.specs.Option.{ForSome}
use Rattle.std.proofs.lemmas.Option.{none-some, same_Some}

pub for_some : {A : Type 0} (P : A → Type 0) (x : A) → P x → ForSome (Some x) P
for_some P x p y e = subst P (same_Some x y e) p

pub for_none : {A : Type 0} (P : A → Type 0) → ForSome None P
for_none P y e = absurd (none-some y e)

pub for_then_some : {A : Type 0} (P : A → Type 0) (b : Bool) (x : A) → (b ≡ true → P x) → ForSome (then_some b x) P
for_then_some P true x h = for_some P x (h refl)
for_then_some P false x h = for_none P

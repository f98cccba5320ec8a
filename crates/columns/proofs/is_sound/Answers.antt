-- `columns::is_sound` meets its contract. Assumes nothing.
use mathlib.Core.Path.{sym, ap, ap₂, ◌∙◌}
use mathlib.Core.Bool.{◌&&◌}
use mathlib.Core.List.{List}
use Prim.Native.Nat.{ℕ, ◌+◌}
use native.Mathlib.Omega.{arith}
use lib.Dec.{eqb}
use lib.ListN.{length}
use Rattle.columns_model.specs.Store.{within, store_length}
use Rattle.columns_model.proofs.Sound.{sound_brief, sound_unstated, sound_other, sound_counts}
use Rattle.columns.proofs.is_sound.Goals as goal

pub returns-then-store-lt-HEAD_LENGTH : goal.returns-then-store-lt-HEAD_LENGTH
returns-then-store-lt-HEAD_LENGTH c = sym (sound_brief c.args.store.now c.if-store-lt-HEAD_LENGTH.true)

pub overflow_add-stated_length : goal.overflow_add-stated_length
overflow_add-stated_length c = omega arith

pub returns-then-stated_length-store : goal.returns-then-stated_length-store
returns-then-stated_length-store c =
    let e = c.stated_length.ensures.0 in
    sym (sound_unstated c.args.store.now c.if-store-lt-HEAD_LENGTH.false (λ h. c.if-stated_length-store.true (ap (λ (k : ℕ). k + 4) e ∙ h)))

pub returns-then-store-ne-VERSION : goal.returns-then-store-ne-VERSION
returns-then-store-ne-VERSION c =
    sym (sound_other c.args.store.now c.if-store-lt-HEAD_LENGTH.false (ap (λ (k : ℕ). k + 4) (sym c.stated_length.ensures.0) ∙ c.if-stated_length-store.false) c.if-store-ne-VERSION.true)

pub returns : goal.returns
returns c =
    let bs : List ℕ = c.args.store.now in
    let t = c.count_at.ensures.0 in
    let f = c.count_at-2.ensures.0 in
    c.fits.ensures
    ∙ ap₂ (λ (i k : ℕ). within i k && eqb (store_length i k) (length bs)) t f
    ∙ sym (sound_counts bs c.if-store-lt-HEAD_LENGTH.false (ap (λ (k : ℕ). k + 4) (sym c.stated_length.ensures.0) ∙ c.if-stated_length-store.false) c.if-store-ne-VERSION.false)

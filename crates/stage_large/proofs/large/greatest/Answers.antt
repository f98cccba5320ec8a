-- `stage_large::large::greatest` meets its contract. The loop's invariant: the terms so far are measured, and the greatest size is known.
-- Assumes nothing.
use mathlib.Core.Path.{◌≡◌, refl, sym, ap, ◌∙◌}
use native.Mathlib.Omega.{arith}
use lib.ListN.{length-set}
use borrow.Author.Tests.{lt-ltb, le-ltb}
use Rattle.stage_large.specs.Large.{greatest_size, most_size}
use Rattle.stage_large.proofs.Bounds.{bounds_with}
use Rattle.stage_large.proofs.large.greatest.Goals as goal

pub returns-then-n-gt-TERM_LIMIT : goal.returns-then-n-gt-TERM_LIMIT
unfolding most_size
returns-then-n-gt-TERM_LIMIT c = let e = lt-ltb 512 c.args.n c.if-n-gt-TERM_LIMIT.true in sym (rw (e, most_size) refl)

pub loop-i-init : goal.loop-i-init
unfolding greatest_size
loop-i-init c = (omega arith, omega arith, refl, ((λ k h. absurd (omega arith)), refl))

pub slice_bounds-bound_of-end : goal.slice_bounds-bound_of-end
slice_bounds-bound_of-end c = sym c.loop-i.invariant.2

pub bound_of-bound-requires : goal.bound_of-bound-requires
bound_of-bound-requires c =
    let o = c.requires in
    let i = c.loop-i.i in
    (omega (arith, o.room), o.arity i (omega arith), (λ j h. let b = o.before i j (omega arith) h in omega (arith, c.loop-i.invariant.2)))

pub overflow_cast-bounds : goal.overflow_cast-bounds
overflow_cast-bounds c = omega (arith, c.bound_of-bound.ensures)

pub loop-i-preserved : goal.loop-i-preserved
loop-i-preserved c =
    let l = c.loop-i in
    let e = c.bound_of-bound.ensures in
    let most = c.max-most in (
      omega arith,
      omega (arith, most.ensures, e, l.invariant.1),
      length-set l.bounds l.i c.bound_of-bound.result ∙ l.invariant.2,
      bounds_with c.requires l.bounds l.i l.most most.result c.bound_of-bound.result (omega arith) (omega (arith, l.invariant.2)) e most.ensures l.invariant.3,
    )

pub returns : goal.returns
unfolding most_size
returns c =
    let n = c.args.n in
    let e = le-ltb 512 n c.if-n-gt-TERM_LIMIT.false in
    let i : c.loop-i.i ≡ n = omega (arith, c.loop-i.invariant.0) in
    c.loop-i.invariant.3.1 ∙ ap (greatest_size c.args.terms.now) i ∙ sym (rw (e, most_size) refl)
